-- Documents in which all objects are VarSets whose properties have one slot each.
use Rattle.std.specs.Prelude.{◌≡◌, ◌≢◌, [], ◌∷◌}
use Rattle.std.specs.List.{filter_map, AllByRecursion}
use Rattle.std.specs.Option.{option_and_then}
use Rattle.property_types.specs.declared.prop_type.PropType.TheVariants.{Placement}
use Rattle.document_model.specs.declared.content.Content.{Content}
use Rattle.document_model.specs.declared.kind.ObjectKind.TheVariants.{VarSet}
use Rattle.document_model.specs.Counts.{expressions}
use Rattle.document_model.specs.Document.{Document, Object, Property}
use Rattle.document_model.specs.Edited.{new_object, new_property}
use Rattle.document_model.specs.Slots.{rule_of, slots}
use Rattle.doc_tables.specs.Accessors.{tree_by}

-- A property of one slot, in the group Base and without a text of its own.
pub record HasOneSlot (p : Property) : Type 0 where
  pub content : Content
  pub property : p ≡ record (new_property p.name p.prop) { contents = content ∷ [] }
  pub type : p.prop ≢ Placement

-- A VarSet with such properties, and nothing else in it.
pub record IsVarSet (o : Object) : Type 0 where
  pub object : o ≡ record (new_object o.name o.label VarSet) { dynamics = o.dynamics }
  pub properties : AllByRecursion HasOneSlot o.dynamics

-- The objects are VarSets; the expressions of the document are those to which its slots are bound.
pub record HoldsVarSets (d : Document) : Type 0 where
  pub objects : AllByRecursion IsVarSet d.objects
  pub expressions : expressions d ≡ filter_map (λ s. option_and_then tree_by (rule_of d s)) (slots d)
