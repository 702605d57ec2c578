-- Documents without a fault, kind by kind.
use Rattle.std.specs.Prelude.{◌≡◌, ℕ, true, false, List, Ok}
use Rattle.fc_base.specs.Graph.{IsIn}
use Rattle.object_paths.specs.declared.slot_name.SlotName.{SlotName}
use Rattle.object_paths.specs.Slots.{Slot}
use Rattle.property_types.specs.declared.prop_type.Sort.{Sort}
use Rattle.expr_tree.specs.References.{Reference, references}
use Rattle.expr_tree.specs.Tree.{Tree}
use Rattle.document_model.specs.declared.content.Content.{Content}
use Rattle.document_model.specs.Document.{Document, Object}
use Rattle.document_model.specs.Slots.{Row, bound, rows, slots, type_of, rule_of}
use Rattle.document_outcomes.specs.Cycles.{leads_back, HasNoCycle}
use Rattle.document_outcomes.specs.Faults.{has_taken_label, lacks_bounds, lacks_object, is_mirrored, is_unknown, is_outside}
use Rattle.document_outcomes.specs.Limits.{has_too_many, has_too_large}
use Rattle.document_outcomes.specs.Sorts.{sort}

-- The document is within its limits. Of each object the label is its own, its targets don't lead back
-- to it, its members that are there have bounds, its target and members are there, each override is
-- of a mirrored slot, and each reference of its expressions is known. Each slot doesn't depend on
-- itself, has a sort, and has no own value outside its type.
pub record HasNoFault (d : Document) : Type 0 where
  pub counts : has_too_many d ≡ false
  pub sizes : has_too_large d ≡ false
  pub labels : (o : Object) → IsIn o d.objects → has_taken_label d o ≡ false
  pub links : (o : Object) → IsIn o d.objects → leads_back d o ≡ false
  pub members : (o : Object) → IsIn o d.objects → (name : List ℕ) → IsIn name o.members → lacks_bounds d name ≡ false
  pub objects : (o : Object) → IsIn o d.objects → lacks_object d o ≡ false
  pub overrides : (o : Object) → IsIn o d.objects → (e : SlotName × Content) → IsIn e o.overrides → is_mirrored d o e.0 ≡ true
  pub references :
      (o : Object) → IsIn o d.objects → (r : Row) → IsIn r (rows d o) → (e : Tree) → r.rule ≡ bound e
      → (x : Reference) → IsIn x (references e) → is_unknown d o x ≡ false
  pub cycles : HasNoCycle d
  pub sorts : (s : Slot) → IsIn s (slots d) → (k : Sort) × (sort d s ≡ Ok k)
  pub values : (s : Slot) → IsIn s (slots d) → is_outside (type_of d s) (rule_of d s) ≡ false
