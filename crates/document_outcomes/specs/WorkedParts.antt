-- What the worked documents are made of.
use Rattle.std.specs.Prelude.{ℕ, ◌*◌, pos, false, List, [], ◌∷◌, None, codes}
use Rattle.unit_signatures.specs.Units.{pure}
use Rattle.object_paths.specs.declared.slot_name.SlotName.TheVariants.{Plain}
use Rattle.object_paths.specs.declared.path.Owner.TheVariants.{Here, ByName}
use Rattle.property_types.specs.declared.prop_type.PropType.{PropType}
use Rattle.property_types.specs.declared.value.Value.{Value}
use Rattle.property_types.specs.declared.value.Value.TheVariants.{Number}
use Rattle.expr_tree.specs.Tree.{Tree, literal, path}
use Rattle.document_model.specs.declared.content.Content.{Content}
use Rattle.document_model.specs.declared.kind.ObjectKind.TheVariants.{VarSet}
use Rattle.document_model.specs.Document.{Object, Property}
use Rattle.document_model.specs.Examples.{bare_object}

-- a pure whole number, as a value and in an expression
abbrev pub whole : ℕ → Value
whole n = Number (record { amount = pos (n * 1000000000); unit = pure })

abbrev pub numeral : ℕ → Tree
numeral n = literal (pos (n * 1000000000)) None

-- a property of the object itself, and one of another object, in an expression
abbrev pub its : List ℕ → Tree
its name = path (record { owner = Here; slot = Plain name })

abbrev pub of_object : List ℕ → List ℕ → Tree
of_object object name = path (record { owner = ByName object; slot = Plain name })

-- a dynamic property with what stands in it
abbrev pub property : PropType → List ℕ → Content → Property
property type name content = record {
  name = name;
  prop = type;
  status = record { read_only = false; hidden = false };
  group = codes "Base";
  doc = [];
  attributes = [];
  contents = content ∷ [];
}

-- a VarSet with those properties
abbrev pub var_set : List ℕ → List Property → Object
var_set name properties = record (bare_object name VarSet) { dynamics = properties }
