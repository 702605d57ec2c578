-- Documents on which the definitions are worked out.
use Rattle.std.specs.Prelude.{◌≡◌, ℕ, pos, false, List, [], ◌∷◌, Some, None, codes}
use Rattle.unit_signatures.specs.Units.{pure}
use Rattle.object_paths.specs.declared.slot_name.SlotName.TheVariants.{Plain}
use Rattle.object_paths.specs.declared.path.Owner.TheVariants.{ByName}
use Rattle.object_paths.specs.declared.path.Path.{Path}
use Rattle.object_paths.specs.Slots.{Slot}
use Rattle.property_types.specs.declared.prop_type.PropType.TheVariants.{Float}
use Rattle.property_types.specs.declared.value.Value.{Value}
use Rattle.property_types.specs.declared.value.Value.TheVariants.{Number}
use Rattle.document_model.specs.declared.content.Content.TheVariants.{Own}
use Rattle.document_model.specs.declared.kind.ObjectKind.{ObjectKind}
use Rattle.document_model.specs.declared.kind.ObjectKind.TheVariants.{VarSet}
use Rattle.document_model.specs.Document.{Document, Object}
use Rattle.document_model.specs.Slots.{slots, type_of, rule_of, own}
use Rattle.document_model.specs.Resolution.{resolve}
use Rattle.document_model.specs.Dependencies.{deps}
use Rattle.document_model.specs.WellFormed.{IsWellFormed}

-- an object with its name as its label, and with nothing in it
abbrev pub bare_object : List ℕ → ObjectKind → Object
bare_object name kind = record {
  name = name;
  label = name;
  kind = kind;
  inputs = [];
  dynamics = [];
  cells = [];
  target = None;
  overrides = [];
  members = [];
  kept = [];
  attributes = [];
  pieces = record { in_object = []; in_properties = []; in_cells = [] };
}

-- a document of those objects, without attributes and foreign pieces
abbrev pub document_of : List Object → Document
document_of objects = record { objects = objects; attributes = []; before = []; between = []; after = [] }

-- the number 2
abbrev pub two : Value
two = Number (record { amount = pos 2000000000; unit = pure })

-- a VarSet V with the Float a, which is 2
abbrev pub varset : Object
varset = record (bare_object (codes "V") VarSet) {
  dynamics =
      record {
        name = codes "a";
        prop = Float;
        status = record { read_only = false; hidden = false };
        group = codes "Base";
        doc = [];
        attributes = [];
        contents = Own two ∷ [];
      } ∷ [];
}

-- the document of V alone
abbrev pub one_varset : Document
one_varset = document_of (varset ∷ [])

-- the slot V.a
abbrev pub slot_a : Slot
slot_a = record { object = codes "V"; name = Plain (codes "a") }

-- the path V.a
abbrev pub path_a : Path
path_a = record { owner = ByName (codes "V"); slot = Plain (codes "a") }

-- V.a is the one slot, a Float that is 2, depends on nothing, and is named by its path from anywhere;
-- and the document is one of the product
pub record OneVarsetWorks : Type 0 where
  pub listed : slots one_varset ≡ slot_a ∷ []
  pub typed : type_of one_varset slot_a ≡ Some Float
  pub ruled : rule_of one_varset slot_a ≡ Some (own two)
  pub independent : deps one_varset slot_a ≡ []
  pub named : (o : Object) → resolve one_varset o path_a ≡ Some slot_a
  pub well_formed : IsWellFormed one_varset
