-- The document that objects of the first form make, and its text.
use Rattle.std.specs.Prelude.{◌≡◌, ◌⊎◌, ℕ, ℤ, false, List, [], ◌∷◌, map, codes, None}
use Rattle.unit_signatures.specs.Units.{pure}
use Rattle.property_types.specs.declared.prop_type.PropType.TheVariants.{Float}
use Rattle.property_types.specs.declared.value.Value.{Value}
use Rattle.property_types.specs.declared.value.Value.TheVariants.{Number}
use Rattle.document_model.specs.declared.content.Content.TheVariants.{Own}
use Rattle.document_model.specs.declared.kind.ObjectKind.TheVariants.{VarSet}
use Rattle.document_model.specs.Document.{Document, Object, Property}
use Rattle.fcdoc_file.specs.FirstForm.{FirstProperty, FirstObject, IsFirstForm, first_text, empty_text}

-- a number without unit, by its billionths
abbrev pub pure_number : ℤ → Value
pure_number raw = Number (record { amount = raw; unit = pure })

-- a Float with a value of its own, in the group Base
abbrev pub float_property : FirstProperty → Property
float_property p = record {
  name = p.name;
  prop = Float;
  status = record { read_only = false; hidden = false };
  group = codes "Base";
  doc = [];
  attributes = [];
  contents = Own (pure_number p.value) ∷ [];
}

-- a VarSet whose label is its name
abbrev pub var_set_object : FirstObject → Object
var_set_object o = record {
  name = o.name;
  label = o.name;
  kind = VarSet;
  inputs = [];
  dynamics = map float_property o.properties;
  cells = [];
  target = None;
  overrides = [];
  members = [];
  kept = [];
  attributes = [];
  pieces = record { in_object = []; in_properties = []; in_cells = [] };
}

-- the document with these objects and nothing else
abbrev pub first_document : List FirstObject → Document
first_document objects = record { objects = map var_set_object objects; attributes = []; before = []; between = []; after = [] }

-- the bytes are the text of the document, which has the first form
pub record ReadsFirst (bytes : List ℕ) (d : Document) : Type 0 where
  pub objects : List FirstObject
  pub form : IsFirstForm objects
  pub document : d ≡ first_document objects
  pub text : (bytes ≡ first_text objects) ⊎ ((bytes ≡ empty_text) × (objects ≡ []))
