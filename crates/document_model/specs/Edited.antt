-- Documents with one thing changed.
use Rattle.std.specs.Prelude.{ℕ, false, not, List, [], ◌∷◌, ◌++◌, map, None, if◌then◌else◌, codes}
use Rattle.std.specs.List.{filter}
use Rattle.object_paths.specs.declared.slot_name.SlotName.{SlotName}
use Rattle.object_paths.specs.declared.slot_name.SlotName.TheVariants.{Plain}
use Rattle.object_paths.specs.Slots.{Slot, same_text, same_slot_name}
use Rattle.property_types.specs.declared.plan.InputPlan.{InputPlan}
use Rattle.property_types.specs.declared.prop_type.PropType.{PropType}
use Rattle.property_types.specs.Plans.{Slots}
use Rattle.property_types.specs.Types.{zero_value}
use Rattle.document_model.specs.declared.content.Content.{Content}
use Rattle.document_model.specs.declared.content.Content.TheVariants.{Own}
use Rattle.document_model.specs.declared.kind.ObjectKind.{ObjectKind}
use Rattle.document_model.specs.declared.kind.ObjectKind.TheVariants.{VarSet, Sheet, Link, Feature, Foreign}
use Rattle.document_model.specs.declared.status.Status2.{Status2}
use Rattle.document_model.specs.Document.{Document, Object, Property}
use Rattle.document_model.specs.TypedSlots.{property_slots, placement_slots, link_slots}

-- a slot with zero in it
abbrev pub zeroed : SlotName × PropType → SlotName × Content
zeroed slot = (slot.0, Own (zero_value slot.1))

-- an input of a plan with its default in it
abbrev pub at_default : InputPlan → SlotName × Content
at_default i = (Plain i.name, Own i.default)

-- the first inputs of a feature: the defaults of its plan, and a Placement that is zero
abbrev pub default_inputs : Slots → List (SlotName × Content)
default_inputs plan = map at_default plan.inputs ++ (if plan.placed then map zeroed (placement_slots (codes "Placement")) else [])

-- what stands in the inputs of a new object: of a feature the defaults, of a link zero
abbrev pub first_inputs : ObjectKind → List (SlotName × Content)
first_inputs VarSet = []
first_inputs Sheet = []
first_inputs Link = map zeroed link_slots
first_inputs (Feature plan) = default_inputs plan
first_inputs (Foreign type) = []

-- an object that is new: it has the first inputs of its kind, and nothing else is in it
abbrev pub new_object : List ℕ → List ℕ → ObjectKind → Object
new_object name label kind = record {
  name = name;
  label = label;
  kind = kind;
  inputs = first_inputs kind;
  dynamics = [];
  cells = [];
  target = None;
  overrides = [];
  members = [];
  kept = [];
  attributes = [];
  pieces = record { in_object = []; in_properties = []; in_cells = [] };
}

-- the document with one more object, its last
abbrev pub with_object : Document → Object → Document
with_object d o = record d { objects = d.objects ++ o ∷ [] }

-- the document with the object of that name changed
abbrev pub with_changed : Document → List ℕ → (Object → Object) → Document
with_changed d name change = record d { objects = map (λ (o : Object). if same_text o.name name then change o else o) d.objects }

-- a dynamic property that is new: in the group Base, with zero in its slots
abbrev pub new_property : List ℕ → PropType → Property
new_property name type = record {
  name = name;
  prop = type;
  status = record { read_only = false; hidden = false };
  group = codes "Base";
  doc = [];
  attributes = [];
  contents = map (λ (slot : SlotName × PropType). Own (zero_value slot.1)) (property_slots name type);
}

-- the document with one more dynamic property, the last of an object
abbrev pub with_property : Document → List ℕ → Property → Document
with_property d object p = with_changed d object (λ o. record o { dynamics = o.dynamics ++ p ∷ [] })

-- contents of slots, with another one in the slot of that name
abbrev pub contents_with : SlotName → Content → List (SlotName × PropType) → List Content → List Content
contents_with name new [] contents = contents
contents_with name new (slot ∷ slots) [] = []
contents_with name new (slot ∷ slots) (content ∷ contents) =
    (if same_slot_name slot.0 name then new else content) ∷ contents_with name new slots contents

-- a dynamic property with another content in its slot of that name, if it has one
abbrev pub property_with : SlotName → Content → Property → Property
property_with name new p = record p { contents = contents_with name new (property_slots p.name p.prop) p.contents }

-- an input with another content, if it is the slot of that name
abbrev pub input_with : SlotName → Content → SlotName × Content → SlotName × Content
input_with name new e = if same_slot_name e.0 name then (e.0, new) else e

-- the document with another content in a slot that is an input or of a dynamic property
abbrev pub with_content : Document → Slot → Content → Document
with_content d s new =
    with_changed d s.object (λ o. record o { inputs = map (input_with s.name new) o.inputs; dynamics = map (property_with s.name new) o.dynamics })

-- the document without the object of that name
abbrev pub without_object : Document → List ℕ → Document
without_object d name = record d { objects = filter (λ (o : Object). not (same_text o.name name)) d.objects }

-- an object without its dynamic property of that name
abbrev pub without_dynamic : List ℕ → Object → Object
without_dynamic name o = record o { dynamics = filter (λ (p : Property). not (same_text p.name name)) o.dynamics }

-- the document without a dynamic property of an object
abbrev pub without_property : Document → List ℕ → List ℕ → Document
without_property d object name = with_changed d object (without_dynamic name)

-- the document with another label of the object of that name
abbrev pub with_label : Document → List ℕ → List ℕ → Document
with_label d name new = with_changed d name (λ o. record o { label = new })

-- a dynamic property with another status, if it has that name
abbrev pub property_with_status : List ℕ → Status2 → Property → Property
property_with_status name new p = if same_text p.name name then record p { status = new } else p

-- the document with another status of a dynamic property of an object
abbrev pub with_status : Document → List ℕ → List ℕ → Status2 → Document
with_status d object name new = with_changed d object (λ o. record o { dynamics = map (property_with_status name new) o.dynamics })
