-- Which names stand at an object: those of its properties and slots, and those in what is kept of its text.
use Rattle.std.specs.Prelude.{ℕ, Bool, false, ◌&&◌, ◌||◌, List, [], ◌∷◌, Option, Some, None, is_some, Result, Ok, Err, codes, if◌then◌else◌}
use Rattle.std.specs.List.{find, filter_map, list_any}
use Rattle.std.specs.Option.{option_and_then, option_map_or}
use Rattle.fcxml_profile.specs.Items.{Tag}
use Rattle.object_paths.specs.declared.slot_name.SlotName.{SlotName}
use Rattle.object_paths.specs.declared.slot_name.SlotName.TheVariants.{Plain, Component, Marked}
use Rattle.object_paths.specs.Slots.{same_text}
use Rattle.property_types.specs.declared.prop_type.PropType.{PropType}
use Rattle.property_types.specs.Reserved.{is_among}
use Rattle.document_model.specs.declared.kind.ObjectKind.{ObjectKind}
use Rattle.document_model.specs.Document.{Document, Object, Property}
use Rattle.document_model.specs.ForeignProperties.{meaning_of}
use Rattle.document_model.specs.KeptText.{first_tag}
use Rattle.document_model.specs.Kinds.{known_names, names_of_kind}
use Rattle.document_model.specs.Resolution.{has_dynamic, spelled_slot}
use Rattle.document_model.specs.Slots.{Row, rows}
use Rattle.document_model.specs.TypedSlots.{input_slots}
use Rattle.document_model.specs.WellFormed.{aliases}

-- a slot of the property of that name: its only one, or one of four; a cell is of no property
abbrev pub is_slot_of : List ℕ → SlotName → Bool
is_slot_of name (Plain other) = same_text other name
is_slot_of name (Component other k) = same_text other name
is_slot_of name (Marked p) = false

-- ---- foreign properties

-- the name, where it can be read
abbrev pub read_name : Option (Result (List ℕ) ℕ) → Option (List ℕ)
read_name None = None
read_name (Some (Ok name)) = Some name
read_name (Some (Err place)) = None

-- the name that a tag gives a property
abbrev pub property_name : Tag → Option (List ℕ)
property_name t = if same_text t.name (codes "Property") then read_name (meaning_of (codes "name") t) else None

-- the names of the foreign properties of an object
abbrev pub foreign_names : Object → List (List ℕ)
foreign_names o = filter_map (λ (piece : List ℕ). option_and_then property_name (first_tag piece)) o.pieces.in_properties

-- ---- all names

-- an input or output of a kind has the name; that of a placement is its one name
abbrev pub is_of_kind : ObjectKind → List ℕ → Bool
is_of_kind kind name = is_among name (names_of_kind kind) || list_any (λ (slot : SlotName × PropType). is_slot_of name slot.0) (input_slots kind)

-- an input, an output, a dynamic or a foreign property of the object has the name, or a cell has it for its alias
abbrev pub is_taken : Object → List ℕ → Bool
is_taken o name = is_of_kind o.kind name || has_dynamic o name || is_among name (foreign_names o) || is_among name (aliases o.cells)

-- the dynamic property of that name
abbrev pub dynamic_named : Object → List ℕ → Option Property
dynamic_named o name = find (λ (p : Property). same_text p.name name) o.dynamics

-- A known property of the object's kind has the name, or a property of one of its slots: an input, an
-- output, a global placement, what a link mirrors or a dynamic property. Or it is the name or the alias of
-- a filled cell, or a foreign property has it.
abbrev pub is_known : Document → Object → List ℕ → Bool
is_known d o name =
    is_among name (known_names o.kind) || list_any (λ (r : Row). is_slot_of name r.name) (rows d o)
    || is_some (spelled_slot d o o.kind (Plain name)) || is_among name (foreign_names o)
