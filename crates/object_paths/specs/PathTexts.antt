-- How a path is spelled.
use Rattle.std.specs.Prelude.{ℕ, Bool, false, ◌||◌, List, [], ◌∷◌, ◌++◌, codes, is_some, if◌then◌else◌}
use Rattle.std.specs.Str.{bytes_eq}
use Rattle.unit_signatures.specs.Table.{unit_named}
use Rattle.fc_base.specs.Places.{address_text}
use Rattle.object_paths.specs.declared.slot_name.Component as c
use Rattle.object_paths.specs.declared.slot_name.Component.TheVariants.{X, Y, Z, Turn}
use Rattle.object_paths.specs.declared.slot_name.SlotName.{SlotName}
use Rattle.object_paths.specs.declared.slot_name.SlotName.TheVariants.{Plain, Component, Marked}
use Rattle.object_paths.specs.declared.path.Owner.{Owner}
use Rattle.object_paths.specs.declared.path.Owner.TheVariants.{Here, ByName, ByLabel}
use Rattle.object_paths.specs.declared.path.Path.{Path}

-- the component of a placement, behind the placement's name and a dot
abbrev pub component_text : c.Component → List ℕ
component_text X = codes "Base.x"
component_text Y = codes "Base.y"
component_text Z = codes "Base.z"
component_text Turn = codes "Rotation.Turn"

-- a slot's own name
abbrev pub slot_text : SlotName → List ℕ
slot_text (Plain name) = name
slot_text (Component name part) = name ++ 46 ∷ component_text part
slot_text (Marked place) = address_text place

-- an identifier that alone is the name of a unit, or a flag
abbrev pub is_word : List ℕ → Bool
is_word text = is_some (unit_named text) || bytes_eq text (codes "true") || bytes_eq text (codes "false")

-- the slot is one identifier, which without a dot would be a unit or a flag
abbrev pub needs_dot : SlotName → Bool
needs_dot (Plain name) = is_word name
needs_dot (Component name part) = false
needs_dot (Marked place) = false

-- what stands before the slot: nothing or a dot for the object itself, else a name, or a label in
-- its marks, and a dot
abbrev pub owner_text : Owner → SlotName → List ℕ
owner_text Here slot = if needs_dot slot then 46 ∷ [] else []
owner_text (ByName name) slot = name ++ 46 ∷ []
owner_text (ByLabel label) slot = 60 ∷ 60 ∷ (label ++ 62 ∷ 62 ∷ 46 ∷ [])

-- the spelling of a path, without blanks
unfoldable pub path_text : Path → List ℕ
path_text p = owner_text p.owner p.slot ++ slot_text p.slot
