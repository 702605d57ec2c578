-- Which slot a path names.
use Rattle.std.specs.Prelude.{ℕ, Bool, false, List, Option, Some, None, if◌then◌else◌}
use Rattle.std.specs.List.{find, list_any}
use Rattle.std.specs.Option.{option_map, option_and_then, option_map_or}
use Rattle.fc_base.specs.Places.{Place, address_of, unmarked}
use Rattle.object_paths.specs.declared.slot_name.SlotName.{SlotName}
use Rattle.object_paths.specs.declared.slot_name.SlotName.TheVariants.{Plain, Component, Marked}
use Rattle.object_paths.specs.declared.path.Owner.{Owner}
use Rattle.object_paths.specs.declared.path.Owner.TheVariants.{Here, ByName, ByLabel}
use Rattle.object_paths.specs.declared.path.Path.{Path}
use Rattle.object_paths.specs.Slots.{Slot, same_text}
use Rattle.document_model.specs.declared.kind.ObjectKind.{ObjectKind}
use Rattle.document_model.specs.declared.kind.ObjectKind.TheVariants.{VarSet, Sheet, Link, Feature, Foreign}
use Rattle.document_model.specs.Document.{Document, Object, Property, Cell, object_named, object_labelled}
use Rattle.document_model.specs.Slots.{rows, row_in, slot_of}

-- the object whose slot a path of an object names
abbrev pub owner_of : Document → Object → Owner → Option Object
owner_of d o Here = Some o
owner_of d o (ByName name) = object_named d name
owner_of d o (ByLabel label) = object_labelled d label

-- a slot that an object has
abbrev pub slot_in : Document → Object → SlotName → Option Slot
slot_in d o name = option_map (λ r. slot_of o r.name) (row_in (rows d o) name)

-- the filled cell at a place, marks or not
abbrev pub cell_slot : Document → Object → Place → Option Slot
cell_slot d sheet p = slot_in d sheet (Marked (unmarked p))

-- the place of the cell with that alias
abbrev pub aliased_place : List (Place × Cell) → List ℕ → Option Place
aliased_place cells name =
    option_map (λ (e : Place × Cell). e.0) (find (λ e. option_map_or (λ alias. same_text alias name) e.1.alias false) cells)

-- a dynamic property has that name
abbrev pub has_dynamic : Object → List ℕ → Bool
has_dynamic o name = list_any (λ (p : Property). same_text p.name name) o.dynamics

-- the dynamic property of that name, which hides every alias; else the filled cell with that alias. A
-- placement has components alone, so its plain name names no slot
abbrev pub named_slot : Document → Object → List ℕ → Option Slot
named_slot d sheet name =
    if has_dynamic sheet name then slot_in d sheet (Plain name)
    else option_and_then (cell_slot d sheet) (aliased_place sheet.cells name)

-- a plain name on a sheet is the cell of that address, or else the property or cell of that name
abbrev pub plain_slot : Document → Object → List ℕ → Option Place → Option Slot
plain_slot d sheet name None = named_slot d sheet name
plain_slot d sheet name (Some p) = cell_slot d sheet p

-- the slot of a sheet that a slot name spells
abbrev pub sheet_slot : Document → Object → SlotName → Option Slot
sheet_slot d sheet (Plain name) = plain_slot d sheet name (address_of name)
sheet_slot d sheet (Component name k) = slot_in d sheet (Component name k)
sheet_slot d sheet (Marked p) = cell_slot d sheet p

-- the slot of an object that a slot name spells
abbrev pub spelled_slot : Document → Object → ObjectKind → SlotName → Option Slot
spelled_slot d o VarSet name = slot_in d o name
spelled_slot d o Sheet name = sheet_slot d o name
spelled_slot d o Link name = slot_in d o name
spelled_slot d o (Feature plan) name = slot_in d o name
spelled_slot d o (Foreign type) name = None

-- the slot that a path of an object names, or none
unfoldable pub resolve : Document → Object → Path → Option Slot
resolve d o p = option_and_then (λ owner. spelled_slot d owner owner.kind p.slot) (owner_of d o p.owner)
