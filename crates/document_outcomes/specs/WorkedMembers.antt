-- Compounds, names that hide one another, and entries of features, worked out.
use Rattle.std.specs.Prelude.{◌≡◌, ℕ, ℤ, pos, ◌+ℤ◌, ◌-ℤ◌, true, false, List, [], ◌∷◌, ◌++◌, map, Option, Some, None, Ok, Err, slice_get, codes}
use Rattle.object_paths.specs.declared.slot_name.Component as c
use Rattle.object_paths.specs.declared.slot_name.Component.TheVariants.{X, Y, Z, Turn}
use Rattle.object_paths.specs.declared.slot_name.SlotName.{SlotName}
use Rattle.object_paths.specs.declared.slot_name.SlotName.TheVariants.{Plain, Component}
use Rattle.object_paths.specs.Order.{component_number}
use Rattle.object_paths.specs.Slots.{Slot}
use Rattle.property_types.specs.declared.prop_type.PropType.TheVariants.{Float, Placement}
use Rattle.property_types.specs.declared.value.Value.{Value}
use Rattle.property_types.specs.declared.value.Value.TheVariants.{Number, Flag}
use Rattle.property_types.specs.declared.value.ValueFault.TheVariants.{Range}
use Rattle.property_types.specs.Types.{unit_of}
use Rattle.property_types.specs.Values.{Outcome}
use Rattle.document_model.specs.declared.content.Content.{Content}
use Rattle.document_model.specs.declared.content.Content.TheVariants.{Own, Bound}
use Rattle.document_model.specs.declared.kind.ObjectKind.TheVariants.{Sheet, Feature}
use Rattle.document_model.specs.Document.{Document, Object}
use Rattle.document_model.specs.Examples.{bare_object, document_of}
use Rattle.document_model.specs.LinkedBox.{place_at, mm, plain, origin, box, box_plan, cell_of, cell_at, named}
use Rattle.document_model.specs.WorkedObjects.{compound}
use Rattle.document_model.specs.WorkedRows.{frame}
use Rattle.document_outcomes.specs.Called.{Entry, input_lists, called}
use Rattle.document_outcomes.specs.Faults.{first_fault}
use Rattle.document_outcomes.specs.Full.{Meanings, full, global_part, part_of}
use Rattle.document_outcomes.specs.WorkedLinks.{link_to, target, found, echo, box_and_link}
use Rattle.document_outcomes.specs.WorkedParts.{whole, its, property, var_set}

-- a box with a Height of 1 mm
abbrev pub low_box : Object
low_box = record (bare_object (codes "Low") (Feature box_plan)) {
  inputs =
      (Plain (codes "Length"), Own (mm 3000000000)) ∷ (Plain (codes "Width"), Own (mm 2000000000)) ∷ (Plain (codes "Height"), Own (mm 1000000000)) ∷ origin;
}

-- the compound C of these members, behind a box, a low box and a link to the latter
abbrev pub gathered : List ℕ → List (List ℕ) → Document
gathered first others = document_of (box ∷ low_box ∷ link_to (codes "L") (codes "Low") [] ∷ compound (codes "C") first others ∷ [])

-- features that give their inputs twice, so that a box has all its outputs
abbrev pub twice : Meanings
twice = record { gives = λ plan inputs. map Ok (inputs ++ inputs); composed = λ own target k. part_of target k }

-- the fifth input of a compound is the MinX of its first member, the eleventh that of its second; here the
-- MinX of a box is its Height. A link is a member too, and what has no bounds is none
pub record MembersWork : Type 0 where
  pub first : full twice (gathered (codes "Box") (codes "Low" ∷ [])) (named (codes "C") (codes "MaxY")) ≡ Ok (mm 6600000000)
  pub other : full twice (gathered (codes "Low") (codes "Box" ∷ [])) (named (codes "C") (codes "MaxY")) ≡ Ok (mm 1000000000)
  pub link : full twice (gathered (codes "L") []) (named (codes "C") (codes "MaxY")) ≡ Ok (mm 1000000000)
  pub second : map (λ (e : Entry). slice_get e.inputs 10) (called twice [] (gathered (codes "Box") (codes "Low" ∷ []))) ≡ None ∷ None ∷ None ∷ Some (mm 1000000000) ∷ []
  pub valid : first_fault (gathered (codes "Box") (codes "L" ∷ [])) ≡ None
  pub linked : full twice (document_of (low_box ∷ compound (codes "C") (codes "Low") [] ∷ link_to (codes "L") (codes "C") [] ∷ [])) (named (codes "L") (codes "MaxY")) ≡ Ok (mm 1000000000)
  pub unplaced : first_fault (document_of (frame ∷ compound (codes "C") (codes "F") [] ∷ [])) ≡ Some (found 23 (codes "C"))
  pub no_bounds : first_fault (document_of (target ∷ compound (codes "C") (codes "V") [] ∷ [])) ≡ Some (found 23 (codes "C"))

-- another object, plan or value of an entry makes it another one
pub record EntriesWork : Type 0 where
  pub same : called echo (input_lists echo (box_and_link false)) (box_and_link false) ≡ []
  pub other_object :
      map (λ (e : Entry). e.object) (called echo (map (λ (e : Entry). record e { object = codes "X" }) (input_lists echo (box_and_link false))) (box_and_link false))
      ≡ codes "Box" ∷ codes "L" ∷ []
  pub other_plan :
      map (λ (e : Entry). e.object) (called echo (map (λ (e : Entry). record e { type_name = codes "Part::Cube" }) (input_lists echo (box_and_link false))) (box_and_link false))
      ≡ codes "Box" ∷ codes "L" ∷ []
  pub other_values :
      map (λ (e : Entry). e.object) (called echo (map (λ (e : Entry). record e { inputs = [] }) (input_lists echo (box_and_link false))) (box_and_link false))
      ≡ codes "Box" ∷ codes "L" ∷ []
  pub plan : map (λ (e : Entry). e.type_name) (input_lists echo (box_and_link false)) ≡ codes "Part::Box" ∷ codes "Part::Box" ∷ []

-- ---- names of a sheet

-- a sheet with the property P, whose A1 has the alias P, and whose B1 is `P`
abbrev pub sheet_of : Content → Object
sheet_of content = record (bare_object (codes "S") Sheet) {
  dynamics = property Float (codes "P") content ∷ [];
  cells = (place_at 1 1, record { content = Some (Own (whole 1)); alias = Some (codes "P"); extra = [] }) ∷ cell_of 2 1 (Bound (its (codes "P"))) ∷ [];
}

-- the same with a placement P
abbrev pub sheet_placed : Object
sheet_placed = record (sheet_of (Own (whole 7))) {
  dynamics =
      record (property Placement (codes "P") (Own (mm 0))) { contents = Own (mm 0) ∷ Own (mm 0) ∷ Own (mm 0) ∷ Own (plain 0) ∷ [] } ∷ [];
}

-- a property hides an alias of its name, also where it is a placement, whose plain name names no slot
pub record HiddenAliasesWork : Type 0 where
  pub property : (m : Meanings) → full m (document_of (sheet_of (Own (whole 7)) ∷ [])) (cell_at 2 1) ≡ Ok (whole 7)
  pub placement : first_fault (document_of (sheet_placed ∷ [])) ≡ Some (found 12 (codes "S.B1"))
  pub alias : (m : Meanings) → full m (document_of (record (sheet_of (Own (whole 7))) { dynamics = [] } ∷ [])) (cell_at 2 1) ≡ Ok (whole 1)

-- ---- placements

-- the amount of a part, 0 where it has none
abbrev pub amount_of : Option Value → ℤ
amount_of (Some (Number q)) = q.amount
amount_of _ = pos 0

abbrev pub amount_in : List Value → c.Component → ℤ
amount_in parts k = amount_of (slice_get parts (component_number k))

abbrev pub millimetres : ℤ → Outcome
millimetres n = Ok (Number (record { amount = n; unit = unit_of (pos 1) (pos 0) (pos 0) (pos 0) }))

-- what a placement that is turned a quarter about z, from x to y, makes of one that is turned so too
abbrev pub after_quarter : List Value → List Value → c.Component → Outcome
after_quarter own first X = millimetres (amount_in own X -ℤ amount_in first Y)
after_quarter own first Y = millimetres (amount_in own Y +ℤ amount_in first X)
after_quarter own first Z = millimetres (amount_in own Z +ℤ amount_in first Z)
after_quarter own first Turn = Ok (plain 2000000000)

abbrev pub quarters : Meanings
quarters = record { gives = λ plan inputs. map Ok inputs; composed = after_quarter }

-- a placement of that x and y, turned a quarter
abbrev pub turned_at : ℕ → ℕ → List (SlotName × Content)
turned_at x y =
    (Component (codes "Placement") X, Own (mm x)) ∷ (Component (codes "Placement") Y, Own (mm y))
    ∷ (Component (codes "Placement") Z, Own (mm 0)) ∷ (Component (codes "Placement") Turn, Own (plain 1000000000)) ∷ []

-- a low box at x = 1 mm and a link to it at y = 5 mm, both turned a quarter, that takes the box's
-- placement along
abbrev pub turned_link : Document
turned_link =
    document_of (
    record low_box { inputs = (Plain (codes "Length"), Own (mm 3)) ∷ (Plain (codes "Width"), Own (mm 2)) ∷ (Plain (codes "Height"), Own (mm 1)) ∷ turned_at 1000000000 0 }
    ∷ record (link_to (codes "L") (codes "Low") []) { inputs = turned_at 0 5000000000 ++ (Plain (codes "LinkTransform"), Own (Flag true)) ∷ [] }
    ∷ [])

abbrev pub global : c.Component → Slot
global k = record { object = codes "L"; name = Component (codes "Global") k }

-- the box's x, turned with the link, is added to the link's y; where a part is missing, it is Range
pub record PlacementsWork : Type 0 where
  pub x : full quarters turned_link (global X) ≡ Ok (mm 0)
  pub y : full quarters turned_link (global Y) ≡ Ok (mm 6000000000)
  pub turn : full quarters turned_link (global Turn) ≡ Ok (plain 2000000000)
  pub no_turn : global_part echo Turn (mm 1 ∷ mm 2 ∷ mm 3 ∷ []) ≡ Err Range
  pub own_turn : full echo (box_and_link false) (global Turn) ≡ Ok (plain 0)
