-- Sheets and links that are worked out.
use Rattle.std.specs.Prelude.{◌≡◌, ℕ, Bool, true, false, List, [], ◌∷◌, ◌++◌, map, Some, None, Ok, codes}
use Rattle.object_paths.specs.declared.slot_name.Component.TheVariants.{X, Y, Z, Turn}
use Rattle.object_paths.specs.declared.slot_name.SlotName.{SlotName}
use Rattle.object_paths.specs.declared.slot_name.SlotName.TheVariants.{Plain, Component}
use Rattle.object_paths.specs.Slots.{Slot}
use Rattle.property_types.specs.declared.prop_type.PropType.TheVariants.{Float}
use Rattle.property_types.specs.declared.value.Value.TheVariants.{Flag, Text}
use Rattle.expr_tree.specs.declared.operators.BinaryOp.TheVariants.{Plus, Times}
use Rattle.expr_tree.specs.Tree.{binary}
use Rattle.document_model.specs.declared.content.Content.{Content}
use Rattle.document_model.specs.declared.content.Content.TheVariants.{Own, Bound}
use Rattle.document_model.specs.declared.kind.ObjectKind.TheVariants.{Sheet, Link}
use Rattle.document_model.specs.Document.{Document, Object}
use Rattle.document_model.specs.Examples.{bare_object, document_of}
use Rattle.document_model.specs.LinkedBox.{place_at, mm, plain, origin, cell_of, cell_at, first_three, named, box, linked_box}
use Rattle.document_outcomes.specs.Called.{Entry, input_lists, called}
use Rattle.document_outcomes.specs.Faults.{Fault, first_fault}
use Rattle.document_outcomes.specs.Full.{Meanings, full, part_of}
use Rattle.document_outcomes.specs.WorkedParts.{whole, numeral, its, property, var_set}

-- A1 has that in it, A2 is empty with an alias, A3 is 3 with the alias `width`, A5 is `sum($A1:A3)`, and B5 is
-- `width * 2`
abbrev pub sheet_with : Content → Document
sheet_with first =
    document_of (
    record (bare_object (codes "S") Sheet) {
      cells =
          cell_of 1 1 first
          ∷ (place_at 1 2, record { content = None; alias = Some (codes "empty"); extra = [] })
          ∷ (place_at 1 3, record { content = Some (Own (whole 3)); alias = Some (codes "width"); extra = [] })
          ∷ cell_of 1 5 (Bound first_three)
          ∷ cell_of 2 5 (Bound (binary Times (its (codes "width")) (numeral 2)))
          ∷ [];
    } ∷ [])

-- the sum of the filled cells is 4, and B5 is 6; the sum of none is 0, and no fault; a text among them leaves
-- the sum without a sort
pub record SheetWorks (m : Meanings) : Type 0 where
  pub total : full m (sheet_with (Own (whole 1))) (cell_at 1 5) ≡ Ok (whole 4)
  pub by_alias : full m (sheet_with (Own (whole 1))) (cell_at 2 5) ≡ Ok (whole 6)
  pub valid : first_fault (sheet_with (Own (whole 1))) ≡ None
  pub empty_area : first_fault (document_of (record (bare_object (codes "S") Sheet) { cells = cell_of 1 5 (Bound first_three) ∷ [] } ∷ [])) ≡ None
  pub empty_total :
      full m (document_of (record (bare_object (codes "S") Sheet) { cells = cell_of 1 5 (Bound first_three) ∷ [] } ∷ [])) (cell_at 1 5) ≡ Ok (whole 0)
  pub text : first_fault (sheet_with (Own (Text (codes "one")))) ≡ Some (record { number = 16; subject = codes "S.A5" })

-- a link with that target and those overrides
abbrev pub link_to : List ℕ → List ℕ → List (SlotName × Content) → Object
link_to name target overrides = record (bare_object name Link) {
  inputs = origin ++ (Plain (codes "LinkTransform"), Own (Flag false)) ∷ [];
  target = Some target;
  overrides = overrides;
}

-- V has `a`, which is 2, and `b`, which is `a + 1`
abbrev pub target : Object
target = var_set (codes "V") (property Float (codes "a") (Own (whole 2)) ∷ property Float (codes "b") (Bound (binary Plus (its (codes "a")) (numeral 1))) ∷ [])

-- a link to V with another `a`, and a link to that link
abbrev pub linked : Document
linked = document_of (target ∷ link_to (codes "L") (codes "V") ((Plain (codes "a"), Own (whole 5)) ∷ []) ∷ link_to (codes "K") (codes "L") [] ∷ [])

-- what is not overridden is inherited as the target has it, link by link
pub record LinksWork (m : Meanings) : Type 0 where
  pub inherited : full m linked (named (codes "L") (codes "b")) ≡ Ok (whole 3)
  pub overridden : full m linked (named (codes "L") (codes "a")) ≡ Ok (whole 5)
  pub through : full m linked (named (codes "K") (codes "a")) ≡ Ok (whole 5)
  pub valid : first_fault linked ≡ None

-- a fault of an object or a slot
abbrev pub found : ℕ → List ℕ → Fault
found number subject = record { number = number; subject = subject }

-- a chain of links that runs into a cycle is no member of it; an override of no mirrored slot, a
-- target that is not there, and an override of another unit have their faults; a link to a link may override
-- what the end of the chain has
pub record LinkFaultsWork : Type 0 where
  pub cycle :
      first_fault (document_of (link_to (codes "L") (codes "K") [] ∷ link_to (codes "K") (codes "J") [] ∷ link_to (codes "J") (codes "K") [] ∷ []))
      ≡ Some (found 23 (codes "K"))
  pub endless : first_fault linked_box ≡ Some (found 23 (codes "L3"))
  pub no_target : first_fault (document_of (link_to (codes "L") (codes "V") [] ∷ [])) ≡ Some (found 12 (codes "L"))
  pub no_slot :
      first_fault (document_of (target ∷ link_to (codes "L") (codes "V") ((Plain (codes "c"), Own (whole 5)) ∷ []) ∷ []))
      ≡ Some (found 12 (codes "L.c"))
  pub override_through :
      first_fault (document_of (target ∷ link_to (codes "L") (codes "V") [] ∷ link_to (codes "K") (codes "L") ((Plain (codes "a"), Own (whole 5)) ∷ []) ∷ []))
      ≡ None
  pub other_unit :
      first_fault (document_of (target ∷ link_to (codes "L") (codes "V") ((Plain (codes "a"), Own (mm 5000000000)) ∷ []) ∷ []))
      ≡ Some (found 15 (codes "L.a"))

-- features that give their inputs back, and placements that take the second for the first
abbrev pub echo : Meanings
echo = record { gives = λ plan inputs. map Ok inputs; composed = λ own target k. part_of target k }

-- a placement of that x, at 0 otherwise
abbrev pub at_x : ℕ → List (SlotName × Content)
at_x n =
    (Component (codes "Placement") X, Own (mm n)) ∷ (Component (codes "Placement") Y, Own (mm 0))
    ∷ (Component (codes "Placement") Z, Own (mm 0)) ∷ (Component (codes "Placement") Turn, Own (plain 0)) ∷ []

-- a link to the box at x = 7 mm, which takes the box's placement along or not
abbrev pub box_and_link : Bool → Document
box_and_link along =
    document_of (
    box
    ∷ record (link_to (codes "L") (codes "Box") ((Plain (codes "Width"), Own (mm 5000000000)) ∷ [])) {
      inputs = at_x 7000000000 ++ (Plain (codes "LinkTransform"), Own (Flag along)) ∷ [];
    } ∷ [])

abbrev pub global_x : List ℕ → Slot
global_x object = record { object = object; name = Component (codes "Global") X }

-- the first outputs of a feature that gives its inputs back are its inputs in order, a link's with its
-- overrides; a link's global placement is its own, or what is composed of it and the target's
pub record FeaturesWork : Type 0 where
  pub first : full echo (box_and_link false) (named (codes "L") (codes "Volume")) ≡ Ok (mm 3300000000)
  pub second : full echo (box_and_link false) (named (codes "L") (codes "Area")) ≡ Ok (mm 5000000000)
  pub bound : full echo (box_and_link false) (named (codes "L") (codes "MinX")) ≡ Ok (mm 6600000000)
  pub own_place : full echo (box_and_link false) (global_x (codes "L")) ≡ Ok (mm 7000000000)
  pub place_of_target : full echo (box_and_link true) (global_x (codes "L")) ≡ Ok (mm 0)
  pub asked : map (λ (e : Entry). e.object) (called echo [] (box_and_link false)) ≡ codes "Box" ∷ codes "L" ∷ []
  pub not_again : called echo (input_lists echo (box_and_link false)) (box_and_link false) ≡ []
  pub link_again : map (λ (e : Entry). e.object) (called echo (input_lists echo (box_and_link true)) (box_and_link false)) ≡ codes "L" ∷ []
