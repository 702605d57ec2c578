-- Slots, named by their object and their name in it.
use Rattle.std.specs.Prelude.{◌≡◌, ◌↔◌, ℕ, Bool, true, false, not, ◌&&◌, nat_eq, List, IsTrue}
use Rattle.std.specs.Cmp.Lexicographic.{pointwise}
use Rattle.fc_base.specs.Places.{Place}
use Rattle.object_paths.specs.declared.slot_name.Component as c
use Rattle.object_paths.specs.declared.slot_name.Component.TheVariants.{X, Y, Z, Turn}
use Rattle.object_paths.specs.declared.slot_name.SlotName.{SlotName}
use Rattle.object_paths.specs.declared.slot_name.SlotName.TheVariants.{Plain, Component, Marked}

-- A slot of a document, by the name of its object and its own name there.
pub record Slot : Type 0 where
  pub object : List ℕ
  pub name : SlotName

-- two texts with the same bytes
abbrev pub same_text : List ℕ → List ℕ → Bool
same_text = pointwise nat_eq

-- the same component of a placement
abbrev pub same_component : c.Component → c.Component → Bool
same_component X X = true
same_component Y Y = true
same_component Z Z = true
same_component Turn Turn = true
same_component _ _ = false

-- two marks that both stand or both do not
abbrev pub same_mark : Bool → Bool → Bool
same_mark true m = m
same_mark false m = not m

-- one cell, spelled with the same marks
abbrev pub same_place : Place → Place → Bool
same_place p q =
    nat_eq p.column q.column && nat_eq p.row q.row && same_mark p.fixed_column q.fixed_column && same_mark p.fixed_row q.fixed_row

-- the same slot name, marks included
abbrev pub same_slot_name : SlotName → SlotName → Bool
same_slot_name (Plain a) (Plain b) = same_text a b
same_slot_name (Component a c) (Component b d) = same_text a b && same_component c d
same_slot_name (Marked p) (Marked q) = same_place p q
same_slot_name _ _ = false

-- the same slot
abbrev pub same_slot : Slot → Slot → Bool
same_slot s t = same_text s.object t.object && same_slot_name s.name t.name

-- the test of slot names holds exactly between equal names
abbrev pub SameSlotNameIsEquality : Type 0
SameSlotNameIsEquality = (m n : SlotName) → IsTrue (same_slot_name m n) ↔ (m ≡ n)

-- the test of slots holds exactly between equal slots
abbrev pub SameSlotIsEquality : Type 0
SameSlotIsEquality = (s t : Slot) → IsTrue (same_slot s t) ↔ (s ≡ t)
