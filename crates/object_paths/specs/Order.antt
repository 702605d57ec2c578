-- The orders of slot names and of cells.
use Rattle.std.specs.Prelude.{ℕ, Bool, true, false, List}
use Rattle.std.specs.Cmp.Lexicographic.{slice_cmp}
use Rattle.std.specs.Ordering.{nat_cmp, ordering_then}
use Rattle.std.specs.declared.cmp.Ordering.{Ordering}
use Rattle.std.specs.declared.cmp.Ordering.TheVariants.{Less, Equal, Greater}
use Rattle.fc_base.specs.Places.{Place}
use Rattle.object_paths.specs.declared.slot_name.Component as c
use Rattle.object_paths.specs.declared.slot_name.Component.TheVariants.{X, Y, Z, Turn}
use Rattle.object_paths.specs.declared.slot_name.SlotName.{SlotName}
use Rattle.object_paths.specs.declared.slot_name.SlotName.TheVariants.{Plain, Component, Marked}

-- texts by their bytes
abbrev pub text_cmp : List ℕ → List ℕ → Ordering
text_cmp = slice_cmp nat_cmp

-- the place of a component among the four
abbrev pub component_number : c.Component → ℕ
component_number X = 0
component_number Y = 1
component_number Z = 2
component_number Turn = 3

-- a mark that does not stand comes before one that does
abbrev pub mark_cmp : Bool → Bool → Ordering
mark_cmp false false = Equal
mark_cmp false true = Less
mark_cmp true false = Greater
mark_cmp true true = Equal

-- by column, row and marks
abbrev pub marked_cmp : Place → Place → Ordering
marked_cmp p q =
    ordering_then (nat_cmp p.column q.column) (ordering_then (nat_cmp p.row q.row)
    (ordering_then (mark_cmp p.fixed_column q.fixed_column) (mark_cmp p.fixed_row q.fixed_row)))

-- plain names, then components, then cells with marks
abbrev pub slot_name_cmp : SlotName → SlotName → Ordering
slot_name_cmp (Plain a) (Plain b) = text_cmp a b
slot_name_cmp (Plain a) (Component b d) = Less
slot_name_cmp (Plain a) (Marked q) = Less
slot_name_cmp (Component a c) (Plain b) = Greater
slot_name_cmp (Component a c) (Component b d) = ordering_then (text_cmp a b) (nat_cmp (component_number c) (component_number d))
slot_name_cmp (Component a c) (Marked q) = Less
slot_name_cmp (Marked p) (Plain b) = Greater
slot_name_cmp (Marked p) (Component b d) = Greater
slot_name_cmp (Marked p) (Marked q) = marked_cmp p q

-- the order of the cells of a sheet: by row, then by column
abbrev pub cell_cmp : Place → Place → Ordering
cell_cmp p q = ordering_then (nat_cmp p.row q.row) (nat_cmp p.column q.column)
