-- Sorts: numbers of one unit, flags, or texts.
use Rattle.std.specs.Prelude.{◌≡◌, ◌↔◌, Bool, true, false, IsTrue}
use Rattle.property_types.specs.declared.prop_type.Sort.{Sort}
use Rattle.property_types.specs.declared.prop_type.Sort.TheVariants.{Number, Flag, Text}
use Rattle.property_types.specs.declared.value.Value.{Value}
use Rattle.property_types.specs.declared.value.Value.TheVariants as a
use Rattle.property_types.specs.Values.{same_unit}

-- the sort that a value has
abbrev pub sort_of_value : Value → Sort
sort_of_value (a.Number q) = Number q.unit
sort_of_value (a.Flag b) = Flag
sort_of_value (a.Text t) = Text

-- numbers of one unit, two flags or two texts
abbrev pub same_sort : Sort → Sort → Bool
same_sort (Number u) (Number v) = same_unit u v
same_sort Flag Flag = true
same_sort Text Text = true
same_sort _ _ = false

-- the test of sorts holds exactly between equal sorts
abbrev pub SameSortIsEquality : Type 0
SameSortIsEquality = (a b : Sort) → IsTrue (same_sort a b) ↔ (a ≡ b)
