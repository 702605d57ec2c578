-- The sort of a node by the sorts of its operands, and why it has none. Kinds are looked at before
-- units.
use Rattle.std.specs.Prelude.{ℤ, Bool, true, false, List, [], ◌∷◌, Option, Some, None, Result, Ok, Err, if◌then◌else◌}
use Rattle.std.specs.List.{list_all}
use Rattle.unit_signatures.specs.declared.unit.ExponentRange as units
use Rattle.unit_signatures.specs.Units.{pure}
use Rattle.unit_signatures.specs.Products.{product, quotient, power_of}
use Rattle.unit_signatures.specs.Table.{unit_named}
use Rattle.property_types.specs.declared.prop_type.Sort.{Sort}
use Rattle.property_types.specs.declared.prop_type.Sort.TheVariants.{Number, Flag, Text}
use Rattle.property_types.specs.Sorts.{same_sort}
use Rattle.property_types.specs.Values.{same_unit}
use Rattle.expr_tree.specs.declared.expr.UnitPower.{UnitPower}
use Rattle.expr_tree.specs.declared.operators.BinaryOp.{BinaryOp}
use Rattle.expr_tree.specs.declared.operators.BinaryOp.TheVariants.{Plus, Minus, Times, Over, Modulo}
use Rattle.expr_tree.specs.declared.operators.CompareOp.{CompareOp}
use Rattle.expr_tree.specs.declared.operators.CompareOp.TheVariants.{Equal, NotEqual, Less, LessOrEqual, Greater, GreaterOrEqual}
use Rattle.expr_tree.specs.declared.functions.AggregateOp.{AggregateOp}
use Rattle.expr_tree.specs.declared.functions.AggregateOp.TheVariants.{Sum, Average, Count, Min, Max}
use Rattle.expr_eval.specs.declared.sort_cause.SortCause.{SortCause}
use Rattle.expr_eval.specs.declared.sort_cause.SortCause.TheVariants.{UnitMismatch, KindMismatch, ExponentRange}

-- a sort, or why there is none
abbrev pub SortOutcome : Type 0
SortOutcome = Result Sort SortCause

-- numbers of a unit that was calculated
abbrev pub number_in : Result (List ℤ) units.ExponentRange → SortOutcome
number_in (Ok unit) = Ok (Number unit)
number_in (Err _) = Err ExponentRange

-- numbers of one unit
abbrev pub one_unit : List ℤ → List ℤ → SortOutcome
one_unit u v = if same_unit u v then Ok (Number u) else Err UnitMismatch

-- two of one sort
abbrev pub one_sort : Sort → Sort → SortOutcome
one_sort (Number u) (Number v) = one_unit u v
one_sort Flag Flag = Ok Flag
one_sort Text Text = Ok Text
one_sort _ _ = Err KindMismatch

-- a named unit, to a power; a name that the table of units lacks has no kind
abbrev pub unit_power_sort : Option (ℤ × List ℤ) → ℤ → SortOutcome
unit_power_sort (Some row) n = number_in (power_of row.1 n)
unit_power_sort None n = Err KindMismatch

-- `2.5`, `2.5 mm^2`
abbrev pub literal_sort : Option UnitPower → SortOutcome
literal_sort None = Ok (Number pure)
literal_sort (Some u) = unit_power_sort (unit_named u.unit) u.exponent

-- `mm`
abbrev pub unit_sort : Option (ℤ × List ℤ) → SortOutcome
unit_sort (Some row) = Ok (Number row.1)
unit_sort None = Err KindMismatch

-- `-x`, and functions of one number
abbrev pub number_sort : Sort → SortOutcome
number_sort (Number u) = Ok (Number u)
number_sort Flag = Err KindMismatch
number_sort Text = Err KindMismatch

-- sums, differences and remainders want one unit, products and quotients an exponent in range
abbrev pub unit_of_two : BinaryOp → List ℤ → List ℤ → SortOutcome
unit_of_two Plus u v = one_unit u v
unit_of_two Minus u v = one_unit u v
unit_of_two Times u v = number_in (product u v)
unit_of_two Over u v = number_in (quotient u v)
unit_of_two Modulo u v = one_unit u v

-- `x + y` and its like want two numbers
abbrev pub binary_sort : BinaryOp → Sort → Sort → SortOutcome
binary_sort op (Number u) (Number v) = unit_of_two op u v
binary_sort op _ _ = Err KindMismatch

-- `x^n`
abbrev pub power_sort : ℤ → Sort → SortOutcome
power_sort n (Number u) = number_in (power_of u n)
power_sort n Flag = Err KindMismatch
power_sort n Text = Err KindMismatch

-- a flag where there is a sort
abbrev pub as_flag : SortOutcome → SortOutcome
as_flag (Ok _) = Ok Flag
as_flag (Err cause) = Err cause

-- `==` and `!=` want two of one sort, the others two numbers of one unit
abbrev pub compare_sort : CompareOp → Sort → Sort → SortOutcome
compare_sort Equal s t = as_flag (one_sort s t)
compare_sort NotEqual s t = as_flag (one_sort s t)
compare_sort Less s t = as_flag (binary_sort Minus s t)
compare_sort LessOrEqual s t = as_flag (binary_sort Minus s t)
compare_sort Greater s t = as_flag (binary_sort Minus s t)
compare_sort GreaterOrEqual s t = as_flag (binary_sort Minus s t)

-- `c ? x : y` wants a flag and two of one sort
abbrev pub conditional_sort : Sort → Sort → Sort → SortOutcome
conditional_sort Flag s t = one_sort s t
conditional_sort (Number u) s t = Err KindMismatch
conditional_sort Text s t = Err KindMismatch

-- a sort of numbers
abbrev pub is_number_sort : Sort → Bool
is_number_sort (Number u) = true
is_number_sort Flag = false
is_number_sort Text = false

-- the one sort of all that are sorts of numbers; of none it is that of pure numbers
abbrev pub common_sort : List Sort → SortOutcome
common_sort [] = Ok (Number pure)
common_sort (s ∷ ss) = if list_all (same_sort s) ss then Ok s else Err UnitMismatch

-- numbers of one unit
abbrev pub one_unit_sort : List Sort → SortOutcome
one_unit_sort sorts = if list_all is_number_sort sorts then common_sort sorts else Err KindMismatch

-- a pure number where there is a sort
abbrev pub as_pure : SortOutcome → SortOutcome
as_pure (Ok _) = Ok (Number pure)
as_pure (Err cause) = Err cause

-- `sum(x; A1:B2)` and its like want numbers of one unit; a count is pure
abbrev pub aggregate_sort : AggregateOp → List Sort → SortOutcome
aggregate_sort Count sorts = as_pure (one_unit_sort sorts)
aggregate_sort Sum sorts = one_unit_sort sorts
aggregate_sort Average sorts = one_unit_sort sorts
aggregate_sort Min sorts = one_unit_sort sorts
aggregate_sort Max sorts = one_unit_sort sorts
