-- What the operations of an expression give on numbers. An operation is only done on operands that
-- it wants; for others there is a fault, `wrong`, that nothing rests on.
use Rattle.std.specs.Prelude.{ℤ, pos, neg_ℤ, Bool, true, false, not, List, Option, Some, None, Result, Ok, Err, unsigned_abs, int_lt, int_le}
use Rattle.unit_signatures.specs.Units.{pure}
use Rattle.unit_signatures.specs.Table.{unit_named}
use Rattle.quantities.specs.declared.amount_fault.AmountFault.TheVariants as amount
use Rattle.quantities.specs.declared.quantity_fault.QuantityFault.{QuantityFault}
use Rattle.quantities.specs.declared.quantity_fault.QuantityFault.TheVariants as quantity
use Rattle.quantities.specs.declared.quantity.Quantity.{Quantity}
use Rattle.quantities.specs.Arithmetic.{Calculated, bounded, floor, ceil, round, trunc, times}
use Rattle.quantities.specs.Quantities.{quantity_plus, quantity_minus, quantity_modulo, quantity_times, quantity_over, quantity_power}
use Rattle.property_types.specs.declared.value.ValueFault.{ValueFault}
use Rattle.property_types.specs.declared.value.ValueFault.TheVariants.{Range, DivideByZero}
use Rattle.property_types.specs.declared.value.Value.TheVariants.{Number, Flag, Text}
use Rattle.property_types.specs.Values.{Outcome, same_value}
use Rattle.expr_tree.specs.declared.expr.UnitPower.{UnitPower}
use Rattle.expr_tree.specs.declared.operators.BinaryOp.{BinaryOp}
use Rattle.expr_tree.specs.declared.operators.BinaryOp.TheVariants.{Plus, Minus, Times, Over, Modulo}
use Rattle.expr_tree.specs.declared.operators.CompareOp.{CompareOp}
use Rattle.expr_tree.specs.declared.operators.CompareOp.TheVariants.{Equal, NotEqual, Less, LessOrEqual, Greater, GreaterOrEqual}
use Rattle.expr_tree.specs.declared.functions.FunctionOp.{FunctionOp}
use Rattle.expr_tree.specs.declared.functions.FunctionOp.TheVariants.{Abs, Ceil, Floor, Round, Trunc}
use Rattle.expr_eval.specs.Firsts.{on_two}

-- a number, or the fault in its place
abbrev pub Numeric : Type 0
Numeric = Result Quantity ValueFault

-- the number that an outcome is
abbrev pub number_of : ValueFault → Outcome → Numeric
number_of wrong (Ok (Number q)) = Ok q
number_of wrong (Ok (Flag b)) = Err wrong
number_of wrong (Ok (Text t)) = Err wrong
number_of wrong (Err fault) = Err fault

-- the flag that an outcome is
abbrev pub flag_of : ValueFault → Outcome → Result Bool ValueFault
flag_of wrong (Ok (Flag b)) = Ok b
flag_of wrong (Ok (Number q)) = Err wrong
flag_of wrong (Ok (Text t)) = Err wrong
flag_of wrong (Err fault) = Err fault

-- an amount that was calculated, as a number of a unit
abbrev pub calculated : List ℤ → Calculated → Outcome
calculated unit (Ok raw) = Ok (Number (record { amount = raw; unit = unit }))
calculated unit (Err amount.Range) = Err Range
calculated unit (Err amount.DivideByZero) = Err DivideByZero

-- a number that was calculated
abbrev pub settled : ValueFault → Result Quantity QuantityFault → Outcome
settled wrong (Ok q) = Ok (Number q)
settled wrong (Err quantity.UnitMismatch) = Err wrong
settled wrong (Err quantity.ExponentRange) = Err wrong
settled wrong (Err quantity.Range) = Err Range
settled wrong (Err quantity.DivideByZero) = Err DivideByZero

-- the number that a unit of the table is
abbrev pub unit_number : ℤ × List ℤ → Quantity
unit_number row = record { amount = row.0; unit = row.1 }

-- an amount of a unit that is a number: their product
abbrev pub of_unit : ValueFault → ℤ → Result Quantity QuantityFault → Outcome
of_unit wrong x (Ok q) = calculated q.unit (times x q.amount)
of_unit wrong x (Err fault) = settled wrong (Err fault)

-- an amount of a power of a unit; the power is taken first
abbrev pub of_unit_power : ValueFault → ℤ → Option (ℤ × List ℤ) → ℤ → Outcome
of_unit_power wrong x (Some row) n = of_unit wrong x (quantity_power (unit_number row) n)
of_unit_power wrong x None n = Err wrong

-- `2.5`, `2.5 mm^2`
abbrev pub literal_outcome : ValueFault → ℤ → Option UnitPower → Outcome
literal_outcome wrong x None = Ok (Number (record { amount = x; unit = pure }))
literal_outcome wrong x (Some u) = of_unit_power wrong x (unit_named u.unit) u.exponent

-- `mm`
abbrev pub unit_outcome : ValueFault → Option (ℤ × List ℤ) → Outcome
unit_outcome wrong (Some row) = Ok (Number (unit_number row))
unit_outcome wrong None = Err wrong

-- `-x`
abbrev pub negated : Quantity → Outcome
negated q = calculated q.unit (bounded (neg_ℤ q.amount))

-- `x + y` and its like
abbrev pub combined : BinaryOp → Quantity → Quantity → Result Quantity QuantityFault
combined Plus p q = quantity_plus p q
combined Minus p q = quantity_minus p q
combined Times p q = quantity_times p q
combined Over p q = quantity_over p q
combined Modulo p q = quantity_modulo p q

abbrev pub binary_outcome : ValueFault → BinaryOp → Quantity → Quantity → Outcome
binary_outcome wrong op p q = settled wrong (combined op p q)

-- `x^n`
abbrev pub power_outcome : ValueFault → ℤ → Quantity → Outcome
power_outcome wrong n q = settled wrong (quantity_power q n)

-- functions of one number, on its amount
abbrev pub function_on : FunctionOp → ℤ → Calculated
function_on Abs a = bounded (pos (unsigned_abs a))
function_on Ceil a = ceil a
function_on Floor a = floor a
function_on Round a = round a
function_on Trunc a = trunc a

abbrev pub function_outcome : FunctionOp → Quantity → Outcome
function_outcome op q = calculated q.unit (function_on op q.amount)

-- `==` and `!=` compare any two values, the others the amounts of two numbers
abbrev pub holds : ValueFault → CompareOp → Outcome → Outcome → Result Bool ValueFault
holds wrong Equal a b = on_two (λ v w. Ok (same_value v w)) a b
holds wrong NotEqual a b = on_two (λ v w. Ok (not (same_value v w))) a b
holds wrong Less a b = on_two (λ p q. Ok (int_lt p.amount q.amount)) (number_of wrong a) (number_of wrong b)
holds wrong LessOrEqual a b = on_two (λ p q. Ok (int_le p.amount q.amount)) (number_of wrong a) (number_of wrong b)
holds wrong Greater a b = on_two (λ p q. Ok (int_lt q.amount p.amount)) (number_of wrong a) (number_of wrong b)
holds wrong GreaterOrEqual a b = on_two (λ p q. Ok (int_le q.amount p.amount)) (number_of wrong a) (number_of wrong b)

-- whether it holds, as an outcome
abbrev pub as_flag : Result Bool ValueFault → Outcome
as_flag (Ok b) = Ok (Flag b)
as_flag (Err fault) = Err fault

-- `x < y` and its like
abbrev pub compared : ValueFault → CompareOp → Outcome → Outcome → Outcome
compared wrong op a b = as_flag (holds wrong op a b)

-- `c ? x : y`: the arm that is chosen, whatever the other gives
abbrev pub chosen : Result Bool ValueFault → Outcome → Outcome → Outcome
chosen (Ok true) a b = a
chosen (Ok false) a b = b
chosen (Err fault) a b = Err fault
