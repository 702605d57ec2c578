-- Each operation on numbers that are values: what it gives is a value, or a fault.
use Rattle.std.proofs.Common.{◌≡◌, ℕ, Bool, true, false, cond, ℤ, ◌+ℤ◌, ◌-ℤ◌, neg_ℤ, List, Option, Some, None, Result, Ok, Err, IfOk, refl}
use Rattle.unit_signatures.specs.declared.unit.ExponentRange.{ExponentRange}
use Rattle.unit_signatures.specs.Units.{IsUnit}
use Rattle.unit_signatures.specs.Products.{product, quotient, power_of}
use Rattle.unit_signatures.specs.Table.{unit_named}
use Rattle.quantities.specs.declared.amount_fault.AmountFault.TheVariants as amount
use Rattle.quantities.specs.declared.quantity_fault.QuantityFault.{QuantityFault}
use Rattle.quantities.specs.declared.quantity_fault.QuantityFault.TheVariants as quantity
use Rattle.quantities.specs.declared.quantity.Quantity.{Quantity}
use Rattle.quantities.specs.Amounts.{IsAmount}
use Rattle.quantities.specs.Arithmetic.{Calculated, bounded, plus, minus, times, over, modulo, power}
use Rattle.quantities.specs.Quantities as q
use Rattle.property_types.specs.declared.value.Value.TheVariants as value
use Rattle.property_types.specs.declared.value.ValueFault.{ValueFault}
use Rattle.property_types.specs.Values.{Outcome, IsValue}
use Rattle.expr_tree.specs.declared.expr.UnitPower.{UnitPower}
use Rattle.expr_tree.specs.declared.operators.BinaryOp.{BinaryOp}
use Rattle.expr_tree.specs.declared.operators.BinaryOp.TheVariants.{Plus, Minus, Times, Over, Modulo}
use Rattle.expr_tree.specs.declared.functions.FunctionOp.{FunctionOp}
use Rattle.expr_tree.specs.Spelled.{IsNumeral}
use Rattle.expr_eval.specs.Firsts.{on_one, on_two}
use Rattle.expr_eval.specs.Numbers.{Numeric, number_of, calculated, settled, unit_number, of_unit, of_unit_power, literal_outcome, unit_outcome, negated, combined, binary_outcome, power_outcome, function_on, function_outcome, as_flag, chosen}
use Rattle.expr_eval.proofs.UnitAmounts.{unit_named-amount}
use Rattle.expr_eval.proofs.ValueAmounts.{IsAmountOrFault, bounded-amount, times-amount, over-amount, modulo-amount, power-amount, function-amount}
use Rattle.expr_eval.proofs.ValueUnits.{IsUnitOrFault, pure-unit, product-unit, quotient-unit, power-unit, unit_named-unit}

-- an amount of a unit
abbrev pub IsQuantity : Quantity → Type 0
IsQuantity n = IsAmount n.amount × IsUnit n.unit

abbrev pub IsQuantityOrFault : Result Quantity QuantityFault → Type 0
IsQuantityOrFault r = IfOk r IsQuantity

abbrev pub IsNumberOrFault : Numeric → Type 0
IsNumberOrFault n = IfOk n IsQuantity

abbrev pub IsValueOrFault : Outcome → Type 0
IsValueOrFault o = IfOk o IsValue

pub number-quantity : (w : ValueFault) (o : Outcome) → IsValueOrFault o → IsNumberOrFault (number_of w o)
number-quantity w (Ok (value.Number n)) h = h
number-quantity w (Ok (value.Flag b)) h = tt
number-quantity w (Ok (value.Text t)) h = tt
number-quantity w (Err fault) h = tt

-- what was calculated in a unit
pub calculated-value : (u : List ℤ) (c : Calculated) → IsUnit u → IsAmountOrFault c → IsValueOrFault (calculated u c)
calculated-value u (Ok a) h i = (i, h)
calculated-value u (Err amount.Range) h i = tt
calculated-value u (Err amount.DivideByZero) h i = tt

of_unit-quantity : (u : List ℤ) (c : Calculated) → IsUnit u → IsAmountOrFault c → IsQuantityOrFault (q.of_unit u c)
of_unit-quantity u (Ok a) h i = (i, h)
of_unit-quantity u (Err amount.Range) h i = tt
of_unit-quantity u (Err amount.DivideByZero) h i = tt

-- in a unit that was calculated
in_unit-quantity : (u : Result (List ℤ) ExponentRange) (c : Calculated) → IsUnitOrFault u → IsAmountOrFault c → IsQuantityOrFault (q.in_unit u c)
in_unit-quantity (Ok u) c h i = of_unit-quantity u c h i
in_unit-quantity (Err e) c h i = tt

-- in the unit of both, where it is one
same-unit-quantity : (b : Bool) (u : List ℤ) (c : Calculated) → IsUnit u → IsAmountOrFault c → IsQuantityOrFault (cond b (q.of_unit u c) (Err quantity.UnitMismatch))
same-unit-quantity true u c h i = of_unit-quantity u c h i
same-unit-quantity false u c h i = tt

settled-value : (w : ValueFault) (r : Result Quantity QuantityFault) → IsQuantityOrFault r → IsValueOrFault (settled w r)
settled-value w (Ok n) h = h
settled-value w (Err quantity.UnitMismatch) h = tt
settled-value w (Err quantity.ExponentRange) h = tt
settled-value w (Err quantity.Range) h = tt
settled-value w (Err quantity.DivideByZero) h = tt

-- literals and units
power-quantity : (n : ℤ) (m : Quantity) → IsUnit m.unit → IsQuantityOrFault (q.quantity_power m n)
power-quantity n m h = in_unit-quantity (power_of m.unit n) (power m.amount n) (power-unit m.unit n h) (power-amount m.amount n)

of_unit-value : (w : ValueFault) (x : ℤ) (r : Result Quantity QuantityFault) → IsQuantityOrFault r → IsValueOrFault (of_unit w x r)
of_unit-value w x (Ok n) h = calculated-value n.unit (times x n.amount) h.1 (times-amount x n.amount)
of_unit-value w x (Err fault) h = settled-value w (Err fault) tt

unit-power-value : (w : ValueFault) (x : ℤ) (row : Option (ℤ × List ℤ)) (n : ℤ) → ((found : ℤ × List ℤ) → row ≡ Some found → IsUnit found.1)
    → IsValueOrFault (of_unit_power w x row n)
unit-power-value w x (Some row) n h = of_unit-value w x (q.quantity_power (unit_number row) n) (power-quantity n (unit_number row) (h row refl))
unit-power-value w x None n h = tt

pub literal-value : (w : ValueFault) (x : ℤ) (u : Option UnitPower) → IsNumeral x → IsValueOrFault (literal_outcome w x u)
literal-value w x None h = (h.amount, pure-unit)
literal-value w x (Some u) h = unit-power-value w x (unit_named u.unit) u.exponent (unit_named-unit u.unit)

found-value : (w : ValueFault) (row : Option (ℤ × List ℤ)) → ((found : ℤ × List ℤ) → row ≡ Some found → IsQuantity (unit_number found)) → IsValueOrFault (unit_outcome w row)
found-value w (Some row) h = h row refl
found-value w None h = tt

pub unit-value : (w : ValueFault) (name : List ℕ) → IsValueOrFault (unit_outcome w (unit_named name))
unit-value w name = found-value w (unit_named name) (λ found e. (unit_named-amount name found e, unit_named-unit name found e))

-- operations on one number and on two
pub negated-value : (n : Quantity) → IsQuantity n → IsValueOrFault (negated n)
negated-value n h = calculated-value n.unit (bounded (neg_ℤ n.amount)) h.1 (bounded-amount (neg_ℤ n.amount))

pub power-value : (w : ValueFault) (n : ℤ) (m : Quantity) → IsQuantity m → IsValueOrFault (power_outcome w n m)
power-value w n m h = settled-value w (q.quantity_power m n) (power-quantity n m h.1)

pub function-value : (op : FunctionOp) (n : Quantity) → IsQuantity n → IsValueOrFault (function_outcome op n)
function-value op n h = calculated-value n.unit (function_on op n.amount) h.1 (function-amount op n.amount)

combined-quantity : (op : BinaryOp) (m n : Quantity) → IsQuantity m → IsQuantity n → IsQuantityOrFault (combined op m n)
combined-quantity Plus m n h i = same-unit-quantity (q.same_unit m n) m.unit (plus m.amount n.amount) h.1 (bounded-amount (m.amount +ℤ n.amount))
combined-quantity Minus m n h i = same-unit-quantity (q.same_unit m n) m.unit (minus m.amount n.amount) h.1 (bounded-amount (m.amount -ℤ n.amount))
combined-quantity Times m n h i = in_unit-quantity (product m.unit n.unit) (times m.amount n.amount) (product-unit m.unit n.unit h.1 i.1) (times-amount m.amount n.amount)
combined-quantity Over m n h i = in_unit-quantity (quotient m.unit n.unit) (over m.amount n.amount) (quotient-unit m.unit n.unit h.1 i.1) (over-amount m.amount n.amount)
combined-quantity Modulo m n h i = same-unit-quantity (q.same_unit m n) m.unit (modulo m.amount n.amount) h.1 (modulo-amount m.amount n.amount i.0)

pub binary-value : (w : ValueFault) (op : BinaryOp) (m n : Quantity) → IsQuantity m → IsQuantity n → IsValueOrFault (binary_outcome w op m n)
binary-value w op m n h i = settled-value w (combined op m n) (combined-quantity op m n h i)

pub one-value : (g : Quantity → Outcome) → ((n : Quantity) → IsQuantity n → IsValueOrFault (g n)) → (n : Numeric) → IsNumberOrFault n → IsValueOrFault (on_one g n)
one-value g each (Ok n) h = each n h
one-value g each (Err fault) h = tt

pub two-value : (g : Quantity → Quantity → Outcome) → ((m n : Quantity) → IsQuantity m → IsQuantity n → IsValueOrFault (g m n))
    → (m n : Numeric) → IsNumberOrFault m → IsNumberOrFault n → IsValueOrFault (on_two g m n)
two-value g each (Ok m) (Ok n) h i = each m n h i
two-value g each (Ok m) (Err fault) h i = tt
two-value g each (Err fault) n h i = tt

-- comparisons are flags, and a conditional has what its arm has
pub flag-value : (holds : Result Bool ValueFault) → IsValueOrFault (as_flag holds)
flag-value (Ok b) = tt
flag-value (Err fault) = tt

pub chosen-value : (flag : Result Bool ValueFault) (x y : Outcome) → IsValueOrFault x → IsValueOrFault y → IsValueOrFault (chosen flag x y)
chosen-value (Ok true) x y h i = h
chosen-value (Ok false) x y h i = i
chosen-value (Err fault) x y h i = tt
