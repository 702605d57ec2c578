-- Arithmetic on quantities. The units are tried first, and then the amounts.
use Rattle.std.specs.Prelude.{ℤ, Bool, List, Result, Ok, Err, if◌then◌else◌}
use Rattle.std.specs.Ordering.{int_eq}
use Rattle.std.specs.Cmp.Lexicographic.{pointwise}
use Rattle.unit_signatures.specs.Products.{product, quotient, power_of}
use Rattle.unit_signatures.specs.declared.unit.ExponentRange.{ExponentRange}
use Rattle.quantities.specs.declared.amount_fault.AmountFault.TheVariants.{Range as AmountRange, DivideByZero as AmountDivideByZero}
use Rattle.quantities.specs.declared.quantity_fault.QuantityFault.{QuantityFault}
use Rattle.quantities.specs.declared.quantity_fault.QuantityFault.TheVariants as fault
use Rattle.quantities.specs.declared.quantity.Quantity.{Quantity}
use Rattle.quantities.specs.Arithmetic.{Calculated, plus, minus, times, over, modulo, power}

-- what was calculated, in a unit
abbrev pub of_unit : List ℤ → Calculated → Result Quantity QuantityFault
of_unit unit (Ok amount) = Ok (record { amount = amount; unit = unit })
of_unit unit (Err AmountRange) = Err fault.Range
of_unit unit (Err AmountDivideByZero) = Err fault.DivideByZero

-- what was calculated, in the unit that was calculated
abbrev pub in_unit : Result (List ℤ) ExponentRange → Calculated → Result Quantity QuantityFault
in_unit (Ok unit) amount = of_unit unit amount
in_unit (Err _) amount = Err fault.ExponentRange

-- the units have the same exponents
abbrev pub same_unit : Quantity → Quantity → Bool
same_unit a b = pointwise int_eq a.unit b.unit

-- the unit of both, where it is the same
abbrev pub common_unit : Quantity → Quantity → Result (List ℤ) QuantityFault
common_unit a b = if same_unit a b then Ok a.unit else Err fault.UnitMismatch

-- what was calculated where the units are the same
abbrev pub in_same_unit : Quantity → Quantity → Calculated → Result Quantity QuantityFault
in_same_unit a b amount = if same_unit a b then of_unit a.unit amount else Err fault.UnitMismatch

abbrev pub quantity_plus : Quantity → Quantity → Result Quantity QuantityFault
quantity_plus a b = in_same_unit a b (plus a.amount b.amount)

abbrev pub quantity_minus : Quantity → Quantity → Result Quantity QuantityFault
quantity_minus a b = in_same_unit a b (minus a.amount b.amount)

abbrev pub quantity_modulo : Quantity → Quantity → Result Quantity QuantityFault
quantity_modulo a b = in_same_unit a b (modulo a.amount b.amount)

abbrev pub quantity_times : Quantity → Quantity → Result Quantity QuantityFault
quantity_times a b = in_unit (product a.unit b.unit) (times a.amount b.amount)

abbrev pub quantity_over : Quantity → Quantity → Result Quantity QuantityFault
quantity_over a b = in_unit (quotient a.unit b.unit) (over a.amount b.amount)

abbrev pub quantity_power : Quantity → ℤ → Result Quantity QuantityFault
quantity_power a n = in_unit (power_of a.unit n) (power a.amount n)
