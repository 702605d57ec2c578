-- Fitted values: their sort, and that they fit as they are.
use Rattle.std.proofs.Common.{◌≡◌, ℤ, List, Ok, ap, arith}
use Rattle.quantities.specs.declared.quantity.Quantity.{Quantity}
use Rattle.property_types.specs.declared.prop_type.PropType.{PropType}
use Rattle.property_types.specs.declared.prop_type.Sort.{Sort}
use Rattle.property_types.specs.declared.prop_type.Sort.TheVariants as s
use Rattle.property_types.specs.declared.value.Value.{Value}
use Rattle.property_types.specs.declared.value.Value.TheVariants.{Number, Flag, Text}
use Rattle.property_types.specs.Sorts.{sort_of_value}
use Rattle.property_types.specs.Types.{sort_of_type}
use Rattle.property_types.specs.Fits.{fit, fit_amount, fit_number, CanFit, CanFitNumber}

-- a fitted amount is the amount in the unit
amount-fitted : (t : PropType) (raw : ℤ) (u : List ℤ) (w : Value) → fit_amount t raw u ≡ Ok w → w ≡ Number (record { amount = raw; unit = u })
amount-fitted t raw u w h = grind arith

number-sort : (t : PropType) (sort : Sort) (q : Quantity) (w : Value) → CanFitNumber sort q → fit_number t sort q ≡ Ok w → sort_of_value w ≡ sort
number-sort t (s.Number u) q w can h = ap sort_of_value (amount-fitted t q.amount u w h)
number-sort t s.Flag q w can h = absurd can
number-sort t s.Text q w can h = absurd can

pub fitted-sort : (t : PropType) (v w : Value) → CanFit t v → fit t v ≡ Ok w → sort_of_value w ≡ sort_of_type t
fitted-sort t (Number q) w can h = number-sort t (sort_of_type t) q w can h
fitted-sort t (Flag b) w can h = let e : w ≡ Flag b = cc in cc (ap sort_of_value e)
fitted-sort t (Text text) w can h = let e : w ≡ Text text = cc in cc (ap sort_of_value e)
