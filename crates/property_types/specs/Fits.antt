-- How a value is fitted to a type.
use Rattle.std.specs.Prelude.{◌≡◌, ◌⊎◌, Result, ℕ, ◌*◌, ◌%◌, ℤ, pos, Bool, true, ◌&&◌, not, ◌==◌, List, Option, Some, None, Ok, Err, unsigned_abs, int_le, if◌then◌else◌}
use Rattle.unit_signatures.specs.Units.{pure}
use Rattle.quantities.specs.declared.quantity.Quantity.{Quantity}
use Rattle.property_types.specs.declared.prop_type.PropType.{PropType}
use Rattle.property_types.specs.declared.prop_type.Sort.{Sort}
use Rattle.property_types.specs.declared.prop_type.Sort.TheVariants as s
use Rattle.property_types.specs.declared.value.Value.{Value}
use Rattle.property_types.specs.declared.value.Value.TheVariants.{Number, Flag, Text}
use Rattle.property_types.specs.declared.value.ValueFault.TheVariants.{NotWhole, OutOfType}
use Rattle.property_types.specs.declared.fit.FitFault.{FitFault}
use Rattle.property_types.specs.declared.fit.FitFault.TheVariants.{Fault, Memory}
use Rattle.property_types.specs.Values.{Outcome}
use Rattle.property_types.specs.Sorts.{sort_of_value}
use Rattle.property_types.specs.Types.{sort_of_type, is_whole_type, is_not_negative_type, greatest_of_type}

-- an amount, in billionths, without a fraction
abbrev pub is_whole : ℤ → Bool
is_whole raw = (unsigned_abs raw % 1000000000) == 0

-- an amount, in billionths, of at most that number
abbrev pub is_at_most : ℤ → Option ℕ → Bool
is_at_most raw None = true
is_at_most raw (Some most) = int_le raw (pos (most * 1000000000))

-- an amount that the type's range holds
abbrev pub is_in_range : PropType → ℤ → Bool
is_in_range t raw =
    (if is_not_negative_type t then int_le (pos 0) raw else true) && is_at_most raw (greatest_of_type t)

-- an amount, counted in the type's unit: first whether it has to be whole, and then its range
abbrev pub fit_amount : PropType → ℤ → List ℤ → Outcome
fit_amount t raw u =
    if is_whole_type t && not (is_whole raw) then Err NotWhole
    else (if is_in_range t raw then Ok (Number (record { amount = raw; unit = u })) else Err OutOfType)

-- a number counts in the unit of a type that has one
abbrev pub fit_number : PropType → Sort → Quantity → Outcome
fit_number t (s.Number u) q = fit_amount t q.amount u
fit_number t s.Flag q = Ok (Number q)
fit_number t s.Text q = Ok (Number q)

-- a value of the type's sort, or a pure number for a type with a unit, as a value of the type
abbrev pub fit : PropType → Value → Outcome
fit t (Number q) = fit_number t (sort_of_type t) q
fit t (Flag b) = Ok (Flag b)
fit t (Text text) = Ok (Text text)

-- a number of the unit, or a pure one
abbrev pub CanFitNumber : Sort → Quantity → Type 0
CanFitNumber (s.Number u) q = (q.unit ≡ u) ⊎ (q.unit ≡ pure)
CanFitNumber s.Flag q = ⊥
CanFitNumber s.Text q = ⊥

-- a value of the type's sort, or a pure number where the type has numbers
abbrev pub CanFit : PropType → Value → Type 0
CanFit t (Number q) = CanFitNumber (sort_of_type t) q
CanFit t (Flag b) = sort_of_type t ≡ s.Flag
CanFit t (Text text) = sort_of_type t ≡ s.Text

-- a fit as a call tells it; want of memory says nothing of the value
abbrev pub FitsAs : Outcome → Result Value FitFault → Type 0
FitsAs fitted (Ok v) = fitted ≡ Ok v
FitsAs fitted (Err (Fault f)) = fitted ≡ Err f
FitsAs fitted (Err (Memory e)) = Unit {0}

-- what is fitted has the sort of the type
abbrev pub FittedHasSort : Type 0
FittedHasSort = (t : PropType) (v w : Value) → CanFit t v → fit t v ≡ Ok w → sort_of_value w ≡ sort_of_type t

-- what is fitted fits as it is
abbrev pub FitsOnce : Type 0
FitsOnce = (t : PropType) (v w : Value) → fit t v ≡ Ok w → fit t w ≡ Ok w
