-- Products, quotients and powers of units.
use Rattle.std.specs.Prelude.{ℤ, ◌+ℤ◌, ◌-ℤ◌, ◌*ℤ◌, List, map, Result, Ok, Err, if◌then◌else◌}
use Rattle.std.specs.List.{list_all, zip}
use Rattle.unit_signatures.specs.declared.unit.ExponentRange.{ExponentRange}
use Rattle.unit_signatures.specs.Units.{is_exponent}

-- the unit with these exponents where each is in the range
abbrev pub within : List ℤ → Result (List ℤ) ExponentRange
within exponents = if list_all is_exponent exponents then Ok exponents else Err (record {})

-- exponents added, subtracted and multiplied one by one
abbrev pub sums : List ℤ → List ℤ → List ℤ
sums u v = map (λ p. p.0 +ℤ p.1) (zip u v)

abbrev pub differences : List ℤ → List ℤ → List ℤ
differences u v = map (λ p. p.0 -ℤ p.1) (zip u v)

abbrev pub multiples : List ℤ → ℤ → List ℤ
multiples u n = map (λ e. e *ℤ n) u

-- a product adds the exponents
abbrev pub product : List ℤ → List ℤ → Result (List ℤ) ExponentRange
product u v = within (sums u v)

-- a quotient subtracts them
abbrev pub quotient : List ℤ → List ℤ → Result (List ℤ) ExponentRange
quotient u v = within (differences u v)

-- a power multiplies them
abbrev pub power_of : List ℤ → ℤ → Result (List ℤ) ExponentRange
power_of u n = within (multiples u n)
