-- The texts of units, such as `mm*kg*s^-2`.
use Rattle.std.specs.Prelude.{ℕ, ℤ, pos, List, [], ◌∷◌, ◌++◌, codes, if◌then◌else◌}
use Rattle.std.specs.Fmt.{signed_decimal}
use Rattle.std.specs.List.{join_with_byte}
use Rattle.std.specs.Ordering.{int_eq}

-- the base units in the order of a unit's exponents
abbrev pub base_units : List (List ℕ)
base_units = codes "mm" ∷ codes "kg" ∷ codes "s" ∷ codes "A" ∷ codes "K" ∷ codes "mol" ∷ codes "cd" ∷ codes "deg" ∷ []

-- a base unit with its exponent, which is left out where it is 1
abbrev pub factor_text : List ℕ → ℤ → List ℕ
factor_text base e = if int_eq e (pos 1) then base else base ++ 94 ∷ signed_decimal e

-- the base units whose exponent is not 0
abbrev pub factors : List (List ℕ) → List ℤ → List (List ℕ)
factors [] es = []
factors (base ∷ bases) [] = []
factors (base ∷ bases) (e ∷ es) = if int_eq e (pos 0) then factors bases es else factor_text base e ∷ factors bases es

-- a unit's text: its factors joined by `*`, and nothing for the pure unit
unfoldable pub unit_text : List ℤ → List ℕ
unit_text unit = join_with_byte 42 (factors base_units unit)
