-- Private: only contracts inside this crate cite this.
-- The parts of a numeral: digits, then perhaps a fraction, then perhaps an exponent.
use Rattle.std.specs.Prelude.{ℕ, Bool, false, ◌&&◌, List, [], ◌∷◌}
use Rattle.quantities.specs.Decimals.{are_digits, is_mark, without_sign}
use Rattle.quantities.specs.declared.mark.Mark.TheVariants.{Point, Exponent}

-- a point and 1 to 40 digits
abbrev pub is_fraction : List ℕ → Bool
is_fraction [] = false
is_fraction (c ∷ cs) = is_mark Point c && are_digits 40 cs

-- 1 or 2 digits, perhaps behind a sign
abbrev pub is_signed : List ℕ → Bool
is_signed text = are_digits 2 (without_sign text)

-- an `e` or `E`, and that behind it
abbrev pub is_exponent : List ℕ → Bool
is_exponent [] = false
is_exponent (c ∷ cs) = is_mark Exponent c && is_signed cs
