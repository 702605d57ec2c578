-- Units as the exponents of eight base units: mm, kg, s, A, K, mol, cd, deg.
use Rattle.std.specs.Prelude.{◌≡◌, ℤ, pos, negsuc, List, [], ◌∷◌, length, IsTrue, Bool, ◌&&◌, int_le}
use Rattle.std.specs.List.{list_all}

-- an exponent is -8 to 7
abbrev pub is_exponent : ℤ → Bool
is_exponent e = int_le (negsuc 7) e && int_le e (pos 7)

-- eight exponents
pub record IsUnit (unit : List ℤ) : Type 0 where
  pub eight : length unit ≡ 8
  pub each : IsTrue (list_all is_exponent unit)

-- the pure unit, of a number without unit
abbrev pub pure : List ℤ
pure = pos 0 ∷ pos 0 ∷ pos 0 ∷ pos 0 ∷ pos 0 ∷ pos 0 ∷ pos 0 ∷ pos 0 ∷ []
