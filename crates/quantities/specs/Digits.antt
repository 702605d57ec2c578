-- Reading digits.
use Rattle.std.specs.Prelude.{ℕ, ◌+◌, ◌-◌, ◌*◌, List, [], ◌∷◌, Bool, false, ◌==◌, if◌then◌else◌}
use Rattle.std.specs.Char.{is_ascii_digit}

-- the number that the digits of a text make behind those read so far, other bytes left out
abbrev pub number_after : ℕ → List ℕ → ℕ
number_after n [] = n
number_after n (c ∷ cs) = number_after (if is_ascii_digit c then n * 10 + (c - 48) else n) cs

-- the first byte is `-`
abbrev pub begins_with_minus : List ℕ → Bool
begins_with_minus [] = false
begins_with_minus (c ∷ cs) = c == 45
