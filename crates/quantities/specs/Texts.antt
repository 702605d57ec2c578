-- The texts of amounts: a whole part, and the digits of the billionths behind a point.
use Rattle.std.specs.Prelude.{ℕ, zero, suc, ◌+◌, ◌/◌, ◌%◌, ◌^◌, ◌==◌, ℤ, List, [], ◌∷◌, ◌++◌, decimal, unsigned_abs, if◌then◌else◌}
use Rattle.std.specs.Fmt.{sign_text}
use Rattle.std.specs.Int.{is_negative}
use Rattle.std.specs.List.{list_all}

-- so many billionths are one
abbrev pub billion : ℕ
billion = 1000000000

-- the digits of a number at the places k - 1 down to 0
unfoldable pub digits_below : ℕ → ℕ → List ℕ
digits_below zero n = []
digits_below (suc k) n = (48 + n / 10 ^ k % 10) ∷ digits_below k n

-- a list of digits without the zeros at its end
unfoldable pub without_final_zeros : List ℕ → List ℕ
without_final_zeros [] = []
without_final_zeros (d ∷ ds) =
    if list_all (λ e. e == 48) (d ∷ ds) then [] else d ∷ without_final_zeros ds

-- digits behind a point, and nothing where there are none
abbrev pub behind_point : List ℕ → List ℕ
behind_point [] = []
behind_point (d ∷ ds) = 46 ∷ d ∷ ds

-- the sign and the whole part
unfoldable pub whole_text : ℤ → List ℕ
whole_text raw = sign_text (is_negative raw) ++ decimal (unsigned_abs raw / billion)

-- an amount with as many decimals as it needs
unfoldable pub decimal_text : ℤ → List ℕ
decimal_text raw = whole_text raw ++ behind_point (without_final_zeros (digits_below 9 (unsigned_abs raw)))

-- an amount with nine decimals
unfoldable pub nine_text : ℤ → List ℕ
nine_text raw = whole_text raw ++ 46 ∷ digits_below 9 (unsigned_abs raw)
