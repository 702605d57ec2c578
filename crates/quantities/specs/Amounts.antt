-- Amounts: whole numbers of billionths, at most 10^28 on each side of zero.
use Rattle.std.specs.Prelude.{ℕ, ℤ, pos, neg_ℤ, ◌≤◌, Bool, true, false, unsigned_abs}

-- the greatest amount, 10^19, in billionths
abbrev pub greatest : ℕ
greatest = 10000000000000000000000000000

-- within the bound
abbrev pub IsAmount : ℤ → Type 0
IsAmount raw = unsigned_abs raw ≤ greatest

-- the number of this size, negative or not
abbrev pub signed : Bool → ℕ → ℤ
signed true n = neg_ℤ (pos n)
signed false n = pos n
