-- Private: only contracts inside this crate cite this.
-- The first digits of a text as a number.
use Rattle.std.specs.Prelude.{ℕ, zero, suc, ◌+◌, ◌-◌, ◌*◌, ◌^◌, nat_lt, List, [], ◌∷◌, if◌then◌else◌}
use Rattle.std.specs.Char.{is_ascii_digit}

-- one more where the next digit is 5 or above
abbrev pub rounded_by : ℕ → ℕ → ℕ
rounded_by c n = if nat_lt (c - 48) 5 then n else n + 1

-- the number of the first digits of a text behind those read so far, rounded by the next one, and with
-- zeros where digits lack
unfoldable pub kept : ℕ → List ℕ → ℕ → ℕ
kept places [] n = n * 10 ^ places
kept zero (c ∷ cs) n = if is_ascii_digit c then rounded_by c n else kept zero cs n
kept (suc places) (c ∷ cs) n = if is_ascii_digit c then kept places cs (n * 10 + (c - 48)) else kept (suc places) cs n
