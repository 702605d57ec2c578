-- The longest front of a text that passes a test.
use Rattle.std.specs.Prelude.{ℕ, zero, suc, Bool, if◌then◌else◌, List, length, take}

-- the length of the longest front of at most that many bytes that passes; 0 where none does
unfoldable pub longest_within : (List ℕ → Bool) → ℕ → List ℕ → ℕ
longest_within test zero text = 0
longest_within test (suc n) text = if test (take (suc n) text) then suc n else longest_within test n text

-- the length of the longest front that passes; 0 where none does
unfoldable pub longest : (List ℕ → Bool) → List ℕ → ℕ
longest test text = longest_within test (length text) text
