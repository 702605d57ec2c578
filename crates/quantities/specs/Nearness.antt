-- What rounding means: the whole number nearest to p / q, and of two the one away from zero.
use Rattle.std.specs.Prelude.{◌≢◌, ◌≤◌, ◌*◌, ℤ, pos, ◌-ℤ◌, ◌*ℤ◌, unsigned_abs}
use Rattle.quantities.specs.Arithmetic.{near}

-- n is at most half from p / q, both sides taken times 2 q
abbrev pub IsWithinHalf : ℤ → ℤ → ℤ → Type 0
IsWithinHalf p q n = 2 * unsigned_abs (p -ℤ q *ℤ n) ≤ unsigned_abs q

-- n is at most half from p / q, and no other such number is greater in size
pub record IsNearest (p q n : ℤ) : Type 0 where
  pub within_half : IsWithinHalf p q n
  pub greatest : (m : ℤ) → IsWithinHalf p q m → unsigned_abs m ≤ unsigned_abs n

-- rounding gives such a number
abbrev pub NearIsNearest : Type 0
NearIsNearest = (p q : ℤ) → q ≢ pos 0 → IsNearest p q (near p q)
