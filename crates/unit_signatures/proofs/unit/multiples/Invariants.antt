use Rattle.std.proofs.Common.{◌≡◌, ℕ, ◌<◌, pos, ◌*ℤ◌, length, get_or}
use Rattle.unit_signatures.proofs.unit.multiples.Given as goal

abbrev pub invariant-loop-i : goal.invariant-loop-i
invariant-loop-i l =
    (length l.multiples ≡ 8) × ((k : ℕ) → k < l.i → get_or l.multiples k (pos 0) ≡ get_or l.exponents k (pos 0) *ℤ l.n)
