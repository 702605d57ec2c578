use Rattle.std.proofs.Common.{◌≡◌, ℕ, ◌<◌, pos, ◌-ℤ◌, length, get_or}
use Rattle.unit_signatures.proofs.unit.differences.Given as goal

abbrev pub invariant-loop-i : goal.invariant-loop-i
invariant-loop-i l =
    (length l.differences ≡ 8) × ((k : ℕ) → k < l.i → get_or l.differences k (pos 0) ≡ get_or l.left k (pos 0) -ℤ get_or l.right k (pos 0))
