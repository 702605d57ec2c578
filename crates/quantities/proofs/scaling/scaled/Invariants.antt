use Rattle.std.proofs.Common.{◌≡◌, ◌≤◌, drop}
use Rattle.quantities.specs.Amounts.{greatest}
use Rattle.quantities.specs.Scaling.{kept}
use Rattle.quantities.proofs.scaling.scaled.Given as goal

-- what the bytes that are left make of the number is the whole
abbrev pub invariant-loop-byte : goal.invariant-loop-byte
invariant-loop-byte l = (kept l.left (drop l.byte-index l.text) l.number ≡ kept l.places l.text 0) × (l.number ≤ greatest)
