use Rattle.std.proofs.Common.{◌≡◌, ◌+◌, ◌++◌, length}
use Rattle.quantities.specs.Texts.{digits_below}
use Rattle.quantities.proofs.texts.push_nine_decimals.Given as goal

abbrev pub invariant-loop-place : goal.invariant-loop-place
invariant-loop-place l = (l.out.bytes ++ digits_below l.place l.number ≡ l.initial.out.bytes ++ digits_below 9 l.number) × (length l.out.bytes + l.place ≡ length l.initial.out.bytes + 9)
