use Rattle.std.proofs.Common.{◌≡◌, ◌+◌, ◌++◌, length}
use Rattle.quantities.specs.Texts.{digits_below, without_final_zeros}
use Rattle.quantities.proofs.texts.push_needed_decimals.Given as goal

abbrev pub invariant-loop-place : goal.invariant-loop-place
invariant-loop-place l =
    (l.out.bytes ++ without_final_zeros (digits_below l.place l.number)
    ≡ l.initial.out.bytes ++ without_final_zeros (digits_below 9 l.number))
    × (length l.out.bytes + l.place ≡ length l.initial.out.bytes + 9)
