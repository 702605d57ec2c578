use Rattle.std.proofs.Common.{◌≡◌, ◌++◌, take, drop}
use Rattle.quantities.specs.Decimals.{before, behind, has}
use Rattle.quantities.proofs.decimal.split.Given as goal

-- no mark so far
abbrev pub invariant-loop-at : goal.invariant-loop-at
invariant-loop-at l =
    (before l.mark l.text ≡ take l.at l.text ++ before l.mark (drop l.at l.text))
    × (behind l.mark l.text ≡ behind l.mark (drop l.at l.text)) × (has l.mark l.text ≡ has l.mark (drop l.at l.text))
