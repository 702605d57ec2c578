use Rattle.std.proofs.Common.{◌≡◌, max, drop}
use Rattle.expr_tree.specs.Renaming.{numbers_end}
use Rattle.expr_tree.proofs.renaming.Listed.of.Given as goal

-- the end so far, and that of the other numbers
abbrev pub invariant-loop-pair : goal.invariant-loop-pair
invariant-loop-pair l = max l.end (numbers_end (drop l.pair-index l.pairs)) ≡ numbers_end l.pairs
