use Rattle.std.proofs.Common.{◌≡◌, drop}
use Rattle.expr_tree.specs.Renaming.{new_reference}
use Rattle.expr_tree.proofs.renaming.new_reference.Given as goal

-- the number is none of those so far
abbrev pub invariant-loop-pair : goal.invariant-loop-pair
invariant-loop-pair l = new_reference (drop l.pair-index l.pairs) l.number ≡ new_reference l.pairs l.number
