use Rattle.std.proofs.Common.{◌≡◌, drop, fold}
use Rattle.std.specs.Int.{int_min}
use Rattle.expr_eval.specs.Aggregates.{amounts}
use Rattle.expr_eval.proofs.aggregates.least.Given as goal

-- the least so far, and the other amounts compared with it, give the least
abbrev pub invariant-loop-number : goal.invariant-loop-number
invariant-loop-number l = fold int_min l.least (amounts (drop l.number-index l.others)) ≡ fold int_min l.initial.least (amounts l.others)
