use Rattle.std.proofs.Common.{◌≡◌, drop, fold}
use Rattle.std.specs.Int.{int_max}
use Rattle.expr_eval.specs.Aggregates.{amounts}
use Rattle.expr_eval.proofs.aggregates.greatest.Given as goal

-- the greatest so far, and the other amounts compared with it, give the greatest
abbrev pub invariant-loop-number : goal.invariant-loop-number
invariant-loop-number l = fold int_max l.greatest (amounts (drop l.number-index l.others)) ≡ fold int_max l.initial.greatest (amounts l.others)
