use Rattle.std.proofs.Common.{◌≡◌, Ok, drop, fold}
use Rattle.expr_eval.specs.Aggregates.{amounts, plus_more, total}
use Rattle.expr_eval.proofs.aggregates.total.Given as goal

-- the sum so far, and the other amounts added to it, is the total
abbrev pub invariant-loop-number : goal.invariant-loop-number
invariant-loop-number l = fold plus_more (Ok l.sum) (amounts (drop l.number-index l.numbers)) ≡ total (amounts l.numbers)
