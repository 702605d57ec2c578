use Rattle.std.proofs.lemmas.Result.{err_from_is_err_and}
use Rattle.expr_eval.proofs.Totals.{total-stops}
use Rattle.expr_eval.proofs.aggregates.total.Goals as goal

-- the total is the fault of the sum that was no amount
pub returns-in_err-sum : goal.returns-in_err-sum
returns-in_err-sum c =
    let p = err_from_is_err_and c.from_residual.result c.from_residual.ensures.1 in
    let stopped = total-stops c.loop-number.sum c.args.numbers.now c.loop-number.number-index c.number-item.result c.in_err-sum.field-0.0 c.loop-number-test.true c.number-item.is (cc (c.plus.ensures, c.in_err-sum.was)) in
    cc (p.1, p.2, stopped, c.loop-number.invariant)
