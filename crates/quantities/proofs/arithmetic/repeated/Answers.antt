use Rattle.std.proofs.Common.{◌+◌, Ok, ap, sym, ◌∙◌, arith}
use Rattle.std.proofs.lemmas.Result.{err_from_is_err_and}
use Rattle.quantities.specs.Arithmetic.{repeated}
use Rattle.quantities.proofs.Powers.{repeated-more, repeated-failed}
use Rattle.quantities.proofs.arithmetic.repeated.Goals as goal

pub loop-init : goal.loop-init
unfolding repeated
loop-init c = ap Ok (sym c.one-power.ensures)

pub loop-preserved : goal.loop-preserved
loop-preserved c =
    repeated-more c.args.amount.now c.loop.counter c.loop.power _ c.loop.invariant (sym c.in_ok-power.was ∙ c.times.ensures)

pub returns-in_err-power : goal.returns-in_err-power
returns-in_err-power c =
    let p = err_from_is_err_and c.from_residual.result c.from_residual.ensures.1 in
    rw (p.1, p.2) (sym (repeated-failed c.args.amount.now (c.loop.counter + 1) c.args.times _ (omega arith)
    (repeated-more c.args.amount.now c.loop.counter c.loop.power _ c.loop.invariant (sym c.in_err-power.was ∙ c.times.ensures))))
