use Rattle.std.proofs.Common.{◌+◌, ◌*◌, ap, ◌∙◌, arith}
use Rattle.quantities.proofs.ScalingLemmas.{shift-more, shift-grows}
use Rattle.quantities.proofs.scaling.shifted.Goals as goal

pub returns-in_err-shifted : goal.returns-in_err-shifted
returns-in_err-shifted c =
    let next = ap (λ n. n * 10) c.loop.invariant.0 ∙ shift-more c.args.number c.loop.counter in
    let grows = shift-grows c.args.number (c.loop.counter + 1) c.args.zeros (omega arith) in
    rw c.from_residual.ensures (λ fits. c.in_err-shifted.ensures (omega (arith, next, grows, fits)))

pub loop-preserved : goal.loop-preserved
loop-preserved c =
    let next = ap (λ n. n * 10) c.loop.invariant.0 ∙ shift-more c.args.number c.loop.counter in
    (c.in_ok-shifted.ensures.1 ∙ next, omega (arith, c.in_ok-shifted.ensures.0, c.in_ok-shifted.ensures.1))
