use Rattle.std.proofs.Common.{◌+◌, ◌-◌, length, ap, sym, ◌∙◌, arith}
use Rattle.quantities.specs.declared.mark.Mark.TheVariants.{Point}
use Rattle.quantities.specs.Decimals.{before}
use Rattle.quantities.specs.Scaling.{kept}
use Rattle.quantities.proofs.DecimalLemmas.{size-right, size-left, size-past}
use Rattle.quantities.proofs.ScalingLemmas.{within-same}
use Rattle.quantities.proofs.decimal.size_of.Goals as goal

pub returns-then-not-begins_with_minus : goal.returns-then-not-begins_with_minus
returns-then-not-begins_with_minus c =
    let m = c.args.mantissa.now in
    within-same c.scaled.result _ _
    (ap (λ w. kept (length w + 9 + c.number_of_digits-moved.result) m 0) c.split.ensures.before
    ∙ ap (λ n. kept (length (before Point m) + 9 + n) m 0) c.number_of_digits-moved.ensures.value
    ∙ size-right m c.args.exponent.now c.requires.mantissa (sym c.if-not-begins_with_minus.ensures))
    c.scaled.ensures

pub returns-then-moved-places : goal.returns-then-moved-places
returns-then-moved-places c =
    let m = c.args.mantissa.now in
    within-same c.scaled-then-moved-places.result _ _
    (ap (λ w. kept (length w + 9 - c.number_of_digits-moved.result) m 0) c.split.ensures.before
    ∙ ap (λ n. kept (length (before Point m) + 9 - n) m 0) c.number_of_digits-moved.ensures.value
    ∙ size-left m c.args.exponent.now c.requires.mantissa (sym c.if-not-begins_with_minus.ensures)
    (omega (arith, c.if-moved-places.true, ap length c.split.ensures.before, c.number_of_digits-moved.ensures.value)))
    c.scaled-then-moved-places.ensures

pub returns-else-moved-places : goal.returns-else-moved-places
returns-else-moved-places c =
    let m = c.args.mantissa.now in
    let nothing = size-past m c.args.exponent.now c.requires.mantissa (sym c.if-not-begins_with_minus.ensures)
    (omega (arith, c.if-moved-places.false, ap length c.split.ensures.before, c.number_of_digits-moved.ensures.value)) in
    (omega (arith, nothing), nothing)
