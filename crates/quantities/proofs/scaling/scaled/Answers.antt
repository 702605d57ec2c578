use Rattle.std.proofs.Common.{◌+◌, ◌-◌, ◌*◌, drop, get_or, ap, sym, ◌∙◌, arith}
use Rattle.quantities.specs.Scaling.{kept}
use Rattle.quantities.proofs.ScalingLemmas.{kept-grows, kept-end, step-last, step-digit, step-other, within-same}
use Rattle.quantities.proofs.scaling.scaled.Goals as goal

pub returns-then-left-eq0 : goal.returns-then-left-eq0
returns-then-left-eq0 c =
    within-same c.within.result _ _
    (c.rounded_by.ensures
    ∙ sym (step-last c.args.text.now c.loop-byte.byte-index c.loop-byte.left c.loop-byte.number (omega arith)
    (sym c.if-not-is_ascii_digit.ensures.value) c.if-left-eq0.true)
    ∙ c.loop-byte.invariant.0)
    c.within.ensures

pub returns : goal.returns
returns c =
    within-same c.shifted.result _ _
    (sym (kept-end c.args.text.now c.loop-byte.byte-index c.loop-byte.left c.loop-byte.number (omega arith)) ∙ c.loop-byte.invariant.0)
    c.shifted.ensures

pub loop-byte-preserved-then-not-is_ascii_digit : goal.loop-byte-preserved-then-not-is_ascii_digit
loop-byte-preserved-then-not-is_ascii_digit c = (
  sym (step-other c.args.text.now c.loop-byte.byte-index c.loop-byte.left c.loop-byte.number (omega arith)
      (sym c.if-not-is_ascii_digit.ensures.value))
      ∙ c.loop-byte.invariant.0,
  c.loop-byte.invariant.1,
)

pub returns-in_err-number : goal.returns-in_err-number
returns-in_err-number c =
    let next = step-digit c.args.text.now c.loop-byte.byte-index c.loop-byte.left c.loop-byte.number (omega arith)
    (sym c.if-not-is_ascii_digit.ensures.value) (omega arith) in
    let grows = kept-grows (c.loop-byte.left - 1) (drop (c.loop-byte.byte-index + 1) c.args.text.now)
    (c.loop-byte.number * 10 + (get_or c.args.text.now c.loop-byte.byte-index 0 - 48)) in
    rw c.from_residual.ensures (λ fits. c.in_err-number.ensures (omega (arith, next, grows, fits, c.loop-byte.invariant.0, c.from.ensures)))

pub loop-byte-preserved : goal.loop-byte-preserved
loop-byte-preserved c =
    let next = step-digit c.args.text.now c.loop-byte.byte-index c.loop-byte.left c.loop-byte.number (omega arith)
    (sym c.if-not-is_ascii_digit.ensures.value) (omega arith) in
    let same = c.in_ok-number.ensures.1 ∙ ap (λ d. c.loop-byte.number * 10 + d) c.from.ensures in (
      ap (λ n. kept (c.loop-byte.left - 1) (drop (c.loop-byte.byte-index + 1) c.args.text.now) n) same ∙ sym next ∙ c.loop-byte.invariant.0,
      omega (arith, c.in_ok-number.ensures.0, c.in_ok-number.ensures.1),
    )
