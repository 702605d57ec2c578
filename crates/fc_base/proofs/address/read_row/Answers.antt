use Rattle.std.proofs.Common.{◌+◌, ◌*◌, sym, ap, ◌∙◌, arith}
use Rattle.fc_base.proofs.RowLemmas.{row_of-not_digit, row_of-large, digits_value-more, all_digits-more}
use Rattle.fc_base.proofs.address.read_row.Goals as goal

pub returns-then-not-is_ascii_digit : goal.returns-then-not-is_ascii_digit
returns-then-not-is_ascii_digit c =
    sym (row_of-not_digit c.args.text.now c.loop-digit.digit-index c.loop-digit-test.true (sym c.if-not-is_ascii_digit.ensures.value))

pub returns-then-row-gt-LAST_ROW : goal.returns-then-row-gt-LAST_ROW
returns-then-row-gt-LAST_ROW c =
    let more = digits_value-more c.args.text.now c.loop-digit.digit-index c.loop-digit.row c.loop-digit-test.true c.loop-digit.invariant.0 (sym c.if-not-is_ascii_digit.ensures.value) in
    sym (row_of-large c.args.text.now (c.loop-digit.digit-index + 1) (omega (arith, more)))

pub loop-digit-preserved : goal.loop-digit-preserved
loop-digit-preserved c =
    let digit = sym c.if-not-is_ascii_digit.ensures.value in (
      ap (λ n. c.loop-digit.row * 10 + n) c.from.ensures ∙ digits_value-more c.args.text.now c.loop-digit.digit-index c.loop-digit.row c.loop-digit-test.true c.loop-digit.invariant.0 digit,
      all_digits-more c.args.text.now c.loop-digit.digit-index c.loop-digit-test.true c.loop-digit.invariant.1 digit,
      c.if-row-gt-LAST_ROW.false,
    )
