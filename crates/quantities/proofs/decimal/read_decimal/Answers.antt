use Rattle.std.proofs.Common.{sym, ◌∙◌}
use Rattle.quantities.proofs.DecimalLemmas.{value-not_decimal, value-range, value-amount}
use Rattle.quantities.proofs.decimal.read_decimal.Goals as goal

pub returns-in-Some : goal.returns-in-Some
returns-in-Some c =
    c.of_size.ensures
    ∙ sym (value-amount c.args.text.now c.begins_with_minus.result c.in-Some.magnitude (sym c.if-not-is_decimal.ensures)
    c.in-Some.ensures.0 c.in-Some.ensures.1 c.begins_with_minus.ensures)

pub returns-in-None : goal.returns-in-None
returns-in-None c = sym (value-range c.args.text.now (sym c.if-not-is_decimal.ensures) c.in-None.ensures)

pub returns-then-not-is_decimal : goal.returns-then-not-is_decimal
returns-then-not-is_decimal c = sym (value-not_decimal c.args.text.now (sym c.if-not-is_decimal.ensures))
