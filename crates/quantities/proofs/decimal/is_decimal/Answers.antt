use Rattle.std.proofs.Common.{◌≡◌, false, ap, sym, ◌∙◌}
use Rattle.quantities.specs.Decimals.{is_mantissa, has_exponent}
use Rattle.quantities.proofs.DecimalLemmas.{decimal-plain}
use Rattle.quantities.proofs.decimal.is_decimal.Goals as goal

pub returns-in-None : goal.returns-in-None
returns-in-None c =
    let none : has_exponent c.args.text.now ≡ false = rw c.in-None.is at c.parts.ensures.exponent in
    c.is_mantissa-in-None.ensures ∙ ap is_mantissa c.parts.ensures.mantissa ∙ sym (decimal-plain c.args.text.now none)
