use Rattle.std.proofs.Common.{◌≡◌, false, get_or, arith}
use Rattle.std.proofs.lemmas.Bool.Decides.{nat_tests}
use Rattle.quantities.specs.Decimals.{is_mark}
use Rattle.quantities.specs.declared.mark.Mark.TheVariants.{Point}
use Rattle.expr_tokens.specs.NumeralParts.{is_fraction}
use Rattle.expr_tokens.proofs.DigitLemmas.{fraction-found, fraction-absent, longest-empty}
use Rattle.expr_tokens.proofs.lexing.numeral.fraction_length.Goals as goal

pub returns-in-46-clause-longest : goal.returns-in-46-clause-longest
returns-in-46-clause-longest c =
    fraction-found c.args.text.now c.digit_count.result c.with_mark.result c.in-46.len_at_least (omega arith) c.digit_count.ensures.longest c.with_mark.ensures

pub returns-in_default-clause-longest : goal.returns-in_default-clause-longest
returns-in_default-clause-longest c = longest-empty is_fraction c.args.text.now c.in_default.len_below

pub returns-in_default-2-clause-longest : goal.returns-in_default-2-clause-longest
returns-in_default-2-clause-longest c =
    let other : is_mark Point (get_or c.args.text.now 0 0) ≡ false = grind (arith, nat_tests) in
    fraction-absent c.args.text.now c.in_default.len_at_least other
