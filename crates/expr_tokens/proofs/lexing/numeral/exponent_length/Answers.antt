use Rattle.std.proofs.Common.{◌≡◌, false, true, get_or, arith}
use Rattle.std.proofs.lemmas.Bool.Decides.{nat_tests}
use Rattle.quantities.specs.Decimals.{is_mark}
use Rattle.quantities.specs.declared.mark.Mark.TheVariants.{Exponent}
use Rattle.expr_tokens.specs.NumeralParts.{is_exponent}
use Rattle.expr_tokens.proofs.DigitLemmas.{exponent-found, exponent-absent, longest-empty}
use Rattle.expr_tokens.proofs.lexing.numeral.exponent_length.Goals as goal

pub returns-in-101-clause-longest : goal.returns-in-101-clause-longest
returns-in-101-clause-longest c =
    let mark : is_mark Exponent (get_or c.args.text.now 0 0) ≡ true = grind (arith, nat_tests) in
    exponent-found c.args.text.now c.signed_length.result c.with_mark.result c.in-101.len_at_least mark c.signed_length.ensures.longest c.with_mark.ensures

pub returns-in_default-clause-longest : goal.returns-in_default-clause-longest
returns-in_default-clause-longest c = longest-empty is_exponent c.args.text.now c.in_default.len_below

pub returns-in_default-2-clause-longest : goal.returns-in_default-2-clause-longest
returns-in_default-2-clause-longest c =
    let other : is_mark Exponent (get_or c.args.text.now 0 0) ≡ false = grind (arith, nat_tests) in
    exponent-absent c.args.text.now c.in_default.len_at_least other
