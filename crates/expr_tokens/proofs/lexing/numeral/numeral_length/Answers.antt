use Rattle.std.proofs.Common.{◌≡◌, ◌+◌, drop, ap, ◌∙◌, arith}
use Rattle.std.proofs.lemmas.List.{take_rest}
use Rattle.quantities.specs.Decimals.{is_decimal}
use Rattle.expr_tokens.specs.Longest.{longest}
use Rattle.expr_tokens.specs.NumeralParts.{is_exponent, is_fraction}
use Rattle.expr_tokens.proofs.LongestFronts.{longest-le}
use Rattle.expr_tokens.proofs.ScannedNumerals.{whole_of, fraction_of, exponent_of, numeral-longest}
use Rattle.expr_tokens.proofs.lexing.numeral.numeral_length.Goals as goal

pub returns-clause-longest : goal.returns-clause-longest
returns-clause-longest c =
    let text = c.args.text.now in
    let whole : c.digit_count-whole.result ≡ whole_of text = c.digit_count-whole.ensures.longest in
    let fraction : c.fraction_length.result ≡ fraction_of text =
    c.fraction_length.ensures.longest ∙ ap (longest is_fraction) (take_rest text c.digit_count-whole.result) ∙ ap (λ n. longest is_fraction (drop n text)) whole in
    let mantissa : c.digit_count-whole.result + c.fraction_length.result ≡ whole_of text + fraction_of text = omega arith in
    let exponent : c.exponent_length.result ≡ exponent_of text =
    c.exponent_length.ensures.longest ∙ ap (longest is_exponent) (take_rest text (c.digit_count-whole.result + c.fraction_length.result))
    ∙ ap (λ n. longest is_exponent (drop n text)) mantissa in
    omega (arith, numeral-longest text c.requires)

pub returns-clause-within : goal.returns-clause-within
returns-clause-within c = omega (arith, returns-clause-longest c, longest-le is_decimal c.args.text.now)
