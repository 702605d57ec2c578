use Rattle.std.proofs.Common.{◌≡◌, ◌==◌, ◌||◌, ◌∙◌, true, get_or, arith}
use Rattle.std.proofs.lemmas.Bool.Decides.{nat_tests}
use Rattle.expr_tokens.proofs.DigitLemmas.{signed-found, signed-absent}
use Rattle.expr_tokens.proofs.lexing.numeral.signed_length.Goals as goal
use Rattle.expr_tokens.proofs.lexing.numeral.signed_length.Goals.{in_default-via-then-text-lt1, in_default-via-else-text-lt1+in_default-1}

pub returns-in-43-clause-longest : goal.returns-in-43-clause-longest
returns-in-43-clause-longest c =
    let sign : ((get_or c.args.text.now 0 0 == 43) || (get_or c.args.text.now 0 0 == 45)) ≡ true = grind (arith, nat_tests) in
    signed-found c.args.text.now c.digit_count.result c.with_mark.result c.in-43.len_at_least sign c.digit_count.ensures.longest c.with_mark.ensures

pub returns-in_default-clause-longest : goal.returns-in_default-clause-longest
returns-in_default-clause-longest c =
    c.digit_count-in_default.ensures.longest
    ∙ signed-absent c.args.text.now (λ some. elim c.in_default.branch [
      | in_default-via-then-text-lt1 w ↦ grind (arith, nat_tests)
      | in_default-via-else-text-lt1+in_default-1 w ↦ grind (arith, nat_tests)
    ])
