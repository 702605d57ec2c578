use Rattle.std.proofs.Common.{take, ⊎_elim, arith}
use Rattle.std.proofs.lemmas.Bool.{false_from_ne_true, both_ways, cases_lt}
use Rattle.std.proofs.lemmas.List.{length-take-le}
use Rattle.expr_tokens.specs.Lexemes.{is_marked_address}
use Rattle.expr_tokens.proofs.LongestFronts.{longest-is}
use Rattle.expr_tokens.proofs.MarkedLemmas.{marked-short}
use Rattle.expr_tokens.proofs.lexing.word.longest_marked.Goals as goal

pub loop-length-init : goal.loop-length-init
loop-length-init c = λ m long within. false_from_ne_true _ (λ marked. let short = marked-short (take m c.args.text.now) marked in omega (arith, length-take-le m c.args.text.now within))

pub returns-in-Some : goal.returns-in-Some
returns-in-Some c =
    let text = c.args.text.now in
    let n = c.loop-length.length in (
      longest-is is_marked_address n text c.in-Some.ensures.0 (λ _. c.in-Some.ensures.1)
          (λ m within marked. ⊎_elim (λ more. absurd (both_ways _ (c.loop-length.invariant m more within) marked)) (λ less. less) (cases_lt n m)),
      c.in-Some.ensures.2,
    )

pub returns : goal.returns
returns c =
    let text = c.args.text.now in
    longest-is is_marked_address 0 text (omega arith) (λ some. absurd (omega arith))
    (λ m within marked. ⊎_elim (λ more. absurd (both_ways _ (c.loop-length.invariant m (omega arith) within) marked)) (λ less. less) (cases_lt 0 m))
