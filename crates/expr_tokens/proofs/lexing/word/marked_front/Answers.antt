use Rattle.std.proofs.Common.{arith}
use Rattle.std.proofs.lemmas.Bool.{false_from_ne_true}
use Rattle.std.proofs.lemmas.Str.{IsCharBoundary-start}
use Rattle.expr_tokens.proofs.MarkedLemmas.{marked-cut}
use Rattle.expr_tokens.proofs.lexing.word.marked_front.Goals as goal

pub returns-in_err-get : goal.returns-in_err-get
returns-in_err-get c =
    let text = c.args.text.now in
    rw c.from_residual.ensures
    (λ within. false_from_ne_true _ (λ marked. c.in_err-get.ensures.cases (omega arith) (IsCharBoundary-start text c.utf8.text) (marked-cut text c.args.bytes c.utf8.text within marked)))
