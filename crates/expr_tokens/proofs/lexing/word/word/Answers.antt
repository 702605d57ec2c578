use Rattle.std.proofs.Common.{sym, subst}
use Rattle.std.specs.Str.{IsCharBoundary}
use Rattle.expr_tokens.proofs.WordLemmas.{word-boundary}
use Rattle.expr_tokens.proofs.lexing.word.word.Goals as goal

pub range-requires-clause-end_boundary : goal.range-requires-clause-end_boundary
range-requires-clause-end_boundary c =
    subst (IsCharBoundary c.args.text.now) (sym c.word_length-length.ensures) (word-boundary c.args.text.now c.utf8.text)
