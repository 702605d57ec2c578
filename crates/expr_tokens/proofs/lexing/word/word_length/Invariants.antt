use Rattle.std.proofs.Common.{length}
use Rattle.expr_tokens.proofs.WordLemmas.{IsWordFront}
use Rattle.expr_tokens.proofs.lexing.word.word_length.Given as goal

abbrev pub invariant-loop-next : goal.invariant-loop-next
invariant-loop-next l = IsWordFront l.text l.rest.rest.now

abbrev pub decreases-loop-next : goal.decreases-loop-next
decreases-loop-next l = length l.rest.rest.now
