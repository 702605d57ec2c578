use Rattle.expression_laws.proofs.BracketLemmas.{fits_exactly}
use Rattle.expr_grammar.proofs.ReadBack.{printed_has_tokens}
use Rattle.expression_laws.proofs.laws.brackets_are_needed.Goals as goal

pub returns : goal.returns
returns c = record { has_tokens = printed_has_tokens; needed = fits_exactly }
