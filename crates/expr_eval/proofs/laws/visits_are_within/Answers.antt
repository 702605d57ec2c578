use Rattle.expr_eval.proofs.VisitLemmas.{visited-within}
use Rattle.expr_eval.proofs.laws.visits_are_within.Goals as goal

pub returns : goal.returns
returns c = λ r k t. visited-within r k t
