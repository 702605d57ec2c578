use Rattle.recompute.proofs.EqualityLemmas.{outcome_equal}
use Rattle.recompute.proofs.laws.same_outcome_is_equality.Goals as goal

pub returns : goal.returns
returns c = λ a b. outcome_equal a b
