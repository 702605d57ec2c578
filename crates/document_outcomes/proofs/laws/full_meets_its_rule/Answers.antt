use Rattle.document_outcomes.proofs.FullLemmas.{full-fixpoint}
use Rattle.document_outcomes.proofs.laws.full_meets_its_rule.Goals as goal

pub returns : goal.returns
returns c = λ m d none. full-fixpoint d none m
