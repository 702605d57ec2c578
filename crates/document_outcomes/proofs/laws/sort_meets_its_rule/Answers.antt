use Rattle.document_outcomes.proofs.FullLemmas.{sort-fixpoint}
use Rattle.document_outcomes.proofs.laws.sort_meets_its_rule.Goals as goal

pub returns : goal.returns
returns c = λ d none. sort-fixpoint d none
