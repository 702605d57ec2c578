use Rattle.document_outcomes.proofs.FullLemmas.{full-is}
use Rattle.document_outcomes.proofs.laws.outcomes_are_full.Goals as goal

pub returns : goal.returns
returns c = λ m d w none fixed s here. full-is d none m w fixed s here
