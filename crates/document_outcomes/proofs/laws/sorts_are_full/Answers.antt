use Rattle.document_outcomes.proofs.FullLemmas.{sort-is}
use Rattle.document_outcomes.proofs.laws.sorts_are_full.Goals as goal

pub returns : goal.returns
returns c = λ d w none fixed s here. sort-is d none w fixed s here
