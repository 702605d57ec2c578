use Rattle.document_outcomes.proofs.WorkedLemmas as lemma
use Rattle.document_outcomes.proofs.laws.features_work.Goals as goal

pub returns : goal.returns
returns c = lemma.features_work
