use Rattle.document_outcomes.proofs.WorkedLemmas as lemma
use Rattle.document_outcomes.proofs.laws.first_faults_work.Goals as goal

pub returns : goal.returns
returns c = lemma.first_faults_work
