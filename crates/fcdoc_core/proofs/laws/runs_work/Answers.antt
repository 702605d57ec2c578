use Rattle.fcdoc_core.proofs.WorkedRunsLemmas as lemma
use Rattle.fcdoc_core.proofs.laws.runs_work.Goals as goal

pub returns : goal.returns
returns c = lemma.runs_work
