use Rattle.fcdoc_core.proofs.WorkedSessionLemmas as lemma
use Rattle.fcdoc_core.proofs.laws.session_works.Goals as goal

pub returns : goal.returns
returns c = lemma.session_works
