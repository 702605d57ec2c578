use Rattle.fcdoc_core.proofs.WorkedLinesLemmas as lemma
use Rattle.fcdoc_core.proofs.laws.lines_work.Goals as goal

pub returns : goal.returns
returns c = lemma.lines_work
