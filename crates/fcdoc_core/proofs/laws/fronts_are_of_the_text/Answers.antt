use Rattle.fcdoc_core.proofs.FrontLemmas as lemma
use Rattle.fcdoc_core.proofs.laws.fronts_are_of_the_text.Goals as goal

pub returns : goal.returns
returns c = lemma.fronts_are_of_the_text
