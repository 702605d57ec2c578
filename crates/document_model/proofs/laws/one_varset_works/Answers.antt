use Rattle.document_model.proofs.ExampleLemmas as lemma
use Rattle.document_model.proofs.laws.one_varset_works.Goals as goal

pub returns : goal.returns
returns c = lemma.one_varset_works
