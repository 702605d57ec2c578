use Rattle.document_model.proofs.ExampleLemmas as lemma
use Rattle.document_model.proofs.laws.linked_box_works.Goals as goal

pub returns : goal.returns
returns c = lemma.linked_box_works
