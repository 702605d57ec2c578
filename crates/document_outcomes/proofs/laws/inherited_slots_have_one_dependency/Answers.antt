use Rattle.document_outcomes.proofs.ValueLemmas.{inherited-dependency}
use Rattle.document_outcomes.proofs.laws.inherited_slots_have_one_dependency.Goals as goal

pub returns : goal.returns
returns c = λ d s t h. inherited-dependency d s t h
