use Rattle.document_model.proofs.DependencyLemmas.{deps_are_slots}
use Rattle.document_model.proofs.laws.dependencies_are_slots.Goals as goal

pub returns : goal.returns
returns c = λ d. deps_are_slots d
