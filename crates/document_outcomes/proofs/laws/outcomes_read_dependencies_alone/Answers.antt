use Rattle.document_outcomes.proofs.OutcomeLemmas.{local-reads}
use Rattle.document_outcomes.proofs.laws.outcomes_read_dependencies_alone.Goals as goal

pub returns : goal.returns
returns c = λ m d. local-reads m d
