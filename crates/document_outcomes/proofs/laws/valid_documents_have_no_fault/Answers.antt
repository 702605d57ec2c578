use Rattle.document_outcomes.proofs.FaultLemmas.{valid-no_fault, no_fault-valid}
use Rattle.document_outcomes.proofs.laws.valid_documents_have_no_fault.Goals as goal

pub returns : goal.returns
returns c = λ d. (valid-no_fault d, no_fault-valid d)
