use Rattle.document_outcomes.proofs.CycleLemmas.{no_cycle-acyclic}
use Rattle.document_outcomes.proofs.FaultLemmas.{valid-no_cycle}
use Rattle.document_outcomes.proofs.laws.a_valid_document_has_no_cycle.Goals as goal

pub returns-clause-by_test : goal.returns-clause-by_test
returns-clause-by_test c = λ d valid. valid-no_cycle d valid

pub returns-clause-by_chains : goal.returns-clause-by_chains
returns-clause-by_chains c = λ d valid. no_cycle-acyclic d (valid-no_cycle d valid)
