use Rattle.document_outcomes.proofs.FaultLemmas.{valid-no_fault}
use Rattle.document_outcomes.proofs.ValueLemmas.{full-typed, full-right, no_features-sound, placements_fault_together}
use Rattle.document_outcomes.proofs.laws.outcomes_have_sorts.Goals as goal

pub returns-clause-of_sort : goal.returns-clause-of_sort
returns-clause-of_sort c = λ m d sound valid s here. full-typed m sound d (valid-no_fault d valid) s here

pub returns-clause-no_wrong_operands : goal.returns-clause-no_wrong_operands
returns-clause-no_wrong_operands c = λ m d sound valid s o e here found h wrong other.
    full-right m sound d (valid-no_fault d valid) s o e here found h wrong other

pub returns-clause-can_be_met : goal.returns-clause-can_be_met
returns-clause-can_be_met c = no_features-sound

pub returns-clause-together : goal.returns-clause-together
returns-clause-together c = placements_fault_together
