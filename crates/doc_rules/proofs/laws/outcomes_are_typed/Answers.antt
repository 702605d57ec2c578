use Rattle.doc_rules.proofs.OutcomeForm.{outcomes-typed}
use Rattle.doc_rules.proofs.laws.outcomes_are_typed.Goals as goal

pub returns : goal.returns
returns c = outcomes-typed
