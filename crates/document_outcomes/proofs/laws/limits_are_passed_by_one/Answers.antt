use Rattle.document_outcomes.proofs.LimitLemmas.{limits_are_exact}
use Rattle.document_outcomes.proofs.laws.limits_are_passed_by_one.Goals as goal

pub returns : goal.returns
returns c = limits_are_exact
