use Rattle.document_outcomes.proofs.OrderLemmas.{ordered-no_cycle, evaluated-full, evaluated-sort}
use Rattle.document_outcomes.proofs.laws.evaluation_in_order_is_full.Goals as goal

pub returns-clause-no_cycle : goal.returns-clause-no_cycle
returns-clause-no_cycle c = λ d order o. ordered-no_cycle d order o.ordered o.all

pub returns-clause-outcomes : goal.returns-clause-outcomes
returns-clause-outcomes c = λ m d order v w o. evaluated-full d order o.ordered o.all m v w

pub returns-clause-sorts : goal.returns-clause-sorts
returns-clause-sorts c = λ d order v w o. evaluated-sort d order o.ordered o.all v w
