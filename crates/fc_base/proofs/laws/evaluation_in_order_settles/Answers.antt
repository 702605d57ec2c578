use Rattle.fc_base.proofs.GraphLemmas.{settles_in_order}
use Rattle.fc_base.proofs.laws.evaluation_in_order_settles.Goals as goal

pub returns : goal.returns
returns g c = λ deps local order v w reads ordered evaluates. settles_in_order deps local reads order v w ordered evaluates
