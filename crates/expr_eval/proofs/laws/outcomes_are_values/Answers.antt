use Rattle.property_types.specs.declared.value.ValueFault.TheVariants.{OutOfType}
use Rattle.expr_eval.proofs.ValueLemmas.{spelled_value}
use Rattle.expr_eval.proofs.laws.outcomes_are_values.Goals as goal

pub returns : goal.returns
returns c = λ r k t v gives spelled e. spelled_value r gives OutOfType k t v spelled e
