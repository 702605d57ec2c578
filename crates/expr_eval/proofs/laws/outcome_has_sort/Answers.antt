use Rattle.property_types.specs.declared.value.ValueFault.TheVariants.{OutOfType}
use Rattle.expr_eval.proofs.KindLemmas.{outcome-kind}
use Rattle.expr_eval.proofs.laws.outcome_has_sort.Goals as goal

pub returns : goal.returns
returns c = λ s r agrees k t. outcome-kind s r agrees OutOfType k t
