use Rattle.property_types.specs.declared.value.ValueFault.TheVariants.{OutOfType}
use Rattle.expr_eval.proofs.SpellingLemmas.{outcome-numbered}
use Rattle.expr_eval.proofs.laws.outcome_ignores_renaming.Goals as goal

pub returns : goal.returns
returns c = λ on_path on_area n r k t. outcome-numbered on_path on_area OutOfType r n k t
