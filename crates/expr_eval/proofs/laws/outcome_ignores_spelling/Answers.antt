use Rattle.std.proofs.Common.{◌≡◌, subst}
use Rattle.property_types.specs.declared.value.ValueFault.TheVariants.{OutOfType}
use Rattle.expr_tree.specs.Tree.{Tree}
use Rattle.expr_tree.proofs.NumberedLemmas.{with_numbered-const}
use Rattle.expr_eval.specs.Outcomes.{outcome_of}
use Rattle.expr_eval.proofs.SpellingLemmas.{outcome-numbered}
use Rattle.expr_eval.proofs.laws.outcome_ignores_spelling.Goals as goal

pub returns : goal.returns
returns c = λ on_path on_area r k t.
    subst (λ (u : Tree). outcome_of r k u ≡ outcome_of r k t) (with_numbered-const on_path on_area 0 t)
    (outcome-numbered (λ _. on_path) (λ _. on_area) OutOfType r 0 k t)
