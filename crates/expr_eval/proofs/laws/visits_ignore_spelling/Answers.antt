use Rattle.std.proofs.Common.{◌≡◌, subst}
use Rattle.expr_tree.specs.Tree.{Tree}
use Rattle.expr_tree.proofs.NumberedLemmas.{with_numbered-const}
use Rattle.expr_eval.specs.Visited.{visited}
use Rattle.expr_eval.proofs.SpellingLemmas.{visited-numbered}
use Rattle.expr_eval.proofs.laws.visits_ignore_spelling.Goals as goal

pub returns : goal.returns
returns c = λ on_path on_area r k t.
    subst (λ (u : Tree). visited r k u ≡ visited r k t) (with_numbered-const on_path on_area 0 t)
    (visited-numbered (λ _. on_path) (λ _. on_area) r 0 k t)
