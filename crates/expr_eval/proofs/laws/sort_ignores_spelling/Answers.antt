use Rattle.std.proofs.Common.{◌≡◌, subst}
use Rattle.expr_tree.specs.Tree.{Tree}
use Rattle.expr_tree.proofs.NumberedLemmas.{with_numbered-const}
use Rattle.expr_eval.specs.Sorts.{sort_of}
use Rattle.expr_eval.proofs.SpellingLemmas.{sort-numbered}
use Rattle.expr_eval.proofs.laws.sort_ignores_spelling.Goals as goal

pub returns : goal.returns
returns c = λ on_path on_area r k t.
    subst (λ (u : Tree). sort_of r k u ≡ sort_of r k t) (with_numbered-const on_path on_area 0 t)
    (sort-numbered (λ _. on_path) (λ _. on_area) r 0 k t)
