-- The shape of an expression has its sort.
use Rattle.std.proofs.Common.{◌≡◌, ℕ, subst}
use Rattle.expr_tree.specs.Tree.{Tree}
use Rattle.expr_tree.proofs.NumberedLemmas.{with_numbered-const}
use Rattle.expr_eval.specs.Sorts.{SortReading, sort_of}
use Rattle.expr_eval.proofs.SpellingLemmas.{sort-numbered}
use Rattle.doc_tables.specs.Accessors.{IsShapeOf}
use Rattle.doc_tables.proofs.ShapeLemmas.{shape-same}

pub sort-of_shape : (r : SortReading) (k : ℕ) (written shape : Tree) → IsShapeOf written shape → sort_of r k shape ≡ sort_of r k written
sort-of_shape r k =
    shape-same (sort_of r k)
    (λ on_path on_area t. subst (λ (u : Tree). sort_of r k u ≡ sort_of r k t) (with_numbered-const on_path on_area 0 t) (sort-numbered (λ _. on_path) (λ _. on_area) r 0 k t))
