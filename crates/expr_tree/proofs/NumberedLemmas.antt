-- Numbers that a change does not look at make no difference, case by case.
use Rattle.std.proofs.Common.{◌≡◌, ℕ, ◌+◌, refl}
use Rattle.fc_base.specs.Places.{Block}
use Rattle.object_paths.specs.declared.path.Path.{Path}
use Rattle.expr_tree.specs.References.{reference_count, with_references, with_argument_references}
use Rattle.expr_tree.specs.Numbered.{with_numbered, with_numbered_arguments}
use Rattle.expr_tree.specs.Tree.{Tree, literal, unit_one, flag, text, path, negate, binary, power, compare, conditional, function, modulo, aggregate, Arguments, no_more, tree, cells}

module _ (on_path : Path → Path) (on_area : Block → Block) where
  mutual
    pub with_numbered-const : (k : ℕ) (t : Tree) → with_numbered (λ _. on_path) (λ _. on_area) k t ≡ with_references on_path on_area t
    with_numbered-const k (literal x u) = refl
    with_numbered-const k (unit_one u) = refl
    with_numbered-const k (flag b) = refl
    with_numbered-const k (text t) = refl
    with_numbered-const k (path p) = refl
    with_numbered-const k (negate a) = λ i. negate (with_numbered-const k a i)
    with_numbered-const k (binary op a b) = λ i. binary op (with_numbered-const k a i) (with_numbered-const (k + reference_count a) b i)
    with_numbered-const k (power a n) = λ i. power (with_numbered-const k a i) n
    with_numbered-const k (compare op a b) = λ i. compare op (with_numbered-const k a i) (with_numbered-const (k + reference_count a) b i)
    with_numbered-const k (conditional c a b) =
        λ i. conditional (with_numbered-const k c i) (with_numbered-const (k + reference_count c) a i) (with_numbered-const (k + reference_count c + reference_count a) b i)
    with_numbered-const k (function op a) = λ i. function op (with_numbered-const k a i)
    with_numbered-const k (modulo a b) = λ i. modulo (with_numbered-const k a i) (with_numbered-const (k + reference_count a) b i)
    with_numbered-const k (aggregate op all) = λ i. aggregate op (with_numbered_arguments-const k all i)

    pub with_numbered_arguments-const : (k : ℕ) (all : Arguments) → with_numbered_arguments (λ _. on_path) (λ _. on_area) k all ≡ with_argument_references on_path on_area all
    with_numbered_arguments-const k no_more = refl
    with_numbered_arguments-const k (tree t more) = λ i. tree (with_numbered-const k t i) (with_numbered_arguments-const (k + reference_count t) more i)
    with_numbered_arguments-const k (cells area more) = λ i. cells (on_area area) (with_numbered_arguments-const (k + 1) more i)
