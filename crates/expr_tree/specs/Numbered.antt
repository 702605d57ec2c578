-- Trees with their references changed by number.
use Rattle.std.specs.Prelude.{◌≡◌, ℕ, ◌+◌}
use Rattle.fc_base.specs.Places.{Block}
use Rattle.object_paths.specs.declared.path.Path.{Path}
use Rattle.expr_tree.specs.References.{reference_count, with_references}
use Rattle.expr_tree.specs.Tree.{Tree, literal, unit_one, flag, text, path, negate, binary, power, compare, conditional, function, modulo, aggregate, Arguments, no_more, tree, cells}

-- the tree with each path and each area changed by its number, where the first reference has the number k
abbrev mutual
  pub with_numbered : (ℕ → Path → Path) → (ℕ → Block → Block) → ℕ → Tree → Tree
  with_numbered on_path on_area k (literal x u) = literal x u
  with_numbered on_path on_area k (unit_one u) = unit_one u
  with_numbered on_path on_area k (flag b) = flag b
  with_numbered on_path on_area k (text t) = text t
  with_numbered on_path on_area k (path p) = path (on_path k p)
  with_numbered on_path on_area k (negate a) = negate (with_numbered on_path on_area k a)
  with_numbered on_path on_area k (binary op a b) =
      binary op (with_numbered on_path on_area k a) (with_numbered on_path on_area (k + reference_count a) b)
  with_numbered on_path on_area k (power a n) = power (with_numbered on_path on_area k a) n
  with_numbered on_path on_area k (compare op a b) =
      compare op (with_numbered on_path on_area k a) (with_numbered on_path on_area (k + reference_count a) b)
  with_numbered on_path on_area k (conditional c a b) =
      conditional (with_numbered on_path on_area k c) (with_numbered on_path on_area (k + reference_count c) a)
      (with_numbered on_path on_area (k + reference_count c + reference_count a) b)
  with_numbered on_path on_area k (function op a) = function op (with_numbered on_path on_area k a)
  with_numbered on_path on_area k (modulo a b) =
      modulo (with_numbered on_path on_area k a) (with_numbered on_path on_area (k + reference_count a) b)
  with_numbered on_path on_area k (aggregate op all) = aggregate op (with_numbered_arguments on_path on_area k all)

  pub with_numbered_arguments : (ℕ → Path → Path) → (ℕ → Block → Block) → ℕ → Arguments → Arguments
  with_numbered_arguments on_path on_area k no_more = no_more
  with_numbered_arguments on_path on_area k (tree t more) =
      tree (with_numbered on_path on_area k t) (with_numbered_arguments on_path on_area (k + reference_count t) more)
  with_numbered_arguments on_path on_area k (cells area more) =
      cells (on_area k area) (with_numbered_arguments on_path on_area (k + 1) more)

-- a change that does not look at the numbers is one of all references alike
abbrev pub NumbersDontMatter : Type 0
NumbersDontMatter =
    (on_path : Path → Path) (on_area : Block → Block) (k : ℕ) (t : Tree)
    → with_numbered (λ _. on_path) (λ _. on_area) k t ≡ with_references on_path on_area t
