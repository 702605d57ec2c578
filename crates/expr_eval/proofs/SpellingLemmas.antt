-- Trees with other references, case by case: as many references, the same sort and the same outcome,
-- and as many nodes visited.
use Rattle.std.proofs.Common.{◌≡◌, ℕ, ◌+◌, refl}
use Rattle.fc_base.specs.Places.{Block}
use Rattle.object_paths.specs.declared.path.Path.{Path}
use Rattle.property_types.specs.declared.value.ValueFault.{ValueFault}
use Rattle.property_types.specs.declared.value.ValueFault.TheVariants.{OutOfType}
use Rattle.expr_tree.specs.Tree.{Tree, literal, unit_one, flag, text, path, negate, binary, power, compare, conditional, function, modulo, aggregate, Arguments, no_more, tree, cells}
use Rattle.expr_tree.specs.References.{reference_count, argument_reference_count}
use Rattle.expr_tree.specs.Numbered.{with_numbered, with_numbered_arguments}
use Rattle.expr_eval.specs.Sorts.{SortReading, sort_of, item_sorts}
use Rattle.expr_eval.specs.Outcomes.{Reading, outcome_by, items_by}
use Rattle.expr_eval.specs.Visited.{visited, visited_arguments}

module _ (on_path : ℕ → Path → Path) (on_area : ℕ → Block → Block) where
  mutual
    pub count-numbered : (n : ℕ) (t : Tree) → reference_count (with_numbered on_path on_area n t) ≡ reference_count t
    count-numbered n (literal x u) = refl
    count-numbered n (unit_one u) = refl
    count-numbered n (flag b) = refl
    count-numbered n (text t) = refl
    count-numbered n (path p) = refl
    count-numbered n (negate a) = count-numbered n a
    count-numbered n (binary op a b) = rw (count-numbered n a, count-numbered (n + reference_count a) b)
    count-numbered n (power a m) = count-numbered n a
    count-numbered n (compare op a b) = rw (count-numbered n a, count-numbered (n + reference_count a) b)
    count-numbered n (conditional c a b) =
        rw (count-numbered n c, count-numbered (n + reference_count c) a, count-numbered (n + reference_count c + reference_count a) b)
    count-numbered n (function op a) = count-numbered n a
    count-numbered n (modulo a b) = rw (count-numbered n a, count-numbered (n + reference_count a) b)
    count-numbered n (aggregate op all) = count-numbered_arguments n all

    pub count-numbered_arguments : (n : ℕ) (all : Arguments) → argument_reference_count (with_numbered_arguments on_path on_area n all) ≡ argument_reference_count all
    count-numbered_arguments n no_more = refl
    count-numbered_arguments n (tree t more) = rw (count-numbered n t, count-numbered_arguments (n + reference_count t) more)
    count-numbered_arguments n (cells area more) = rw (count-numbered_arguments (n + 1) more)

  module _ (r : SortReading) where
    mutual
      pub sort-numbered : (n k : ℕ) (t : Tree) → sort_of r k (with_numbered on_path on_area n t) ≡ sort_of r k t
      sort-numbered n k (literal x u) = refl
      sort-numbered n k (unit_one u) = refl
      sort-numbered n k (flag b) = refl
      sort-numbered n k (text t) = refl
      sort-numbered n k (path p) = refl
      sort-numbered n k (negate a) = rw (sort-numbered n k a)
      sort-numbered n k (binary op a b) = rw (count-numbered n a, sort-numbered n k a, sort-numbered (n + reference_count a) (k + reference_count a) b)
      sort-numbered n k (power a m) = rw (sort-numbered n k a)
      sort-numbered n k (compare op a b) = rw (count-numbered n a, sort-numbered n k a, sort-numbered (n + reference_count a) (k + reference_count a) b)
      sort-numbered n k (conditional c a b) =
          rw (count-numbered n c, count-numbered (n + reference_count c) a, sort-numbered n k c, sort-numbered (n + reference_count c) (k + reference_count c) a, sort-numbered (n + reference_count c + reference_count a) (k + reference_count c + reference_count a) b)
      sort-numbered n k (function op a) = rw (sort-numbered n k a)
      sort-numbered n k (modulo a b) = rw (count-numbered n a, sort-numbered n k a, sort-numbered (n + reference_count a) (k + reference_count a) b)
      sort-numbered n k (aggregate op all) = rw (items-numbered n k all)

      pub items-numbered : (n k : ℕ) (all : Arguments) → item_sorts r k (with_numbered_arguments on_path on_area n all) ≡ item_sorts r k all
      items-numbered n k no_more = refl
      items-numbered n k (tree t more) = rw (count-numbered n t, sort-numbered n k t, items-numbered (n + reference_count t) (k + reference_count t) more)
      items-numbered n k (cells area more) = rw (items-numbered (n + 1) (k + 1) more)

  module _ (wrong : ValueFault) (r : Reading) where
    mutual
      pub outcome-numbered : (n k : ℕ) (t : Tree) → outcome_by wrong r k (with_numbered on_path on_area n t) ≡ outcome_by wrong r k t
      outcome-numbered n k (literal x u) = refl
      outcome-numbered n k (unit_one u) = refl
      outcome-numbered n k (flag b) = refl
      outcome-numbered n k (text t) = refl
      outcome-numbered n k (path p) = refl
      outcome-numbered n k (negate a) = rw (outcome-numbered n k a)
      outcome-numbered n k (binary op a b) = rw (count-numbered n a, outcome-numbered n k a, outcome-numbered (n + reference_count a) (k + reference_count a) b)
      outcome-numbered n k (power a m) = rw (outcome-numbered n k a)
      outcome-numbered n k (compare op a b) = rw (count-numbered n a, outcome-numbered n k a, outcome-numbered (n + reference_count a) (k + reference_count a) b)
      outcome-numbered n k (conditional c a b) =
          rw (count-numbered n c, count-numbered (n + reference_count c) a, outcome-numbered n k c, outcome-numbered (n + reference_count c) (k + reference_count c) a, outcome-numbered (n + reference_count c + reference_count a) (k + reference_count c + reference_count a) b)
      outcome-numbered n k (function op a) = rw (outcome-numbered n k a)
      outcome-numbered n k (modulo a b) = rw (count-numbered n a, outcome-numbered n k a, outcome-numbered (n + reference_count a) (k + reference_count a) b)
      outcome-numbered n k (aggregate op all) = rw (numbers-numbered n k all)

      pub numbers-numbered : (n k : ℕ) (all : Arguments) → items_by wrong r k (with_numbered_arguments on_path on_area n all) ≡ items_by wrong r k all
      numbers-numbered n k no_more = refl
      numbers-numbered n k (tree t more) = rw (count-numbered n t, outcome-numbered n k t, numbers-numbered (n + reference_count t) (k + reference_count t) more)
      numbers-numbered n k (cells area more) = rw (numbers-numbered (n + 1) (k + 1) more)

  module _ (r : Reading) where
    mutual
      pub visited-numbered : (n k : ℕ) (t : Tree) → visited r k (with_numbered on_path on_area n t) ≡ visited r k t
      visited-numbered n k (literal x u) = refl
      visited-numbered n k (unit_one u) = refl
      visited-numbered n k (flag b) = refl
      visited-numbered n k (text t) = refl
      visited-numbered n k (path p) = refl
      visited-numbered n k (negate a) = rw (visited-numbered n k a)
      visited-numbered n k (binary op a b) = rw (count-numbered n a, visited-numbered n k a, visited-numbered (n + reference_count a) (k + reference_count a) b)
      visited-numbered n k (power a m) = rw (visited-numbered n k a)
      visited-numbered n k (compare op a b) = rw (count-numbered n a, visited-numbered n k a, visited-numbered (n + reference_count a) (k + reference_count a) b)
      visited-numbered n k (conditional c a b) =
          rw (count-numbered n c, count-numbered (n + reference_count c) a, outcome-numbered OutOfType r n k c, visited-numbered n k c, visited-numbered (n + reference_count c) (k + reference_count c) a, visited-numbered (n + reference_count c + reference_count a) (k + reference_count c + reference_count a) b)
      visited-numbered n k (function op a) = rw (visited-numbered n k a)
      visited-numbered n k (modulo a b) = rw (count-numbered n a, visited-numbered n k a, visited-numbered (n + reference_count a) (k + reference_count a) b)
      visited-numbered n k (aggregate op all) = rw (visited-numbered_arguments n k all)

      pub visited-numbered_arguments : (n k : ℕ) (all : Arguments) → visited_arguments r k (with_numbered_arguments on_path on_area n all) ≡ visited_arguments r k all
      visited-numbered_arguments n k no_more = refl
      visited-numbered_arguments n k (tree t more) = rw (count-numbered n t, visited-numbered n k t, visited-numbered_arguments (n + reference_count t) (k + reference_count t) more)
      visited-numbered_arguments n k (cells area more) = rw (visited-numbered_arguments (n + 1) (k + 1) more)
