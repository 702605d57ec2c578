-- The sort of an expression.
use Rattle.std.specs.Prelude.{◌≡◌, ℕ, ◌+◌, List, [], ◌∷◌, ◌++◌, Result, Ok, Err}
use Rattle.property_types.specs.declared.prop_type.Sort.{Sort}
use Rattle.property_types.specs.declared.prop_type.Sort.TheVariants as sort
use Rattle.expr_tree.specs.References.{reference_count}
use Rattle.expr_tree.specs.Tree.{Tree, literal, unit_one, flag, text, path, negate, binary, power, compare, conditional, function, modulo, aggregate, Arguments, no_more, tree, cells}
use Rattle.expr_tree.specs.declared.operators.BinaryOp.TheVariants.{Modulo}
use Rattle.expr_eval.specs.declared.sort_cause.SortFault.{SortFault}
use Rattle.expr_eval.specs.declared.sort_cause.SortFault.TheVariants.{Cause, Memory}
use Rattle.expr_eval.specs.Firsts.{on_one, on_two, on_three, all_of}
use Rattle.expr_eval.specs.SortRows.{SortOutcome, literal_sort, unit_sort, number_sort, binary_sort, power_sort, compare_sort, conditional_sort, aggregate_sort}
use Rattle.unit_signatures.specs.Table.{unit_named}

-- The sorts behind references: of the path that is the k-th reference, and of the filled cells of
-- the area that is the k-th reference, row by row.
pub record SortReading : Type 0 where
  pub at : ℕ → SortOutcome
  pub inside : ℕ → List SortOutcome

-- the sort of a tree whose first reference is the k-th: the first cause from the left, of all
-- operands before the node's own; and the sorts of the items of arguments
abbrev mutual
  pub sort_of : SortReading → ℕ → Tree → SortOutcome
  sort_of r k (literal x u) = literal_sort u
  sort_of r k (unit_one u) = unit_sort (unit_named u)
  sort_of r k (flag b) = Ok sort.Flag
  sort_of r k (text t) = Ok sort.Text
  sort_of r k (path p) = r.at k
  sort_of r k (negate a) = on_one number_sort (sort_of r k a)
  sort_of r k (binary op a b) = on_two (binary_sort op) (sort_of r k a) (sort_of r (k + reference_count a) b)
  sort_of r k (power a n) = on_one (power_sort n) (sort_of r k a)
  sort_of r k (compare op a b) = on_two (compare_sort op) (sort_of r k a) (sort_of r (k + reference_count a) b)
  sort_of r k (conditional c a b) =
      on_three conditional_sort (sort_of r k c) (sort_of r (k + reference_count c) a)
      (sort_of r (k + reference_count c + reference_count a) b)
  sort_of r k (function op a) = on_one number_sort (sort_of r k a)
  sort_of r k (modulo a b) = on_two (binary_sort Modulo) (sort_of r k a) (sort_of r (k + reference_count a) b)
  sort_of r k (aggregate op all) = on_one (aggregate_sort op) (all_of (item_sorts r k all))

  pub item_sorts : SortReading → ℕ → Arguments → List SortOutcome
  item_sorts r k no_more = []
  item_sorts r k (tree t more) = sort_of r k t ∷ item_sorts r (k + reference_count t) more
  item_sorts r k (cells area more) = r.inside k ++ item_sorts r (k + 1) more

-- a sort as a call tells it; want of memory says nothing of the expression
abbrev pub HasSort : SortOutcome → Result Sort SortFault → Type 0
HasSort found (Ok sort) = found ≡ Ok sort
HasSort found (Err (Cause cause)) = found ≡ Err cause
HasSort found (Err (Memory e)) = Unit {0}
