-- The outcome of an expression.
use Rattle.std.specs.Prelude.{ℕ, ◌+◌, List, [], ◌∷◌, ◌++◌, map, Ok}
use Rattle.unit_signatures.specs.Table.{unit_named}
use Rattle.property_types.specs.declared.value.ValueFault.{ValueFault}
use Rattle.property_types.specs.declared.value.ValueFault.TheVariants.{OutOfType}
use Rattle.property_types.specs.declared.value.Value.TheVariants as value
use Rattle.property_types.specs.Values.{Outcome}
use Rattle.expr_tree.specs.References.{reference_count}
use Rattle.expr_tree.specs.Tree.{Tree, literal, unit_one, flag, text, path, negate, binary, power, compare, conditional, function, modulo, aggregate, Arguments, no_more, tree, cells}
use Rattle.expr_tree.specs.declared.operators.BinaryOp.TheVariants.{Modulo}
use Rattle.expr_eval.specs.Firsts.{on_one, on_two, all_of}
use Rattle.expr_eval.specs.Numbers.{Numeric, number_of, flag_of, literal_outcome, unit_outcome, negated, binary_outcome, power_outcome, function_outcome, compared, chosen}
use Rattle.expr_eval.specs.Aggregates.{aggregate_outcome}

-- The outcomes behind references: of the path that is the k-th reference, and of the filled cells
-- of the area that is the k-th reference, row by row.
pub record Reading : Type 0 where
  pub at : ℕ → Outcome
  pub inside : ℕ → List Outcome

-- the outcome of a tree whose first reference is the k-th, with `wrong` for an operation on
-- operands that it does not want; and the items of arguments, as numbers
abbrev mutual
  pub outcome_by : ValueFault → Reading → ℕ → Tree → Outcome
  outcome_by wrong r k (literal x u) = literal_outcome wrong x u
  outcome_by wrong r k (unit_one u) = unit_outcome wrong (unit_named u)
  outcome_by wrong r k (flag b) = Ok (value.Flag b)
  outcome_by wrong r k (text t) = Ok (value.Text t)
  outcome_by wrong r k (path p) = r.at k
  outcome_by wrong r k (negate a) = on_one negated (number_of wrong (outcome_by wrong r k a))
  outcome_by wrong r k (binary op a b) =
      on_two (binary_outcome wrong op) (number_of wrong (outcome_by wrong r k a))
      (number_of wrong (outcome_by wrong r (k + reference_count a) b))
  outcome_by wrong r k (power a n) = on_one (power_outcome wrong n) (number_of wrong (outcome_by wrong r k a))
  outcome_by wrong r k (compare op a b) =
      compared wrong op (outcome_by wrong r k a) (outcome_by wrong r (k + reference_count a) b)
  outcome_by wrong r k (conditional c a b) =
      chosen (flag_of wrong (outcome_by wrong r k c)) (outcome_by wrong r (k + reference_count c) a)
      (outcome_by wrong r (k + reference_count c + reference_count a) b)
  outcome_by wrong r k (function op a) = on_one (function_outcome op) (number_of wrong (outcome_by wrong r k a))
  outcome_by wrong r k (modulo a b) =
      on_two (binary_outcome wrong Modulo) (number_of wrong (outcome_by wrong r k a))
      (number_of wrong (outcome_by wrong r (k + reference_count a) b))
  outcome_by wrong r k (aggregate op all) = on_one (aggregate_outcome op) (all_of (items_by wrong r k all))

  pub items_by : ValueFault → Reading → ℕ → Arguments → List Numeric
  items_by wrong r k no_more = []
  items_by wrong r k (tree t more) =
      number_of wrong (outcome_by wrong r k t) ∷ items_by wrong r (k + reference_count t) more
  items_by wrong r k (cells area more) = map (number_of wrong) (r.inside k) ++ items_by wrong r (k + 1) more

-- the outcome of a tree whose first reference is the k-th
abbrev pub outcome_of : Reading → ℕ → Tree → Outcome
outcome_of r k t = outcome_by OutOfType r k t
