-- An expression with a sort has a value of its sort, or a fault, case by case.
use Rattle.std.proofs.Common.{ℕ, ◌+◌, neg_ℤ, map}
use Rattle.quantities.specs.Arithmetic.{bounded, power}
use Rattle.unit_signatures.specs.Products.{power_of}
use Rattle.unit_signatures.specs.Table.{unit_named}
use Rattle.property_types.specs.declared.value.ValueFault.{ValueFault}
use Rattle.expr_tree.specs.declared.operators.BinaryOp.TheVariants.{Modulo}
use Rattle.expr_tree.specs.References.{reference_count}
use Rattle.expr_tree.specs.Tree.{Tree, literal, unit_one, flag, text, path, negate, binary, compare, conditional, function, modulo, aggregate, Arguments, no_more, tree, cells}
use Rattle.expr_tree.specs.Tree as node
use Rattle.expr_eval.specs.Firsts.{all_of}
use Rattle.expr_eval.specs.SortRows as rows
use Rattle.expr_eval.specs.Sorts.{SortReading, sort_of, item_sorts}
use Rattle.expr_eval.specs.Numbers.{number_of, flag_of, negated, binary_outcome, power_outcome, function_on, function_outcome, holds}
use Rattle.expr_eval.specs.Outcomes.{Reading, outcome_by, items_by}
use Rattle.expr_eval.specs.Kinds.{IsOfSort, Agrees}
use Rattle.expr_eval.proofs.KindRows.{number-unit, calculated-kind, settled-kind, literal-kind, unit-kind, one-kind, two-kind, binary-kind, compare-kind, chosen-kind}
use Rattle.expr_eval.proofs.KindAggregates.{HaveUnits, numbers-units, joined-units, sorts-of-numbers, many-kind}

module _ (s : SortReading) (r : Reading) (agrees : Agrees s r) (w : ValueFault) where
  mutual
    pub outcome-kind : (k : ℕ) (t : Tree) → IsOfSort (sort_of s k t) (outcome_by w r k t)
    outcome-kind k (literal x u) = literal-kind w x u
    outcome-kind k (unit_one u) = unit-kind w (unit_named u)
    outcome-kind k (flag b) = λ z e. cc
    outcome-kind k (text t) = λ z e. cc
    outcome-kind k (path p) = agrees.at k
    outcome-kind k (negate a) =
        one-kind rows.number_sort negated (λ n. calculated-kind n.unit (bounded (neg_ℤ n.amount))) (sort_of s k a)
        (number_of w (outcome_by w r k a)) (number-unit w (sort_of s k a) (outcome_by w r k a) (outcome-kind k a))
    outcome-kind k (binary op a b) =
        two-kind (rows.binary_sort op) (binary_outcome w op) (binary-kind w op) (sort_of s k a) (sort_of s (k + reference_count a) b)
        (number_of w (outcome_by w r k a)) (number_of w (outcome_by w r (k + reference_count a) b)) (number-unit w (sort_of s k a) (outcome_by w r k a) (outcome-kind k a)) (number-unit w (sort_of s (k + reference_count a) b) (outcome_by w r (k + reference_count a) b) (outcome-kind (k + reference_count a) b))
    outcome-kind k (node.power a n) =
        one-kind (rows.power_sort n) (power_outcome w n) (λ m. settled-kind w (power_of m.unit n) (power m.amount n)) (sort_of s k a)
        (number_of w (outcome_by w r k a)) (number-unit w (sort_of s k a) (outcome_by w r k a) (outcome-kind k a))
    outcome-kind k (compare op a b) =
        compare-kind op (sort_of s k a) (sort_of s (k + reference_count a) b) (holds w op (outcome_by w r k a) (outcome_by w r (k + reference_count a) b))
    outcome-kind k (conditional c a b) =
        chosen-kind (sort_of s k c) (sort_of s (k + reference_count c) a) (sort_of s (k + reference_count c + reference_count a) b)
        (flag_of w (outcome_by w r k c)) (outcome_by w r (k + reference_count c) a) (outcome_by w r (k + reference_count c + reference_count a) b)
        (outcome-kind (k + reference_count c) a) (outcome-kind (k + reference_count c + reference_count a) b)
    outcome-kind k (function op a) =
        one-kind rows.number_sort (function_outcome op) (λ n. calculated-kind n.unit (function_on op n.amount)) (sort_of s k a)
        (number_of w (outcome_by w r k a)) (number-unit w (sort_of s k a) (outcome_by w r k a) (outcome-kind k a))
    outcome-kind k (modulo a b) =
        two-kind (rows.binary_sort Modulo) (binary_outcome w Modulo) (binary-kind w Modulo) (sort_of s k a) (sort_of s (k + reference_count a) b)
        (number_of w (outcome_by w r k a)) (number_of w (outcome_by w r (k + reference_count a) b)) (number-unit w (sort_of s k a) (outcome_by w r k a) (outcome-kind k a)) (number-unit w (sort_of s (k + reference_count a) b) (outcome_by w r (k + reference_count a) b) (outcome-kind (k + reference_count a) b))
    outcome-kind k (aggregate op all) =
        many-kind op (all_of (item_sorts s k all)) (all_of (items_by w r k all))
        (λ ss ns e f. sorts-of-numbers (item_sorts s k all) (items_by w r k all) (items-units k all) ss ns e f)

    pub items-units : (k : ℕ) (all : Arguments) → HaveUnits (item_sorts s k all) (items_by w r k all)
    items-units k no_more = tt
    items-units k (tree t more) = (number-unit w (sort_of s k t) (outcome_by w r k t) (outcome-kind k t), items-units (k + reference_count t) more)
    items-units k (cells area more) =
        joined-units (s.inside k) (item_sorts s (k + 1) more) (map (number_of w) (r.inside k)) (items_by w r (k + 1) more)
        (numbers-units w (s.inside k) (r.inside k) (agrees.inside k)) (items-units (k + 1) more)
