-- In an expression with a sort it makes no difference what an operation gives on operands that it
-- does not want, case by case.
use Rattle.std.proofs.Common.{◌≡◌, ℕ, ◌+◌, ◌∷◌, ◌++◌, List, Ok, Err, refl, ap, ◌∙◌}
use Rattle.quantities.specs.Arithmetic.{power}
use Rattle.unit_signatures.specs.Products.{power_of}
use Rattle.unit_signatures.specs.Table.{unit_named}
use Rattle.property_types.specs.declared.prop_type.Sort.{Sort}
use Rattle.property_types.specs.declared.prop_type.Sort.TheVariants.{Number, Flag}
use Rattle.property_types.specs.declared.value.ValueFault.{ValueFault}
use Rattle.property_types.specs.Values.{Outcome}
use Rattle.expr_tree.specs.declared.operators.BinaryOp.TheVariants.{Modulo}
use Rattle.expr_tree.specs.References.{reference_count}
use Rattle.expr_tree.specs.Tree.{Tree, literal, unit_one, flag, text, path, negate, binary, compare, conditional, function, modulo, aggregate, Arguments, no_more, tree, cells}
use Rattle.expr_tree.specs.Tree as node
use Rattle.expr_eval.specs.Firsts.{on_one, on_two, all_of}
use Rattle.expr_eval.specs.SortRows as rows
use Rattle.expr_eval.specs.SortRows.{SortOutcome}
use Rattle.expr_eval.specs.Sorts.{SortReading, sort_of, item_sorts}
use Rattle.expr_eval.specs.Numbers.{Numeric, number_of, flag_of, negated, binary_outcome, power_outcome, function_outcome, holds, as_flag, chosen}
use Rattle.expr_eval.specs.Aggregates.{aggregate_outcome}
use Rattle.expr_eval.specs.Outcomes.{Reading, outcome_by, items_by}
use Rattle.expr_eval.specs.Kinds.{IsOfSort, Agrees}
use Rattle.expr_eval.proofs.KindRows.{HasUnit, number-unit, conditional-sorts}
use Rattle.expr_eval.proofs.KindLemmas.{outcome-kind}
use Rattle.expr_eval.proofs.SameRows.{AreNumbers, number-row, power-row, binary-row, number-same, flag-same, settled-in-unit, settled-combined, literal-same, unit-same, one-same, two-same, holds-same, split-numbers, numbers-same, many-numbers}

-- the sorts of the operands of what has a sort
one-sort : (row : Sort → SortOutcome) (sort : SortOutcome) (z : Sort) → on_one row sort ≡ Ok z → (x : Sort) × (sort ≡ Ok x)
one-sort row (Ok x) z e = (x, refl)
one-sort row (Err cause) z e = absurd (cc)

record Both (a b : SortOutcome) : Type 0 where
  left : Sort
  left_is : a ≡ Ok left
  right : Sort
  right_is : b ≡ Ok right

two-sorts : (row : Sort → Sort → SortOutcome) (a b : SortOutcome) (z : Sort) → on_two row a b ≡ Ok z → Both a b
two-sorts row (Ok x) (Ok y) z e = record { left = x; left_is = refl; right = y; right_is = refl }
two-sorts row (Ok x) (Err cause) z e = absurd (cc)
two-sorts row (Err cause) b z e = absurd (cc)

module _ (s : SortReading) (r : Reading) (agrees : Agrees s r) (w v : ValueFault) where
  -- an outcome by the first fault is of its sort
  of : (k : ℕ) (t : Tree) → IsOfSort (sort_of s k t) (outcome_by w r k t)
  of k t = outcome-kind s r agrees w k t

  unit : (k : ℕ) (t : Tree) → HasUnit (sort_of s k t) (number_of w (outcome_by w r k t))
  unit k t = number-unit w (sort_of s k t) (outcome_by w r k t) (of k t)

  mutual
    pub outcome-same : (k : ℕ) (t : Tree) (z : Sort) → sort_of s k t ≡ Ok z → outcome_by w r k t ≡ outcome_by v r k t
    outcome-same k (literal x u) z e = literal-same w v x u z e
    outcome-same k (unit_one u) z e = unit-same w v (unit_named u) z e
    outcome-same k (flag b) z e = refl
    outcome-same k (text t) z e = refl
    outcome-same k (path p) z e = refl
    outcome-same k (negate a) z e =
        let has = one-sort rows.number_sort (sort_of s k a) z e in
        one-same w v rows.number_sort negated negated number-row (λ n y f. refl) (sort_of s k a) (outcome_by w r k a) (of k a) (unit k a) z e
        ∙ ap (λ (o : Outcome). on_one negated (number_of v o)) (outcome-same k a has.0 has.1)
    outcome-same k (binary op a b) z e =
        let has = two-sorts (rows.binary_sort op) (sort_of s k a) (sort_of s (k + reference_count a) b) z e in
        let left = outcome-same k a has.left has.left_is in
        let right = outcome-same (k + reference_count a) b has.right has.right_is in
        two-same w v (rows.binary_sort op) (binary_outcome w op) (binary_outcome v op) (binary-row op) (settled-combined w v op) (sort_of s k a) (sort_of s (k + reference_count a) b)
        (outcome_by w r k a) (outcome_by w r (k + reference_count a) b) (of k a) (of (k + reference_count a) b) (unit k a) (unit (k + reference_count a) b) z e
        ∙ (λ i. on_two (binary_outcome v op) (number_of v (left i)) (number_of v (right i)))
    outcome-same k (node.power a n) z e =
        let has = one-sort (rows.power_sort n) (sort_of s k a) z e in
        one-same w v (rows.power_sort n) (power_outcome w n) (power_outcome v n) (power-row n) (λ m y f. settled-in-unit w v (power_of m.unit n) (power m.amount n) y f) (sort_of s k a) (outcome_by w r k a) (of k a) (unit k a) z e
        ∙ ap (λ (o : Outcome). on_one (power_outcome v n) (number_of v o)) (outcome-same k a has.0 has.1)
    outcome-same k (compare op a b) z e =
        let has = two-sorts (rows.compare_sort op) (sort_of s k a) (sort_of s (k + reference_count a) b) z e in
        let left = outcome-same k a has.left has.left_is in
        let right = outcome-same (k + reference_count a) b has.right has.right_is in
        let same = holds-same w v op (sort_of s k a) (sort_of s (k + reference_count a) b) (outcome_by w r k a) (outcome_by w r (k + reference_count a) b) (of k a) (of (k + reference_count a) b) z e in
        ap as_flag (same ∙ (λ i. holds v op (left i) (right i)))
    outcome-same k (conditional c a b) z e =
        let has = conditional-sorts (sort_of s k c) (sort_of s (k + reference_count c) a) (sort_of s (k + reference_count c + reference_count a) b) z e in
        let condition = flag-same w v (sort_of s k c) (outcome_by w r k c) has.condition (of k c) ∙ ap (flag_of v) (outcome-same k c Flag has.condition) in
        let left = outcome-same (k + reference_count c) a z has.left in
        let right = outcome-same (k + reference_count c + reference_count a) b z has.right in
        λ i. chosen (condition i) (left i) (right i)
    outcome-same k (function op a) z e =
        let has = one-sort rows.number_sort (sort_of s k a) z e in
        one-same w v rows.number_sort (function_outcome op) (function_outcome op) number-row (λ n y f. refl) (sort_of s k a) (outcome_by w r k a) (of k a) (unit k a) z e
        ∙ ap (λ (o : Outcome). on_one (function_outcome op) (number_of v o)) (outcome-same k a has.0 has.1)
    outcome-same k (modulo a b) z e =
        let has = two-sorts (rows.binary_sort Modulo) (sort_of s k a) (sort_of s (k + reference_count a) b) z e in
        let left = outcome-same k a has.left has.left_is in
        let right = outcome-same (k + reference_count a) b has.right has.right_is in
        two-same w v (rows.binary_sort Modulo) (binary_outcome w Modulo) (binary_outcome v Modulo) (binary-row Modulo) (settled-combined w v Modulo) (sort_of s k a) (sort_of s (k + reference_count a) b)
        (outcome_by w r k a) (outcome_by w r (k + reference_count a) b) (of k a) (of (k + reference_count a) b) (unit k a) (unit (k + reference_count a) b) z e
        ∙ (λ i. on_two (binary_outcome v Modulo) (number_of v (left i)) (number_of v (right i)))
    outcome-same k (aggregate op all) z e =
        let is = many-numbers op (item_sorts s k all) (all_of (item_sorts s k all)) z refl e in
        ap (λ (ns : List Numeric). on_one (aggregate_outcome op) (all_of ns)) (items-same k all is)

    pub items-same : (k : ℕ) (all : Arguments) → AreNumbers (item_sorts s k all) → items_by w r k all ≡ items_by v r k all
    items-same k no_more is = refl
    items-same k (tree t more) is =
        let first = number-same w v (sort_of s k t) (outcome_by w r k t) is.0 (of k t) ∙ ap (number_of v) (outcome-same k t (Number is.0.0) is.0.1) in
        let others = items-same (k + reference_count t) more is.1 in
        λ i. first i ∷ others i
    items-same k (cells area more) is =
        let both = split-numbers (s.inside k) (item_sorts s (k + 1) more) is in
        let first = numbers-same w v (s.inside k) (r.inside k) both.0 (agrees.inside k) in
        let others = items-same (k + 1) more both.1 in
        λ i. first i ++ others i
