-- What a spelled expression gives for values is a value, case by case; so is what is fitted.
use Rattle.std.proofs.Common.{◌≡◌, ℕ, ◌+◌, Bool, true, false, cond, ◌&&◌, not, List, map, Ok, Err, refl}
use Rattle.std.proofs.lemmas.Bool.{and_parts}
use Rattle.std.proofs.lemmas.Result.{IfOk-at_ok}
use Rattle.fc_base.specs.Texts.{is_text_value, has_closing_mark, ends_in_mark}
use Rattle.unit_signatures.specs.Units.{IsUnit}
use Rattle.quantities.specs.declared.quantity.Quantity.{Quantity}
use Rattle.property_types.specs.declared.prop_type.PropType.{PropType}
use Rattle.property_types.specs.declared.prop_type.PropType.TheVariants.{Bool as Boolean, String}
use Rattle.property_types.specs.declared.prop_type.Sort.{Sort}
use Rattle.property_types.specs.declared.prop_type.Sort.TheVariants as s
use Rattle.property_types.specs.declared.value.Value.{Value}
use Rattle.property_types.specs.declared.value.Value.TheVariants.{Number, Flag, Text}
use Rattle.property_types.specs.declared.value.ValueFault.{ValueFault}
use Rattle.property_types.specs.declared.value.ValueFault.TheVariants.{NotWhole, OutOfType}
use Rattle.property_types.specs.Values.{Outcome, IsValue}
use Rattle.property_types.specs.Types.{sort_of_type, is_whole_type}
use Rattle.property_types.specs.Fits.{is_whole, is_in_range, fit, fit_number}
use Rattle.expr_tree.specs.declared.operators.BinaryOp.TheVariants.{Modulo}
use Rattle.expr_tree.specs.declared.functions.AggregateOp.{AggregateOp}
use Rattle.expr_tree.specs.References.{reference_count}
use Rattle.expr_tree.specs.Spelled.{is_quotable, IsSpelled, AreSpelled}
use Rattle.expr_tree.specs.Tree.{Tree, literal, unit_one, flag, text, path, negate, binary, power, compare, conditional, function, modulo, aggregate, Arguments, no_more, tree, cells}
use Rattle.expr_eval.specs.Firsts.{all_of}
use Rattle.expr_eval.specs.Numbers.{number_of, flag_of, negated, binary_outcome, power_outcome, function_outcome, holds}
use Rattle.expr_eval.specs.Outcomes.{Reading, outcome_by, items_by}
use Rattle.expr_eval.specs.ValuesGiven.{GivesValues}
use Rattle.expr_eval.proofs.ValueRows.{IsQuantity, IsValueOrFault, number-quantity, literal-value, unit-value, negated-value, power-value, function-value, binary-value, one-value, two-value, flag-value, chosen-value}
use Rattle.expr_eval.proofs.ValueAggregates.{AreNumbersOrFaults, cells-quantities, joined-quantities, gathered-quantities, many-value}

given-value : (o : Outcome) → ((v : Value) → o ≡ Ok v → IsValue v) → IsValueOrFault o
given-value (Ok v) h = h v refl
given-value (Err fault) h = tt

quotable-text : (t : List ℕ) → is_quotable t ≡ true → is_text_value t ≡ true
quotable-text t h =
    let parts = and_parts (is_text_value t && not (has_closing_mark t)) (not (ends_in_mark t)) h in
    (and_parts (is_text_value t) (not (has_closing_mark t)) parts.0).0

spelled-arguments : (op : AggregateOp) (all : Arguments) → IsSpelled (aggregate op all) → AreSpelled all
spelled-arguments op no_more h = absurd h
spelled-arguments op (tree t more) h = h
spelled-arguments op (cells area more) h = h

module _ (r : Reading) (gives : GivesValues r) (w : ValueFault) where
  mutual
    outcome-value : (k : ℕ) (t : Tree) → IsSpelled t → IsValueOrFault (outcome_by w r k t)
    outcome-value k (literal x u) h = literal-value w x u h.0
    outcome-value k (unit_one u) h = unit-value w u
    outcome-value k (flag b) h = tt
    outcome-value k (text t) h = quotable-text t h
    outcome-value k (path p) h = given-value (r.at k) (gives.at k)
    outcome-value k (negate a) h =
        one-value negated negated-value (number_of w (outcome_by w r k a)) (number-quantity w (outcome_by w r k a) (outcome-value k a h))
    outcome-value k (binary op a b) h =
        two-value (binary_outcome w op) (binary-value w op) (number_of w (outcome_by w r k a)) (number_of w (outcome_by w r (k + reference_count a) b))
        (number-quantity w (outcome_by w r k a) (outcome-value k a h.0))
        (number-quantity w (outcome_by w r (k + reference_count a) b) (outcome-value (k + reference_count a) b h.1))
    outcome-value k (power a n) h =
        one-value (power_outcome w n) (power-value w n) (number_of w (outcome_by w r k a)) (number-quantity w (outcome_by w r k a) (outcome-value k a h.0))
    outcome-value k (compare op a b) h = flag-value (holds w op (outcome_by w r k a) (outcome_by w r (k + reference_count a) b))
    outcome-value k (conditional c a b) h =
        chosen-value (flag_of w (outcome_by w r k c)) (outcome_by w r (k + reference_count c) a) (outcome_by w r (k + reference_count c + reference_count a) b)
        (outcome-value (k + reference_count c) a h.1) (outcome-value (k + reference_count c + reference_count a) b h.2)
    outcome-value k (function op a) h =
        one-value (function_outcome op) (function-value op) (number_of w (outcome_by w r k a)) (number-quantity w (outcome_by w r k a) (outcome-value k a h))
    outcome-value k (modulo a b) h =
        two-value (binary_outcome w Modulo) (binary-value w Modulo) (number_of w (outcome_by w r k a)) (number_of w (outcome_by w r (k + reference_count a) b))
        (number-quantity w (outcome_by w r k a) (outcome-value k a h.0))
        (number-quantity w (outcome_by w r (k + reference_count a) b) (outcome-value (k + reference_count a) b h.1))
    outcome-value k (aggregate op all) h =
        many-value op (all_of (items_by w r k all)) (gathered-quantities (items_by w r k all) (items-quantities k all (spelled-arguments op all h)))

    items-quantities : (k : ℕ) (all : Arguments) → AreSpelled all → AreNumbersOrFaults (items_by w r k all)
    items-quantities k no_more h = tt
    items-quantities k (tree t more) h =
        (number-quantity w (outcome_by w r k t) (outcome-value k t h.0), items-quantities (k + reference_count t) more h.1)
    items-quantities k (cells area more) h =
        joined-quantities (map (number_of w) (r.inside k)) (items_by w r (k + 1) more) (cells-quantities w (r.inside k) (gives.inside k)) (items-quantities (k + 1) more h.1)

  pub spelled_value : (k : ℕ) (t : Tree) (v : Value) → IsSpelled t → outcome_by w r k t ≡ Ok v → IsValue v
  spelled_value k t v h e = IfOk-at_ok IsValue e (outcome-value k t h)

-- the unit of a sort is a unit
abbrev HasUnit : Sort → Type 0
HasUnit (s.Number u) = IsUnit u
HasUnit s.Flag = Unit {0}
HasUnit s.Text = Unit {0}

type-unit : (t : PropType) → HasUnit (sort_of_type t)
type-unit Boolean = tt
type-unit String = tt
type-unit _ = record { eight = refl; each = refl }

-- a number that passes its tests
tested-value : (fraction within : Bool) (n : Quantity) → IsQuantity n → IsValueOrFault (cond fraction (Err NotWhole) (cond within (Ok (Number n)) (Err OutOfType)))
tested-value true within n h = tt
tested-value false true n h = h
tested-value false false n h = tt

fit_number-value : (t : PropType) (sort : Sort) (n : Quantity) → HasUnit sort → IsQuantity n → IsValueOrFault (fit_number t sort n)
fit_number-value t (s.Number u) n unit h =
    tested-value (is_whole_type t && not (is_whole n.amount)) (is_in_range t n.amount) (record { amount = n.amount; unit = u }) (h.0, unit)
fit_number-value t s.Flag n unit h = h
fit_number-value t s.Text n unit h = h

fit-value : (t : PropType) (v : Value) → IsValue v → IsValueOrFault (fit t v)
fit-value t (Number n) h = fit_number-value t (sort_of_type t) n (type-unit t) h
fit-value t (Flag b) h = tt
fit-value t (Text x) h = h

-- a value that is fitted to a type is a value
pub fitted_value : (t : PropType) (v w : Value) → IsValue v → fit t v ≡ Ok w → IsValue w
fitted_value t v w h e = IfOk-at_ok IsValue e (fit-value t v h)
