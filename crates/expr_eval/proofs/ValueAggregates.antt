-- Functions of many numbers that are values: what they give is a value, or a fault.
use Rattle.std.proofs.Common.{ℤ, pos, ◌+ℤ◌, ◌*◌, true, false, cond, List, [], ◌∷◌, ◌++◌, length, map, fold, Result, Ok, Err, IfOk, inl, inr, refl}
use Rattle.std.specs.List.{reduce, AllByRecursion}
use Rattle.std.specs.Int.{int_min, int_max}
use Rattle.std.specs.Prelude.{int_lt}
use Rattle.fc_base.specs.Graph.{IsIn}
use Rattle.unit_signatures.specs.Units.{IsUnit, pure}
use Rattle.quantities.specs.declared.quantity.Quantity.{Quantity}
use Rattle.quantities.specs.Amounts.{IsAmount}
use Rattle.quantities.specs.Texts.{billion}
use Rattle.quantities.specs.Arithmetic.{Calculated, over}
use Rattle.property_types.specs.declared.value.Value.{Value}
use Rattle.property_types.specs.declared.value.ValueFault.{ValueFault}
use Rattle.property_types.specs.Values.{Outcome, IsValue}
use Rattle.expr_tree.specs.declared.functions.AggregateOp.{AggregateOp}
use Rattle.expr_tree.specs.declared.functions.AggregateOp.TheVariants.{Sum, Average, Count, Min, Max}
use Rattle.expr_eval.specs.Firsts.{on_one, on_two, all_of, with_item}
use Rattle.expr_eval.specs.Numbers.{Numeric, number_of}
use Rattle.expr_eval.specs.Aggregates.{unit_of_all, amounts, plus_more, total, count_of, mean, best_outcome, aggregate_outcome}
use Rattle.expr_eval.proofs.ValueAmounts.{IsAmountOrFault, zero-amount, bounded-amount, over-amount}
use Rattle.expr_eval.proofs.ValueUnits.{pure-unit}
use Rattle.expr_eval.proofs.ValueRows.{IsQuantity, IsNumberOrFault, IsValueOrFault, number-quantity, calculated-value}

abbrev pub AreQuantities : List Quantity → Type 0
AreQuantities ns = AllByRecursion IsQuantity ns

abbrev pub AreQuantitiesOrFault : Result (List Quantity) ValueFault → Type 0
AreQuantitiesOrFault r = IfOk r AreQuantities

abbrev pub AreNumbersOrFaults : List Numeric → Type 0
AreNumbersOrFaults ns = AllByRecursion IsNumberOrFault ns

-- the numbers of items
pub cells-quantities : (w : ValueFault) (os : List Outcome) → ((v : Value) → IsIn (Ok v) os → IsValue v) → AreNumbersOrFaults (map (number_of w) os)
cells-quantities w [] each = tt
cells-quantities w (Ok v ∷ os) each = (number-quantity w (Ok v) (each v (inl refl)), cells-quantities w os (λ x at. each x (inr at)))
cells-quantities w (Err fault ∷ os) each = (tt, cells-quantities w os (λ x at. each x (inr at)))

pub joined-quantities : (ms ns : List Numeric) → AreNumbersOrFaults ms → AreNumbersOrFaults ns → AreNumbersOrFaults (ms ++ ns)
joined-quantities [] ns h i = i
joined-quantities (m ∷ ms) ns h i = (h.0, joined-quantities ms ns h.1 i)

with-quantity : (n : Quantity) (r : Result (List Quantity) ValueFault) → IsQuantity n → AreQuantitiesOrFault r → AreQuantitiesOrFault (with_item n r)
with-quantity n (Ok ns) h i = (h, i)
with-quantity n (Err fault) h i = tt

pub gathered-quantities : (ns : List Numeric) → AreNumbersOrFaults ns → AreQuantitiesOrFault (all_of ns)
gathered-quantities [] h = tt
gathered-quantities (Ok n ∷ ns) h = with-quantity n (all_of ns) h.0 (gathered-quantities ns h.1)
gathered-quantities (Err fault ∷ ns) h = tt

unit-of-all : (ns : List Quantity) → AreQuantities ns → IsUnit (unit_of_all ns)
unit-of-all [] h = pure-unit
unit-of-all (n ∷ ns) h = h.0.1

-- totals and means
plus-more-amount : (sum : Calculated) (x : ℤ) → IsAmountOrFault (plus_more sum x)
plus-more-amount (Ok a) x = bounded-amount (a +ℤ x)
plus-more-amount (Err fault) x = tt

sum-amount : (xs : List ℤ) (sum : Calculated) → IsAmountOrFault sum → IsAmountOrFault (fold plus_more sum xs)
sum-amount [] sum h = h
sum-amount (x ∷ xs) sum h = sum-amount xs (plus_more sum x) (plus-more-amount sum x)

mean-amount : (sum count : Calculated) → IsAmountOrFault (on_two over sum count)
mean-amount (Ok a) (Ok b) = over-amount a b
mean-amount (Ok a) (Err fault) = tt
mean-amount (Err fault) count = tt

-- the least and the greatest are among the amounts
module _ (pick : ℤ → ℤ → ℤ) (one : (a b : ℤ) → IsAmount a → IsAmount b → IsAmount (pick a b)) where
  best-amount : (ns : List Quantity) (a : ℤ) → IsAmount a → AreQuantities ns → IsAmount (fold pick a (amounts ns))
  best-amount [] a h i = h
  best-amount (n ∷ ns) a h i = best-amount ns (pick a n.amount) (one a n.amount h i.0.0) i.1

  best-value : (ns : List Quantity) → AreQuantities ns → IsValueOrFault (best_outcome (unit_of_all ns) (reduce pick (amounts ns)))
  best-value [] h = tt
  best-value (n ∷ ns) h = (best-amount ns n.amount h.0.0 h.1, h.0.1)

least-amount : (a b : ℤ) → IsAmount a → IsAmount b → IsAmount (int_min a b)
least-amount a b h i = elim (int_lt b a) as (λ t. IsAmount (cond t b a)) [ true ↦ i | false ↦ h ]

greatest-amount : (a b : ℤ) → IsAmount a → IsAmount b → IsAmount (int_max a b)
greatest-amount a b h i = elim (int_lt b a) as (λ t. IsAmount (cond t a b)) [ true ↦ h | false ↦ i ]

aggregate-value : (op : AggregateOp) (ns : List Quantity) → AreQuantities ns → IsValueOrFault (aggregate_outcome op ns)
aggregate-value Sum ns h = calculated-value (unit_of_all ns) (total (amounts ns)) (unit-of-all ns h) (sum-amount (amounts ns) (Ok (pos 0)) zero-amount)
aggregate-value Average [] h = tt
aggregate-value Average (n ∷ ns) h =
    calculated-value n.unit (mean (amounts (n ∷ ns))) h.0.1 (mean-amount (total (amounts (n ∷ ns))) (count_of (length (amounts (n ∷ ns)))))
aggregate-value Count ns h = calculated-value pure (count_of (length ns)) pure-unit (bounded-amount (pos (length ns * billion)))
aggregate-value Min ns h = best-value int_min least-amount ns h
aggregate-value Max ns h = best-value int_max greatest-amount ns h

-- a function of many numbers on items, of which the first fault counts
pub many-value : (op : AggregateOp) (r : Result (List Quantity) ValueFault) → AreQuantitiesOrFault r → IsValueOrFault (on_one (aggregate_outcome op) r)
many-value op (Ok ns) h = aggregate-value op ns h
many-value op (Err fault) h = tt
