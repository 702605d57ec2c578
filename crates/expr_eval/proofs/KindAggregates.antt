-- Functions of many numbers: what they give is of the sort that they have.
use Rattle.std.proofs.Common.{◌≡◌, ℤ, Bool, true, false, cond, List, [], ◌∷◌, ◌++◌, Option, Some, None, Result, Ok, Err, length, map, refl, subst}
use Rattle.std.specs.List.{list_all, reduce}
use Rattle.std.specs.Int.{int_min, int_max}
use Rattle.unit_signatures.specs.Units.{pure}
use Rattle.quantities.specs.declared.quantity.Quantity.{Quantity}
use Rattle.property_types.specs.declared.prop_type.Sort.{Sort}
use Rattle.property_types.specs.declared.prop_type.Sort.TheVariants.{Number}
use Rattle.property_types.specs.declared.value.ValueFault.{ValueFault}
use Rattle.property_types.specs.Values.{Outcome}
use Rattle.property_types.specs.Sorts.{same_sort}
use Rattle.expr_tree.specs.declared.functions.AggregateOp.{AggregateOp}
use Rattle.expr_tree.specs.declared.functions.AggregateOp.TheVariants.{Sum, Average, Count, Min, Max}
use Rattle.expr_eval.specs.declared.sort_cause.SortCause.{SortCause}
use Rattle.expr_eval.specs.declared.sort_cause.SortCause.TheVariants.{UnitMismatch, KindMismatch}
use Rattle.expr_eval.specs.Firsts.{on_one, all_of, with_item}
use Rattle.expr_eval.specs.SortRows as rows
use Rattle.expr_eval.specs.SortRows.{SortOutcome}
use Rattle.expr_eval.specs.Numbers.{Numeric, number_of, calculated}
use Rattle.expr_eval.specs.Aggregates.{aggregate_outcome, best_outcome, amounts, total, mean, count_of}
use Rattle.expr_eval.specs.Kinds.{IsOfSort, AreOfSorts}
use Rattle.expr_eval.proofs.KindRows.{HasUnit, number-unit, no-sort, weaker, calculated-kind}

-- as many numbers as sorts, each with the unit of its sort
abbrev pub HaveUnits : List SortOutcome → List Numeric → Type 0
HaveUnits [] [] = Unit {0}
HaveUnits (s ∷ ss) (n ∷ ns) = HasUnit s n × HaveUnits ss ns
HaveUnits [] (n ∷ ns) = ⊥
HaveUnits (s ∷ ss) [] = ⊥

pub numbers-units : (w : ValueFault) (ss : List SortOutcome) (os : List Outcome) → AreOfSorts ss os → HaveUnits ss (map (number_of w) os)
numbers-units w [] [] h = tt
numbers-units w (s ∷ ss) (o ∷ os) h = (number-unit w s o h.0, numbers-units w ss os h.1)
numbers-units w [] (o ∷ os) h = absurd h
numbers-units w (s ∷ ss) [] h = absurd h

pub joined-units : (ss ts : List SortOutcome) (ms ns : List Numeric) → HaveUnits ss ms → HaveUnits ts ns → HaveUnits (ss ++ ts) (ms ++ ns)
joined-units [] ts [] ns h i = i
joined-units (s ∷ ss) ts (m ∷ ms) ns h i = (h.0, joined-units ss ts ms ns h.1 i)
joined-units [] ts (m ∷ ms) ns h i = absurd h
joined-units (s ∷ ss) ts [] ns h i = absurd h

-- the first item and the others, where there are all
pub record Parts {A F : Type 0} (x : A) (r : Result (List A) F) (xs : List A) : Type 0 where
  pub others : List A
  pub given : r ≡ Ok others
  pub all : xs ≡ x ∷ others

pub parts : {A F : Type 0} (x : A) (r : Result (List A) F) (xs : List A) → with_item x r ≡ Ok xs → Parts x r xs
parts x (Ok ys) xs e = record { others = ys; given = refl; all = cc }
parts x (Err fault) xs e = absurd (cc)

-- the sorts of numbers, by their units
abbrev pub sorts_of : List Quantity → List Sort
sorts_of ns = map (λ n. Number n.unit) ns

-- all sorts and all numbers: the sorts are those of the numbers
pub sorts-of-numbers : (ss : List SortOutcome) (ns : List Numeric) → HaveUnits ss ns
    → (sorts : List Sort) (numbers : List Quantity) → all_of ss ≡ Ok sorts → all_of ns ≡ Ok numbers → sorts_of numbers ≡ sorts
sorts-of-numbers [] [] h sorts numbers e f = let n : numbers ≡ [] = cc in let s : sorts ≡ [] = cc in rw (n, s)
sorts-of-numbers (Ok s ∷ ss) (Ok n ∷ ns) h sorts numbers e f =
    let p = parts s (all_of ss) sorts e in
    let r = parts n (all_of ns) numbers f in
    let first = h.0 s refl in
    let others = sorts-of-numbers ss ns h.1 p.others r.others p.given r.given in
    rw (p.all, r.all, first, others)
sorts-of-numbers (Err cause ∷ ss) (n ∷ ns) h sorts numbers e f = absurd (cc)
sorts-of-numbers (Ok s ∷ ss) (Err fault ∷ ns) h sorts numbers e f = absurd (cc)
sorts-of-numbers [] (n ∷ ns) h sorts numbers e f = absurd h
sorts-of-numbers (s ∷ ss) [] h sorts numbers e f = absurd h

-- the sort of some numbers is that of the first
first-sort : (b : Bool) (s z : Sort) → cond b (Ok s) (Err UnitMismatch) ≡ Ok z → s ≡ z
first-sort true s z e = cc
first-sort false s z e = absurd (cc)

first-number : (b : Bool) (common : SortOutcome) (z : Sort) → cond b common (Err KindMismatch) ≡ Ok z → common ≡ Ok z
first-number true common z e = e
first-number false common z e = absurd (cc)

one-unit-first : (u : List ℤ) (ss : List Sort) (z : Sort) → rows.one_unit_sort (Number u ∷ ss) ≡ Ok z → ◌≡◌ {A = SortOutcome} (Ok (Number u)) (Ok z)
one-unit-first u ss z e =
    let common = first-number (list_all rows.is_number_sort ss) (rows.common_sort (Number u ∷ ss)) z e in
    let same = first-sort (list_all (same_sort (Number u)) ss) (Number u) z common in
    cc

pure-sort : (r : SortOutcome) (z : Sort) → rows.as_pure r ≡ Ok z → ◌≡◌ {A = SortOutcome} (Ok (Number pure)) (Ok z)
pure-sort (Ok s) z e = e
pure-sort (Err cause) z e = absurd (cc)

best-kind : (u : List ℤ) (best : Option ℤ) → IsOfSort (Ok (Number u)) (best_outcome u best)
best-kind u (Some a) = λ s e. cc
best-kind u None = tt

pub aggregate-kind : (op : AggregateOp) (ns : List Quantity) → IsOfSort (rows.aggregate_sort op (sorts_of ns)) (aggregate_outcome op ns)
aggregate-kind Count ns =
    weaker (rows.as_pure (rows.one_unit_sort (sorts_of ns))) (Ok (Number pure)) (calculated pure (count_of (length ns)))
    (pure-sort (rows.one_unit_sort (sorts_of ns))) (calculated-kind pure (count_of (length ns)))
aggregate-kind Sum [] = calculated-kind pure (total [])
aggregate-kind Average [] = tt
aggregate-kind Min [] = tt
aggregate-kind Max [] = tt
aggregate-kind Sum (n ∷ ns) =
    weaker (rows.one_unit_sort (sorts_of (n ∷ ns))) (Ok (Number n.unit)) (calculated n.unit (total (amounts (n ∷ ns))))
    (one-unit-first n.unit (sorts_of ns)) (calculated-kind n.unit (total (amounts (n ∷ ns))))
aggregate-kind Average (n ∷ ns) =
    weaker (rows.one_unit_sort (sorts_of (n ∷ ns))) (Ok (Number n.unit)) (calculated n.unit (mean (amounts (n ∷ ns))))
    (one-unit-first n.unit (sorts_of ns)) (calculated-kind n.unit (mean (amounts (n ∷ ns))))
aggregate-kind Min (n ∷ ns) =
    weaker (rows.one_unit_sort (sorts_of (n ∷ ns))) (Ok (Number n.unit)) (best_outcome n.unit (reduce int_min (amounts (n ∷ ns))))
    (one-unit-first n.unit (sorts_of ns)) (best-kind n.unit (reduce int_min (amounts (n ∷ ns))))
aggregate-kind Max (n ∷ ns) =
    weaker (rows.one_unit_sort (sorts_of (n ∷ ns))) (Ok (Number n.unit)) (best_outcome n.unit (reduce int_max (amounts (n ∷ ns))))
    (one-unit-first n.unit (sorts_of ns)) (best-kind n.unit (reduce int_max (amounts (n ∷ ns))))

-- a function of many numbers on items, of which the first fault counts
pub many-kind : (op : AggregateOp) (sorts : Result (List Sort) SortCause) (numbers : Result (List Quantity) ValueFault)
    → ((ss : List Sort) (ns : List Quantity) → sorts ≡ Ok ss → numbers ≡ Ok ns → sorts_of ns ≡ ss)
    → IsOfSort (on_one (rows.aggregate_sort op) sorts) (on_one (aggregate_outcome op) numbers)
many-kind op (Ok ss) (Ok ns) same = subst (λ (zs : List Sort). IsOfSort (rows.aggregate_sort op zs) (aggregate_outcome op ns)) (same ss ns refl refl) (aggregate-kind op ns)
many-kind op (Err cause) (Ok ns) same = no-sort cause (aggregate_outcome op ns)
many-kind op (Ok ss) (Err fault) same = tt
many-kind op (Err cause) (Err fault) same = tt
