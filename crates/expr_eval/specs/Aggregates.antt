-- What the functions of many numbers give on the numbers of their items.
use Rattle.std.specs.Prelude.{ℕ, ◌*◌, ℤ, pos, List, [], ◌∷◌, length, map, fold, Option, Some, None, Ok, Err}
use Rattle.std.specs.List.{reduce}
use Rattle.std.specs.Int.{int_min, int_max}
use Rattle.unit_signatures.specs.Units.{pure}
use Rattle.quantities.specs.declared.quantity.Quantity.{Quantity}
use Rattle.quantities.specs.Texts.{billion}
use Rattle.quantities.specs.Arithmetic.{Calculated, bounded, plus, over}
use Rattle.property_types.specs.declared.value.ValueFault.TheVariants.{EmptyAggregate}
use Rattle.property_types.specs.declared.value.Value.TheVariants.{Number}
use Rattle.property_types.specs.Values.{Outcome}
use Rattle.expr_tree.specs.declared.functions.AggregateOp.{AggregateOp}
use Rattle.expr_tree.specs.declared.functions.AggregateOp.TheVariants.{Sum, Average, Count, Min, Max}
use Rattle.expr_eval.specs.Firsts.{on_one, on_two}
use Rattle.expr_eval.specs.Numbers.{calculated}

-- the unit of the numbers, which have one; of none the pure unit
abbrev pub unit_of_all : List Quantity → List ℤ
unit_of_all [] = pure
unit_of_all (q ∷ qs) = q.unit

abbrev pub amounts : List Quantity → List ℤ
amounts qs = map (λ q. q.amount) qs

-- a sum so far, and one amount more
abbrev pub plus_more : Calculated → ℤ → Calculated
plus_more sum x = on_one (λ a. plus a x) sum

-- the amounts added to 0, from the left
abbrev pub total : List ℤ → Calculated
total xs = fold plus_more (Ok (pos 0)) xs

-- so many, as an amount
abbrev pub count_of : ℕ → Calculated
count_of n = bounded (pos (n * billion))

-- the total over the count
abbrev pub mean : List ℤ → Calculated
mean xs = on_two over (total xs) (count_of (length xs))

-- an amount of the numbers' unit, where there is one
abbrev pub best_outcome : List ℤ → Option ℤ → Outcome
best_outcome unit (Some a) = Ok (Number (record { amount = a; unit = unit }))
best_outcome unit None = Err EmptyAggregate

abbrev pub average_outcome : List Quantity → Outcome
average_outcome [] = Err EmptyAggregate
average_outcome (q ∷ qs) = calculated q.unit (mean (amounts (q ∷ qs)))

-- `sum(x; A1:B2)` and its like
abbrev pub aggregate_outcome : AggregateOp → List Quantity → Outcome
aggregate_outcome Sum qs = calculated (unit_of_all qs) (total (amounts qs))
aggregate_outcome Average qs = average_outcome qs
aggregate_outcome Count qs = calculated pure (count_of (length qs))
aggregate_outcome Min qs = best_outcome (unit_of_all qs) (reduce int_min (amounts qs))
aggregate_outcome Max qs = best_outcome (unit_of_all qs) (reduce int_max (amounts qs))
