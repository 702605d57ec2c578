-- Each row of the table of operations: where it has a sort, it makes no difference what it gives on
-- operands that it does not want.
use Rattle.std.proofs.Common.{◌≡◌, ℤ, Bool, true, false, cond, List, [], ◌∷◌, ◌++◌, Option, Some, None, Result, Ok, Err, map, refl, subst, sym, ap, ◌∙◌}
use Rattle.std.specs.List.{list_all}
use Rattle.unit_signatures.specs.declared.unit.ExponentRange.{ExponentRange}
use Rattle.unit_signatures.specs.Products.{product, quotient, power_of}
use Rattle.unit_signatures.specs.Table.{unit_named}
use Rattle.quantities.specs.declared.amount_fault.AmountFault.TheVariants as amount
use Rattle.quantities.specs.declared.quantity_fault.QuantityFault.TheVariants as quantity
use Rattle.quantities.specs.declared.quantity.Quantity.{Quantity}
use Rattle.quantities.specs.Arithmetic.{Calculated, plus, minus, times, over, modulo, power}
use Rattle.quantities.specs.Quantities as q
use Rattle.property_types.specs.declared.prop_type.Sort.{Sort}
use Rattle.property_types.specs.declared.prop_type.Sort.TheVariants.{Number, Flag, Text}
use Rattle.property_types.specs.declared.value.Value.TheVariants as value
use Rattle.property_types.specs.declared.value.ValueFault.{ValueFault}
use Rattle.property_types.specs.Values.{Outcome, same_unit}
use Rattle.expr_tree.specs.declared.expr.UnitPower.{UnitPower}
use Rattle.expr_tree.specs.declared.operators.BinaryOp.{BinaryOp}
use Rattle.expr_tree.specs.declared.operators.BinaryOp.TheVariants.{Plus, Minus, Times, Over, Modulo}
use Rattle.expr_tree.specs.declared.operators.CompareOp.{CompareOp}
use Rattle.expr_tree.specs.declared.operators.CompareOp.TheVariants.{Equal, NotEqual, Less, LessOrEqual, Greater, GreaterOrEqual}
use Rattle.expr_tree.specs.declared.functions.AggregateOp.{AggregateOp}
use Rattle.expr_tree.specs.declared.functions.AggregateOp.TheVariants.{Sum, Average, Count, Min, Max}
use Rattle.expr_eval.specs.declared.sort_cause.SortCause.{SortCause}
use Rattle.expr_eval.specs.declared.sort_cause.SortCause.TheVariants.{UnitMismatch, KindMismatch}
use Rattle.expr_eval.specs.Firsts.{on_one, on_two, all_of}
use Rattle.expr_eval.specs.SortRows as rows
use Rattle.expr_eval.specs.SortRows.{SortOutcome}
use Rattle.expr_eval.specs.Numbers.{Numeric, number_of, flag_of, settled, of_unit, of_unit_power, literal_outcome, unit_outcome, combined, holds}
use Rattle.expr_eval.specs.Kinds.{IsOfSort, AreOfSorts}
use Rattle.expr_eval.proofs.KindRows.{HasUnit}
use Rattle.expr_eval.proofs.KindAggregates.{parts}

-- a sort of numbers
abbrev pub IsNumber : Sort → Type 0
IsNumber s = (u : List ℤ) × (s ≡ Number u)

abbrev pub IsNumberSort : SortOutcome → Type 0
IsNumberSort s = (u : List ℤ) × (s ≡ Ok (Number u))

-- rows that want numbers
pub number-row : (s z : Sort) → rows.number_sort s ≡ Ok z → IsNumber s
number-row (Number u) z e = (u, refl)
number-row Flag z e = absurd (cc)
number-row Text z e = absurd (cc)

pub power-row : (n : ℤ) (s z : Sort) → rows.power_sort n s ≡ Ok z → IsNumber s
power-row n (Number u) z e = (u, refl)
power-row n Flag z e = absurd (cc)
power-row n Text z e = absurd (cc)

pub binary-row : (op : BinaryOp) (s t z : Sort) → rows.binary_sort op s t ≡ Ok z → IsNumber s × IsNumber t
binary-row op (Number u) (Number v) z e = ((u, refl), (v, refl))
binary-row op (Number u) Flag z e = absurd (cc)
binary-row op (Number u) Text z e = absurd (cc)
binary-row op Flag t z e = absurd (cc)
binary-row op Text t z e = absurd (cc)

flag-of : (r : SortOutcome) (z : Sort) → rows.as_flag r ≡ Ok z → (s : Sort) × (r ≡ Ok s)
flag-of (Ok s) z e = (s, refl)
flag-of (Err cause) z e = absurd (cc)

order-row : (s t z : Sort) → rows.as_flag (rows.binary_sort Minus s t) ≡ Ok z → IsNumber s × IsNumber t
order-row s t z e = let f = flag-of (rows.binary_sort Minus s t) z e in binary-row Minus s t f.0 f.1

module _ (w v : ValueFault) where
  pub number-same : (sort : SortOutcome) (o : Outcome) → IsNumberSort sort → IsOfSort sort o → number_of w o ≡ number_of v o
  number-same sort (Ok (value.Number n)) is h = refl
  number-same sort (Ok (value.Flag b)) is h = let e = h (Number is.0) is.1 in absurd (cc)
  number-same sort (Ok (value.Text t)) is h = let e = h (Number is.0) is.1 in absurd (cc)
  number-same sort (Err fault) is h = refl

  pub flag-same : (sort : SortOutcome) (o : Outcome) → sort ≡ Ok Flag → IsOfSort sort o → flag_of w o ≡ flag_of v o
  flag-same sort (Ok (value.Number n)) is h = let e = h Flag is in absurd (cc)
  flag-same sort (Ok (value.Flag b)) is h = refl
  flag-same sort (Ok (value.Text t)) is h = let e = h Flag is in absurd (cc)
  flag-same sort (Err fault) is h = refl

  -- results of one unit, and in a unit that was calculated
  settled-one : (u : List ℤ) (c : Calculated) → settled w (q.of_unit u c) ≡ settled v (q.of_unit u c)
  settled-one u (Ok a) = refl
  settled-one u (Err amount.Range) = refl
  settled-one u (Err amount.DivideByZero) = refl

  settled-same-unit : (b : Bool) (u : List ℤ) (c : Calculated) (z : Sort) → cond b (Ok (Number u)) (Err UnitMismatch) ≡ Ok z
      → settled w (cond b (q.of_unit u c) (Err quantity.UnitMismatch)) ≡ settled v (cond b (q.of_unit u c) (Err quantity.UnitMismatch))
  settled-same-unit true u c z e = settled-one u c
  settled-same-unit false u c z e = absurd (cc)

  pub settled-in-unit : (u : Result (List ℤ) ExponentRange) (c : Calculated) (z : Sort) → rows.number_in u ≡ Ok z → settled w (q.in_unit u c) ≡ settled v (q.in_unit u c)
  settled-in-unit (Ok u) c z e = settled-one u c
  settled-in-unit (Err range) c z e = absurd (cc)

  pub settled-combined : (op : BinaryOp) (m n : Quantity) (z : Sort) → rows.unit_of_two op m.unit n.unit ≡ Ok z → settled w (combined op m n) ≡ settled v (combined op m n)
  settled-combined Plus m n z e = settled-same-unit (same_unit m.unit n.unit) m.unit (plus m.amount n.amount) z e
  settled-combined Minus m n z e = settled-same-unit (same_unit m.unit n.unit) m.unit (minus m.amount n.amount) z e
  settled-combined Times m n z e = settled-in-unit (product m.unit n.unit) (times m.amount n.amount) z e
  settled-combined Over m n z e = settled-in-unit (quotient m.unit n.unit) (over m.amount n.amount) z e
  settled-combined Modulo m n z e = settled-same-unit (same_unit m.unit n.unit) m.unit (modulo m.amount n.amount) z e

  -- literals and units
  power-same : (x : ℤ) (u : Result (List ℤ) ExponentRange) (c : Calculated) (z : Sort) → rows.number_in u ≡ Ok z → of_unit w x (q.in_unit u c) ≡ of_unit v x (q.in_unit u c)
  power-same x (Ok u) (Ok a) z e = refl
  power-same x (Ok u) (Err amount.Range) z e = refl
  power-same x (Ok u) (Err amount.DivideByZero) z e = refl
  power-same x (Err range) c z e = absurd (cc)

  unit-power-same : (x : ℤ) (row : Option (ℤ × List ℤ)) (n : ℤ) (z : Sort) → rows.unit_power_sort row n ≡ Ok z → of_unit_power w x row n ≡ of_unit_power v x row n
  unit-power-same x (Some row) n z e = power-same x (power_of row.1 n) (power row.0 n) z e
  unit-power-same x None n z e = absurd (cc)

  pub literal-same : (x : ℤ) (u : Option UnitPower) (z : Sort) → rows.literal_sort u ≡ Ok z → literal_outcome w x u ≡ literal_outcome v x u
  literal-same x None z e = refl
  literal-same x (Some u) z e = unit-power-same x (unit_named u.unit) u.exponent z e

  pub unit-same : (row : Option (ℤ × List ℤ)) (z : Sort) → rows.unit_sort row ≡ Ok z → unit_outcome w row ≡ unit_outcome v row
  unit-same (Some row) z e = refl
  unit-same None z e = absurd (cc)

  -- operations on one number
  one-each : (row : Sort → SortOutcome) (g h : Quantity → Outcome) → ((n : Quantity) (z : Sort) → row (Number n.unit) ≡ Ok z → g n ≡ h n)
      → (s : Sort) (z : Sort) (n : Numeric) → HasUnit (Ok s) n → row s ≡ Ok z → on_one g n ≡ on_one h n
  one-each row g h each s z (Ok n) unit e = each n z (subst (λ (x : Sort). row x ≡ Ok z) (sym (unit s refl)) e)
  one-each row g h each s z (Err fault) unit e = refl

  pub one-same : (row : Sort → SortOutcome) (g h : Quantity → Outcome) → ((s z : Sort) → row s ≡ Ok z → IsNumber s)
      → ((n : Quantity) (z : Sort) → row (Number n.unit) ≡ Ok z → g n ≡ h n)
      → (sort : SortOutcome) (o : Outcome) → IsOfSort sort o → HasUnit sort (number_of w o) → (z : Sort) → on_one row sort ≡ Ok z
      → on_one g (number_of w o) ≡ on_one h (number_of v o)
  one-same row g h numbers each (Ok s) o of unit z e =
      let is = numbers s z e in
      one-each row g h each s z (number_of w o) unit e ∙ ap (on_one h) (number-same (Ok s) o (is.0, ap Ok is.1) of)
  one-same row g h numbers each (Err cause) o of unit z e = absurd (cc)

  -- operations on two numbers
  two-each : (row : Sort → Sort → SortOutcome) (g h : Quantity → Quantity → Outcome) → ((m n : Quantity) (z : Sort) → row (Number m.unit) (Number n.unit) ≡ Ok z → g m n ≡ h m n)
      → (s t z : Sort) (m n : Numeric) → HasUnit (Ok s) m → HasUnit (Ok t) n → row s t ≡ Ok z → on_two g m n ≡ on_two h m n
  two-each row g h each s t z (Ok m) (Ok n) left right e =
      each m n z (subst (λ (x : Sort). row x (Number n.unit) ≡ Ok z) (sym (left s refl)) (subst (λ (x : Sort). row s x ≡ Ok z) (sym (right t refl)) e))
  two-each row g h each s t z (Ok m) (Err fault) left right e = refl
  two-each row g h each s t z (Err fault) n left right e = refl

  both-numbers : {C : Type 0} (f : Quantity → Quantity → Result C ValueFault) (s t : Sort) (a b : Outcome) → IsNumber s × IsNumber t → IsOfSort (Ok s) a → IsOfSort (Ok t) b
      → on_two f (number_of w a) (number_of w b) ≡ on_two f (number_of v a) (number_of v b)
  both-numbers f s t a b is left right =
      let p = number-same (Ok s) a (is.0.0, ap Ok is.0.1) left in
      let r = number-same (Ok t) b (is.1.0, ap Ok is.1.1) right in
      λ i. on_two f (p i) (r i)

  pub two-same : (row : Sort → Sort → SortOutcome) (g h : Quantity → Quantity → Outcome) → ((s t z : Sort) → row s t ≡ Ok z → IsNumber s × IsNumber t)
      → ((m n : Quantity) (z : Sort) → row (Number m.unit) (Number n.unit) ≡ Ok z → g m n ≡ h m n)
      → (left right : SortOutcome) (a b : Outcome) → IsOfSort left a → IsOfSort right b → HasUnit left (number_of w a) → HasUnit right (number_of w b)
      → (z : Sort) → on_two row left right ≡ Ok z → on_two g (number_of w a) (number_of w b) ≡ on_two h (number_of v a) (number_of v b)
  two-same row g h numbers each (Ok s) (Ok t) a b of-left of-right left right z e =
      two-each row g h each s t z (number_of w a) (number_of w b) left right e ∙ both-numbers h s t a b (numbers s t z e) of-left of-right
  two-same row g h numbers each (Ok s) (Err cause) a b of-left of-right left right z e = absurd (cc)
  two-same row g h numbers each (Err cause) right-sort a b of-left of-right left right z e = absurd (cc)

  -- comparisons
  pub holds-same : (op : CompareOp) (left right : SortOutcome) (a b : Outcome) → IsOfSort left a → IsOfSort right b → (z : Sort)
      → on_two (rows.compare_sort op) left right ≡ Ok z → holds w op a b ≡ holds v op a b
  holds-same Equal left right a b of-left of-right z e = refl
  holds-same NotEqual left right a b of-left of-right z e = refl
  holds-same Less (Ok s) (Ok t) a b of-left of-right z e = both-numbers _ s t a b (order-row s t z e) of-left of-right
  holds-same LessOrEqual (Ok s) (Ok t) a b of-left of-right z e = both-numbers _ s t a b (order-row s t z e) of-left of-right
  holds-same Greater (Ok s) (Ok t) a b of-left of-right z e = both-numbers _ s t a b (order-row s t z e) of-left of-right
  holds-same GreaterOrEqual (Ok s) (Ok t) a b of-left of-right z e = both-numbers _ s t a b (order-row s t z e) of-left of-right
  holds-same op (Ok s) (Err cause) a b of-left of-right z e = absurd (cc)
  holds-same op (Err cause) right a b of-left of-right z e = absurd (cc)

-- sorts of numbers, all of them
abbrev pub AreNumbers : List SortOutcome → Type 0
AreNumbers [] = Unit {0}
AreNumbers (s ∷ ss) = IsNumberSort s × AreNumbers ss

pub split-numbers : (ss ts : List SortOutcome) → AreNumbers (ss ++ ts) → AreNumbers ss × AreNumbers ts
split-numbers [] ts h = (tt, h)
split-numbers (s ∷ ss) ts h = let others = split-numbers ss ts h.1 in ((h.0, others.0), others.1)

pub numbers-same : (w v : ValueFault) (ss : List SortOutcome) (os : List Outcome) → AreNumbers ss → AreOfSorts ss os → map (number_of w) os ≡ map (number_of v) os
numbers-same w v [] [] is h = refl
numbers-same w v (s ∷ ss) (o ∷ os) is h =
    let first = number-same w v s o is.0 h.0 in
    let others = numbers-same w v ss os is.1 h.1 in
    λ i. first i ∷ others i
numbers-same w v [] (o ∷ os) is h = absurd h
numbers-same w v (s ∷ ss) [] is h = absurd h

head-number : (s : Sort) (ss : List Sort) → list_all rows.is_number_sort (s ∷ ss) ≡ true → IsNumber s × (list_all rows.is_number_sort ss ≡ true)
head-number (Number u) ss h = ((u, refl), h)
head-number Flag ss h = absurd (cc)
head-number Text ss h = absurd (cc)

all-numbers : (sorts : List SortOutcome) (ss : List Sort) → all_of sorts ≡ Ok ss → list_all rows.is_number_sort ss ≡ true → AreNumbers sorts
all-numbers [] ss e h = tt
all-numbers (Ok s ∷ sorts) ss e h =
    let p = parts s (all_of sorts) ss e in
    let is = head-number s p.others (subst (λ (xs : List Sort). list_all rows.is_number_sort xs ≡ true) p.all h) in
    ((is.0.0, ap Ok is.0.1), all-numbers sorts p.others p.given is.1)
all-numbers (Err cause ∷ sorts) ss e h = absurd (cc)

are-numbers : (b : Bool) (common : SortOutcome) (z : Sort) → cond b common (Err KindMismatch) ≡ Ok z → b ≡ true
are-numbers true common z e = refl
are-numbers false common z e = absurd (cc)

pure-of : (r : SortOutcome) (z : Sort) → rows.as_pure r ≡ Ok z → (s : Sort) × (r ≡ Ok s)
pure-of (Ok s) z e = (s, refl)
pure-of (Err cause) z e = absurd (cc)

aggregate-numbers : (op : AggregateOp) (ss : List Sort) (z : Sort) → rows.aggregate_sort op ss ≡ Ok z → list_all rows.is_number_sort ss ≡ true
aggregate-numbers Count ss z e =
    let p = pure-of (rows.one_unit_sort ss) z e in are-numbers (list_all rows.is_number_sort ss) (rows.common_sort ss) p.0 p.1
aggregate-numbers Sum ss z e = are-numbers (list_all rows.is_number_sort ss) (rows.common_sort ss) z e
aggregate-numbers Average ss z e = are-numbers (list_all rows.is_number_sort ss) (rows.common_sort ss) z e
aggregate-numbers Min ss z e = are-numbers (list_all rows.is_number_sort ss) (rows.common_sort ss) z e
aggregate-numbers Max ss z e = are-numbers (list_all rows.is_number_sort ss) (rows.common_sort ss) z e

-- the items of a function of many numbers that has a sort
pub many-numbers : (op : AggregateOp) (sorts : List SortOutcome) (all : Result (List Sort) SortCause) (z : Sort) → all_of sorts ≡ all
    → on_one (rows.aggregate_sort op) all ≡ Ok z → AreNumbers sorts
many-numbers op sorts (Ok ss) z is e = all-numbers sorts ss is (aggregate-numbers op ss z e)
many-numbers op sorts (Err cause) z is e = absurd (cc)
