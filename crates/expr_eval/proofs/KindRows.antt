-- Each row of the table of operations: what it gives is of the sort that it has.
use Rattle.std.proofs.Common.{◌≡◌, ℤ, Bool, true, false, cond, List, Option, Some, None, Result, Ok, Err, refl, subst}
use Rattle.std.specs.Cmp.Rules.{signed_items}
use Rattle.unit_signatures.specs.declared.unit.ExponentRange.{ExponentRange}
use Rattle.unit_signatures.specs.Products.{product, quotient, power_of}
use Rattle.unit_signatures.specs.Table.{unit_named}
use Rattle.quantities.specs.declared.amount_fault.AmountFault.TheVariants as amount
use Rattle.quantities.specs.declared.quantity_fault.QuantityFault.TheVariants as quantity
use Rattle.quantities.specs.declared.quantity.Quantity.{Quantity}
use Rattle.quantities.specs.Arithmetic.{Calculated, plus, minus, times, over, modulo, power}
use Rattle.quantities.specs.Quantities as q
use Rattle.property_types.specs.declared.prop_type.Sort.{Sort}
use Rattle.property_types.specs.declared.prop_type.Sort.TheVariants.{Number, Flag, Text}
use Rattle.property_types.specs.declared.value.Value.TheVariants as value
use Rattle.property_types.specs.declared.value.ValueFault.{ValueFault}
use Rattle.property_types.specs.Values.{Outcome, same_unit}
use Rattle.expr_tree.specs.declared.expr.UnitPower.{UnitPower}
use Rattle.expr_tree.specs.declared.operators.BinaryOp.{BinaryOp}
use Rattle.expr_tree.specs.declared.operators.BinaryOp.TheVariants.{Plus, Minus, Times, Over, Modulo}
use Rattle.expr_tree.specs.declared.operators.CompareOp.{CompareOp}
use Rattle.expr_tree.specs.declared.operators.CompareOp.TheVariants.{Equal, NotEqual, Less, LessOrEqual, Greater, GreaterOrEqual}
use Rattle.expr_eval.specs.declared.sort_cause.SortCause.{SortCause}
use Rattle.expr_eval.specs.declared.sort_cause.SortCause.TheVariants.{UnitMismatch}
use Rattle.expr_eval.specs.Firsts.{on_one, on_two, on_three}
use Rattle.expr_eval.specs.SortRows as rows
use Rattle.expr_eval.specs.SortRows.{SortOutcome}
use Rattle.expr_eval.specs.Numbers.{Numeric, number_of, calculated, settled, of_unit, of_unit_power, literal_outcome, unit_outcome, combined, as_flag, chosen}
use Rattle.expr_eval.specs.Kinds.{IsOfSort}

-- a fault, or a number whose unit is that of the sort where there is one
abbrev pub HasUnit : SortOutcome → Numeric → Type 0
HasUnit sort (Ok n) = (s : Sort) → sort ≡ Ok s → Number n.unit ≡ s
HasUnit sort (Err fault) = Unit {0}

pub number-unit : (w : ValueFault) (sort : SortOutcome) (o : Outcome) → IsOfSort sort o → HasUnit sort (number_of w o)
number-unit w sort (Ok (value.Number n)) h = h
number-unit w sort (Ok (value.Flag b)) h = tt
number-unit w sort (Ok (value.Text t)) h = tt
number-unit w sort (Err fault) h = tt

-- where there is no sort, nothing is said
pub no-sort : (cause : SortCause) (o : Outcome) → IsOfSort (Err cause) o
no-sort cause (Ok v) = λ s e. absurd (cc)
no-sort cause (Err fault) = tt

pub weaker : (x y : SortOutcome) (o : Outcome) → ((s : Sort) → x ≡ Ok s → y ≡ Ok s) → IsOfSort y o → IsOfSort x o
weaker x y (Ok v) f h = λ s e. h s (f s e)
weaker x y (Err fault) f h = tt

-- what was calculated in a unit
pub calculated-kind : (u : List ℤ) (c : Calculated) → IsOfSort (Ok (Number u)) (calculated u c)
calculated-kind u (Ok a) = λ s e. cc
calculated-kind u (Err amount.Range) = tt
calculated-kind u (Err amount.DivideByZero) = tt

settled-one : (w : ValueFault) (u : List ℤ) (c : Calculated) → IsOfSort (Ok (Number u)) (settled w (q.of_unit u c))
settled-one w u (Ok a) = λ s e. cc
settled-one w u (Err amount.Range) = tt
settled-one w u (Err amount.DivideByZero) = tt

-- in a unit that was calculated
pub settled-kind : (w : ValueFault) (u : Result (List ℤ) ExponentRange) (c : Calculated) → IsOfSort (rows.number_in u) (settled w (q.in_unit u c))
settled-kind w (Ok u) c = settled-one w u c
settled-kind w (Err e) c = tt

-- in the unit of both, where it is one
pub same-unit-kind : (w : ValueFault) (b : Bool) (u : List ℤ) (c : Calculated)
    → IsOfSort (cond b (Ok (Number u)) (Err UnitMismatch)) (settled w (cond b (q.of_unit u c) (Err quantity.UnitMismatch)))
same-unit-kind w true u c = settled-one w u c
same-unit-kind w false u c = tt

-- literals and units
power-kind : (w : ValueFault) (x : ℤ) (u : Result (List ℤ) ExponentRange) (c : Calculated) → IsOfSort (rows.number_in u) (of_unit w x (q.in_unit u c))
power-kind w x (Ok u) (Ok a) = calculated-kind u (times x a)
power-kind w x (Ok u) (Err amount.Range) = tt
power-kind w x (Ok u) (Err amount.DivideByZero) = tt
power-kind w x (Err e) c = tt

unit-power-kind : (w : ValueFault) (x : ℤ) (row : Option (ℤ × List ℤ)) (n : ℤ) → IsOfSort (rows.unit_power_sort row n) (of_unit_power w x row n)
unit-power-kind w x (Some row) n = power-kind w x (power_of row.1 n) (power row.0 n)
unit-power-kind w x None n = tt

pub literal-kind : (w : ValueFault) (x : ℤ) (u : Option UnitPower) → IsOfSort (rows.literal_sort u) (literal_outcome w x u)
literal-kind w x None = λ s e. cc
literal-kind w x (Some u) = unit-power-kind w x (unit_named u.unit) u.exponent

pub unit-kind : (w : ValueFault) (row : Option (ℤ × List ℤ)) → IsOfSort (rows.unit_sort row) (unit_outcome w row)
unit-kind w (Some row) = λ s e. cc
unit-kind w None = tt

-- operations on one number and on two
pub one-kind : (row : Sort → SortOutcome) (g : Quantity → Outcome) → ((n : Quantity) → IsOfSort (row (Number n.unit)) (g n))
    → (sort : SortOutcome) (n : Numeric) → HasUnit sort n → IsOfSort (on_one row sort) (on_one g n)
one-kind row g each (Ok s) (Ok n) h = subst (λ (z : Sort). IsOfSort (row z) (g n)) (h s refl) (each n)
one-kind row g each (Err cause) (Ok n) h = no-sort cause (g n)
one-kind row g each (Ok s) (Err fault) h = tt
one-kind row g each (Err cause) (Err fault) h = tt

pub two-kind : (row : Sort → Sort → SortOutcome) (g : Quantity → Quantity → Outcome) → ((m n : Quantity) → IsOfSort (row (Number m.unit) (Number n.unit)) (g m n))
    → (left right : SortOutcome) (m n : Numeric) → HasUnit left m → HasUnit right n → IsOfSort (on_two row left right) (on_two g m n)
two-kind row g each (Ok s) (Ok t) (Ok m) (Ok n) h i =
    subst (λ (z : Sort). IsOfSort (row z t) (g m n)) (h s refl) (subst (λ (z : Sort). IsOfSort (row (Number m.unit) z) (g m n)) (i t refl) (each m n))
two-kind row g each (Err cause) right (Ok m) (Ok n) h i = no-sort cause (g m n)
two-kind row g each (Ok s) (Err cause) (Ok m) (Ok n) h i = no-sort cause (g m n)
two-kind row g each left right (Ok m) (Err fault) h i = tt
two-kind row g each left right (Err fault) n h i = tt

pub binary-kind : (w : ValueFault) (op : BinaryOp) (m n : Quantity) → IsOfSort (rows.unit_of_two op m.unit n.unit) (settled w (combined op m n))
binary-kind w Plus m n = same-unit-kind w (same_unit m.unit n.unit) m.unit (plus m.amount n.amount)
binary-kind w Minus m n = same-unit-kind w (same_unit m.unit n.unit) m.unit (minus m.amount n.amount)
binary-kind w Times m n = settled-kind w (product m.unit n.unit) (times m.amount n.amount)
binary-kind w Over m n = settled-kind w (quotient m.unit n.unit) (over m.amount n.amount)
binary-kind w Modulo m n = same-unit-kind w (same_unit m.unit n.unit) m.unit (modulo m.amount n.amount)

-- comparisons are flags
flag-sort : (r : SortOutcome) (s : Sort) → rows.as_flag r ≡ Ok s → Flag ≡ s
flag-sort (Ok t) s e = cc
flag-sort (Err cause) s e = absurd (cc)

compare-flag : (op : CompareOp) (s t z : Sort) → rows.compare_sort op s t ≡ Ok z → Flag ≡ z
compare-flag Equal s t z e = flag-sort (rows.one_sort s t) z e
compare-flag NotEqual s t z e = flag-sort (rows.one_sort s t) z e
compare-flag Less s t z e = flag-sort (rows.binary_sort Minus s t) z e
compare-flag LessOrEqual s t z e = flag-sort (rows.binary_sort Minus s t) z e
compare-flag Greater s t z e = flag-sort (rows.binary_sort Minus s t) z e
compare-flag GreaterOrEqual s t z e = flag-sort (rows.binary_sort Minus s t) z e

compared-flag : (op : CompareOp) (left right : SortOutcome) (z : Sort) → on_two (rows.compare_sort op) left right ≡ Ok z → Flag ≡ z
compared-flag op (Ok s) (Ok t) z e = compare-flag op s t z e
compared-flag op (Ok s) (Err cause) z e = absurd (cc)
compared-flag op (Err cause) right z e = absurd (cc)

pub compare-kind : (op : CompareOp) (left right : SortOutcome) (holds : Result Bool ValueFault) → IsOfSort (on_two (rows.compare_sort op) left right) (as_flag holds)
compare-kind op left right (Ok b) = λ s e. compared-flag op left right s e
compare-kind op left right (Err fault) = tt

-- both arms of a conditional have its sort
same-unit-left : (b : Bool) (u : List ℤ) (z : Sort) → cond b (Ok (Number u)) (Err UnitMismatch) ≡ Ok z → Number u ≡ z
same-unit-left true u z e = cc
same-unit-left false u z e = absurd (cc)

same-unit-right : (u v : List ℤ) (b : Bool) → same_unit u v ≡ b → (z : Sort) → cond b (Ok (Number u)) (Err UnitMismatch) ≡ Ok z → Number v ≡ z
same-unit-right u v true is z e = let same = (signed_items u v).0 is in cc
same-unit-right u v false is z e = absurd (cc)

left-sort : (s t z : Sort) → rows.one_sort s t ≡ Ok z → s ≡ z
left-sort (Number u) (Number v) z e = same-unit-left (same_unit u v) u z e
left-sort Flag Flag z e = cc
left-sort Text Text z e = cc
left-sort (Number u) Flag z e = absurd (cc)
left-sort (Number u) Text z e = absurd (cc)
left-sort Flag (Number v) z e = absurd (cc)
left-sort Flag Text z e = absurd (cc)
left-sort Text (Number v) z e = absurd (cc)
left-sort Text Flag z e = absurd (cc)

right-sort : (s t z : Sort) → rows.one_sort s t ≡ Ok z → t ≡ z
right-sort (Number u) (Number v) z e = same-unit-right u v (same_unit u v) refl z e
right-sort Flag Flag z e = cc
right-sort Text Text z e = cc
right-sort (Number u) Flag z e = absurd (cc)
right-sort (Number u) Text z e = absurd (cc)
right-sort Flag (Number v) z e = absurd (cc)
right-sort Flag Text z e = absurd (cc)
right-sort Text (Number v) z e = absurd (cc)
right-sort Text Flag z e = absurd (cc)

-- what a conditional's sort tells of its parts
pub record ChosenSorts (c a b : SortOutcome) (z : Sort) : Type 0 where
  pub condition : c ≡ Ok Flag
  pub left : a ≡ Ok z
  pub right : b ≡ Ok z

pub conditional-sorts : (c a b : SortOutcome) (z : Sort) → on_three rows.conditional_sort c a b ≡ Ok z → ChosenSorts c a b z
conditional-sorts (Ok Flag) (Ok s) (Ok t) z e = let l = left-sort s t z e in let r = right-sort s t z e in record { condition = refl; left = cc; right = cc }
conditional-sorts (Ok (Number u)) (Ok s) (Ok t) z e = absurd (cc)
conditional-sorts (Ok Text) (Ok s) (Ok t) z e = absurd (cc)
conditional-sorts (Ok c) (Ok s) (Err cause) z e = absurd (cc)
conditional-sorts (Ok c) (Err cause) b z e = absurd (cc)
conditional-sorts (Err cause) a b z e = absurd (cc)

pub chosen-kind : (c a b : SortOutcome) (flag : Result Bool ValueFault) (x y : Outcome) → IsOfSort a x → IsOfSort b y → IsOfSort (on_three rows.conditional_sort c a b) (chosen flag x y)
chosen-kind c a b (Ok true) x y h i = weaker (on_three rows.conditional_sort c a b) a x (λ s e. (conditional-sorts c a b s e).left) h
chosen-kind c a b (Ok false) x y h i = weaker (on_three rows.conditional_sort c a b) b y (λ s e. (conditional-sorts c a b s e).right) i
chosen-kind c a b (Err fault) x y h i = tt
