-- What is kept behind a step of working out: the full outcomes of the slots that are done.
use Rattle.std.proofs.Common.{◌≡◌, ◌⊎◌, inl, inr, ℕ, zero, suc, ◌+◌, ◌<◌, List, [], ◌∷◌, length, take, get_or, set, Some, None, refl, sym, ◌∙◌, ap, subst, arith}
use Rattle.std.specs.Prelude.{Option, IsSome, is_some, slice_get, Err, unwrap_or, replicate}
use Rattle.std.specs.List.{filter_map, cons_option}
use Rattle.std.specs.Option.{option_map, option_map_or, option_and_then}
use Rattle.std.proofs.Math.Seq.{take-length}
use Rattle.fc_base.specs.Graph.{IsIn, IsOrdered}
use Rattle.object_paths.specs.Slots.{Slot}
use Rattle.property_types.specs.declared.value.ValueFault.TheVariants.{Range}
use Rattle.property_types.specs.Values.{Outcome}
use Rattle.document_model.specs.Dependencies.{deps}
use Rattle.document_model.specs.Slots.{slots}
use Rattle.document_outcomes.specs.Cycles.{HasNoCycle}
use Rattle.document_outcomes.specs.Full.{Meanings, full}
use Rattle.document_outcomes.proofs.FullLemmas.{full-fixpoint}
use Rattle.document_outcomes.proofs.OrderLemmas.{ordered-no_cycle}
use Rattle.document_outcomes.proofs.OutcomeLemmas.{local-reads}
use Rattle.doc_tables.specs.Numbered.{Numbered, IsNumbered, at_number, slot_at}
use Rattle.recompute.specs.Evaluated.{visits, visits_with}
use Rattle.recompute.specs.Kept.{AreFull, kept_at, kept_for, IsGiven}
use Rattle.recompute.specs.Order.{OrdersNumbers}
use Rattle.recompute.specs.Steps.{visits_kept, visits_at}
use Rattle.recompute.proofs.VisitLemmas.{visits-read}

slice_get-set_same : {A : Type 0} (xs : List A) (i : ℕ) (x : A) → i < length xs → slice_get (set xs i x) i ≡ Some x
slice_get-set_same [] i x lt = absurd (omega arith)
slice_get-set_same (y ∷ xs) zero x lt = refl
slice_get-set_same (y ∷ xs) (suc i) x lt = slice_get-set_same xs i x (omega arith)

slice_get-set_other : {A : Type 0} (xs : List A) (i j : ℕ) (x : A) → (j ≡ i → ⊥) → slice_get (set xs i x) j ≡ slice_get xs j
slice_get-set_other [] i j x other = refl
slice_get-set_other (y ∷ xs) zero zero x other = absurd (other refl)
slice_get-set_other (y ∷ xs) zero (suc j) x other = refl
slice_get-set_other (y ∷ xs) (suc i) zero x other = refl
slice_get-set_other (y ∷ xs) (suc i) (suc j) x other = slice_get-set_other xs i j x (λ e. other (ap suc e))

module _ {A : Type 0} (values : List (Option A)) (n : ℕ) (x : A) where
  pub at_number-set_same : n < length values → at_number (set values n (Some x)) n ≡ Some x
  at_number-set_same lt = ap (option_and_then (λ (o : Option A). o)) (slice_get-set_same values n (Some x) lt)

  pub at_number-set_other : (k : ℕ) → (k ≡ n → ⊥) → at_number (set values n (Some x)) k ≡ at_number values k
  at_number-set_other k other = ap (option_and_then (λ (o : Option A). o)) (slice_get-set_other values n k (Some x) other)

-- nothing stands in an empty place
pub at_number-replicate : {A : Type 0} (count n : ℕ) → at_number {A = A} (replicate count None) n ≡ None
at_number-replicate zero n = refl
at_number-replicate (suc count) zero = refl
at_number-replicate (suc count) (suc n) = at_number-replicate count n

-- what is there is some value
pub some_value : {A : Type 0} (o : Option A) → IsSome o → (x : A) × (o ≡ Some x)
some_value None h = absurd (cc)
some_value (Some x) h = (x, refl)

pub some_there : {A : Type 0} (o : Option A) (x : A) → o ≡ Some x → IsSome o
some_there o x e = ap is_some e

pub same_or_not : (k n : ℕ) → (k ≡ n) ⊎ (k ≡ n → ⊥)
same_or_not zero zero = inl refl
same_or_not zero (suc n) = inr (λ e. absurd (omega arith))
same_or_not (suc k) zero = inr (λ e. absurd (omega arith))
same_or_not (suc k) (suc n) = elim (same_or_not k n) [ inl e ↦ inl (ap suc e) | inr apart ↦ inr (λ e. apart (omega arith)) ]

pub IsIn-at : {S : Type 0} (xs : List S) (i : ℕ) (d : S) → i < length xs → IsIn (get_or xs i d) xs
IsIn-at [] i d lt = absurd (omega arith)
IsIn-at (y ∷ xs) zero d lt = inl refl
IsIn-at (y ∷ xs) (suc i) d lt = inr (IsIn-at xs i d (omega arith))

-- what stands among one more is that one, or stood there before
among-more : {S : Type 0} (xs : List S) (i : ℕ) (d x : S) → i < length xs → IsIn x (take (i + 1) xs) → IsIn x (take i xs) ⊎ (x ≡ get_or xs i d)
among-more {S} xs i d x more here = by_place xs i more (subst (λ (k : ℕ). IsIn x (take k xs)) (let e : i + 1 ≡ suc i = omega arith in e) here)
  where
    by_place : (xs : List S) (i : ℕ) → i < length xs → IsIn x (take (suc i) xs) → IsIn x (take i xs) ⊎ (x ≡ get_or xs i d)
    by_place [] i more here = absurd (omega arith)
    by_place (y ∷ ys) zero more (inl e) = inr e
    by_place (y ∷ ys) zero more (inr j) = absurd j
    by_place (y ∷ ys) (suc i) more (inl e) = inl (inl e)
    by_place (y ∷ ys) (suc i) more (inr j) = elim (by_place ys i (omega arith) j) [ inl k ↦ inl (inr k) | inr e ↦ inr e ]

-- what a thing in an order depends on stands before it
module _ {S : Type 0} (g : S → List S) (f : ℕ → Option S) where
  abbrev IsBefore : List S → List ℕ → ℕ → S → Type 0
  IsBefore seen order i x = IsIn x seen ⊎ ((k : ℕ) × IsIn k (take i order) × (f k ≡ Some x))

  before-next : (y : S) (seen : List S) (n : ℕ) (order : List ℕ) (i : ℕ) (x : S) → f n ≡ Some y → IsBefore (y ∷ seen) order i x → IsBefore seen (n ∷ order) (suc i) x
  before-next y seen n order i x at (inl (inl e)) = inr (n, inl refl, at ∙ ap Some (sym e))
  before-next y seen n order i x at (inl (inr j)) = inl j
  before-next y seen n order i x at (inr b) = inr (b.0, inr b.1, b.2)

  before-skip : (seen : List S) (n : ℕ) (order : List ℕ) (i : ℕ) (x : S) → IsBefore seen order i x → IsBefore seen (n ∷ order) (suc i) x
  before-skip seen n order i x (inl j) = inl j
  before-skip seen n order i x (inr b) = inr (b.0, inr b.1, b.2)

  deps-before :
      (seen : List S) (order : List ℕ) (i : ℕ) (s : S) → IsOrdered g seen (filter_map f order) → i < length order → f (get_or order i 0) ≡ Some s
      → (x : S) → IsIn x (g s) → IsBefore seen order i x
  deps-before seen [] i s ordered more at x here = absurd (omega arith)
  deps-before seen (n ∷ order) zero s ordered more at x here =
      let split : filter_map f (n ∷ order) ≡ s ∷ filter_map f order = ap (λ (q : Option S). cons_option q (filter_map f order)) at in
      let first = subst (IsOrdered g seen) split ordered in
      inl (first.0 x here)
  deps-before seen (n ∷ order) (suc i) s ordered more at x here =
      elim (f n) as (λ (q : Option S). f n ≡ q → IsOrdered g seen (cons_option q (filter_map f order)) → IsBefore seen (n ∷ order) (suc i) x) [
        | None ↦ λ e next. before-skip seen n order i x (deps-before seen order i s next (omega arith) at x here)
        | Some y ↦ λ e next. before-next y seen n order i x e (deps-before (y ∷ seen) order i s next.2 (omega arith) at x here)
      ] refl ordered

-- The slots of the numbers before a place have their full outcomes, and nothing is kept for a number
-- that is not in the order.
pub record IsWorking (m : Meanings) (t : Numbered) (order : List ℕ) (done : ℕ) (values : List (Option Outcome)) : Type 0 where
  pub has : (n : ℕ) (s : Slot) → IsIn n (take done order) → slot_at t n ≡ Some s → at_number values n ≡ Some (full m t.document s)
  pub only : (n : ℕ) → IsSome (at_number values n) → IsIn n order

-- nothing is kept at first
pub working-first : (m : Meanings) (t : Numbered) (order : List ℕ) (values : List (Option Outcome)) → ((n : ℕ) → at_number values n ≡ None) → IsWorking m t order 0 values
working-first m t order values empty = record {
  has = λ n s i. absurd i;
  only = λ n h. absurd (let none = empty n in let some = some_value (at_number values n) h in let e = some.1 in cc);
}

-- a slot with a number is one of the document
pub slot-of_document : (t : Numbered) → IsNumbered t → (n : ℕ) (s : Slot) → slot_at t n ≡ Some s → IsIn s (slots t.document)
slot-of_document t numbered n s at = (numbered.all_slots s).1 (ap is_some ((numbered.slot_numbers n s).0 at))

module _ (t : Numbered) (numbered : IsNumbered t) (values : List (Option Outcome)) where
  -- what is kept for a slot is kept for its number
  pub kept_for-number : (n : ℕ) (s : Slot) → slot_at t n ≡ Some s → kept_at values n ≡ kept_for t values s
  kept_for-number n s at = sym (ap (λ (q : Option ℕ). option_map_or (kept_at values) q (Err Range)) ((numbered.slot_numbers n s).0 at))

module _ (m : Meanings) (t : Numbered) (numbered : IsNumbered t) (order : List ℕ) (ordered : OrdersNumbers t order) (values : List (Option Outcome)) where
  -- no slot depends on itself, since they stand in an order
  no_cycle : HasNoCycle t.document
  no_cycle = ordered-no_cycle t.document (filter_map (slot_at t) order) ordered.ordered.ordered ordered.ordered.all

  module _ (done : ℕ) (s : Slot) (working : IsWorking m t order done values) (more : done < length order) (at : slot_at t (get_or order done 0) ≡ Some s) where
    -- what the next slot depends on is kept in full
    deps-kept : (x : Slot) → IsIn x (deps t.document s) → kept_for t values x ≡ full m t.document x
    deps-kept x here = elim (deps-before (deps t.document) (slot_at t) [] order done s ordered.ordered.ordered more at x here) [
      | inl j ↦ absurd j
      | inr b ↦
          sym (kept_for-number t numbered values b.0 x b.2)
          ∙ ap (λ (o : Option Outcome). unwrap_or o (Err Range)) (working.has b.0 x b.1 b.2)
    ]

    -- so what is given to it is its full outcome
    pub given-full : (given : Outcome) → IsGiven m t values (get_or order done 0) given → given ≡ full m t.document s
    given-full given is_given =
        is_given s at
        ∙ local-reads m t.document s (kept_for t values) (full m t.document) deps-kept
        ∙ sym (full-fixpoint t.document no_cycle m s (slot-of_document t numbered (get_or order done 0) s at))

    -- and as many nodes are visited as for the full outcomes
    pub visits-full : visits_kept t values (get_or order done 0) ≡ visits_at m t (get_or order done 0)
    visits-full =
        ap (λ (q : Option Slot). option_map_or (visits_with (kept_for t values) t.document) q 0) at
        ∙ visits-read t.document s (kept_for t values) (full m t.document) deps-kept
        ∙ sym (ap (λ (q : Option Slot). option_map_or (visits m t.document) q 0) at)

    module _ (given : Outcome) (within : get_or order done 0 < length values) (is_given : IsGiven m t values (get_or order done 0) given) where
      abbrev n : ℕ
      n = get_or order done 0

      abbrev after : List (Option Outcome)
      after = set values n (Some given)

      -- at the number itself
      has-here : (k : ℕ) (u : Slot) → slot_at t k ≡ Some u → k ≡ n → at_number after k ≡ Some (full m t.document u)
      has-here k u e same =
          let one : Some s ≡ Some u = sym at ∙ ap (slot_at t) (sym same) ∙ e in
          let slot : s ≡ u = cc in
          ap (at_number after) same ∙ at_number-set_same values n given within ∙ ap Some (given-full given is_given ∙ ap (full m t.document) slot)

      has-after : (k : ℕ) (u : Slot) → slot_at t k ≡ Some u → (k ≡ n) ⊎ (k ≡ n → ⊥) → IsIn k (take done order) ⊎ (k ≡ n) → at_number after k ≡ Some (full m t.document u)
      has-after k u e (inl same) i = has-here k u e same
      has-after k u e (inr apart) (inl i) = at_number-set_other values n given k apart ∙ working.has k u i e
      has-after k u e (inr apart) (inr same) = has-here k u e same

      only-after : (k : ℕ) → IsSome (at_number after k) → IsIn k order
      only-after k h = elim (same_or_not k n) [
        | inl e ↦ subst (λ (q : ℕ). IsIn q order) (sym e) (IsIn-at order done 0 more)
        | inr apart ↦ working.only k (subst (λ (q : Option Outcome). IsSome q) (at_number-set_other values n given k apart) h)
      ]

      pub working-next : IsWorking m t order (done + 1) after
      working-next = record { has = λ k u i e. has-after k u e (same_or_not k n) (among-more order done 0 k more i); only = only-after }

  -- at the end the outcomes are full
  pub working-done : IsWorking m t order (length order) values → AreFull m t values
  working-done working n =
      elim (slot_at t n) as (λ (q : Option Slot). slot_at t n ≡ q → at_number values n ≡ option_map (full m t.document) q) [
        | None ↦ λ e.
            elim (at_number values n) as (λ (o : Option Outcome). at_number values n ≡ o → o ≡ None) [
              | None ↦ λ h. refl
              | Some x ↦ λ h. absurd (
                  let used : IsSome (slot_at t n) = ordered.used n (working.only n (ap is_some h)) in
                  let no = ap is_some e in
                  cc)
            ] refl
        | Some s ↦ λ e. working.has n s (subst (λ (q : List ℕ). IsIn n q) (sym (take-length order)) (ordered.all n (ap is_some e))) e
      ] refl
