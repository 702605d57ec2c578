-- What is kept once all slots are worked out.
use Rattle.std.proofs.Common.{◌≡◌, inl, inr, ◌+◌, Bool, cond, List, [], ◌∷◌, map, length, Some, None, refl, sym, ◌∙◌, ap}
use Rattle.std.specs.Prelude.{Option, Err, count_by, filter, not, unwrap_or}
use Rattle.std.specs.List.{filter_map, cons_option, list_any}
use Rattle.std.specs.Option.{option_and_then, option_map}
use Rattle.std.specs.Result.{is_err}
use Rattle.std.proofs.lemmas.List.Sums.{sum_by-cons}
use Rattle.fc_base.specs.Graph.{IsIn}
use Rattle.fc_base.specs.declared.ids.SlotId.{SlotId}
use Rattle.object_paths.specs.Slots.{Slot}
use Rattle.property_types.specs.declared.value.ValueFault.TheVariants.{Range}
use Rattle.property_types.specs.Values.{Outcome}
use Rattle.property_types.specs.Plans.{Slots}
use Rattle.document_model.specs.declared.kind.ObjectKind.{ObjectKind}
use Rattle.document_model.specs.declared.kind.ObjectKind.TheVariants.{VarSet}
use Rattle.document_model.specs.Document.{Document, Object}
use Rattle.document_model.specs.Ends.{end_from, end_along, plan_of_kind, plan_behind}
use Rattle.document_model.specs.Slots.{slots}
use Rattle.document_outcomes.specs.Called.{Entry, entry_of, input_lists, called, same_entry}
use Rattle.document_outcomes.specs.Full.{Meanings, full}
use Rattle.doc_tables.specs.Accessors.{AreNumbersOf}
use Rattle.doc_tables.specs.Numbered.{Numbered, IsNumbered, slot_at}
use Rattle.doc_tables.specs.VarSets.{IsVarSet, HoldsVarSets}
use Rattle.doc_tables.proofs.NumberLemmas.{number_of_slot}
use Rattle.doc_tables.proofs.VarSetLemmas.{of_all}
use Rattle.recompute.specs.Kept.{AreFull, AreLast, faults_of, kept_at, kept_for}
use Rattle.recompute.proofs.KeptLemmas.{kept_for-number}

module _ (t : Numbered) (numbered : IsNumbered t) (values : List (Option Outcome)) where
  -- what is kept for a slot of the document is its full outcome
  pub kept-full : (m : Meanings) → AreFull m t values → (s : Slot) → IsIn s (slots t.document) → kept_for t values s ≡ full m t.document s
  kept-full m full_kept s here =
      let n = number_of_slot t numbered s ((numbered.all_slots s).0 here) in
      sym (kept_for-number t numbered values n.0 s n.1)
      ∙ ap (λ (o : Option Outcome). unwrap_or o (Err Range)) (full_kept n.0 ∙ ap (option_map (full m t.document)) n.1)

-- two tests that agree on a list count the same
count_by-agreed : {A : Type 0} (p q : A → Bool) (xs : List A) → ((x : A) → IsIn x xs → p x ≡ q x) → count_by p xs ≡ count_by q xs
count_by-agreed p q [] same = refl
count_by-agreed p q (x ∷ xs) same =
    sum_by-cons (λ y. cond (p y) 1 0) x xs
    ∙ (λ i. cond (same x (inl refl) i) 1 0 + count_by-agreed p q xs (λ y j. same y (inr j)) i)
    ∙ sym (sum_by-cons (λ y. cond (q y) 1 0) x xs)

-- two tests that agree on two lists in parallel count the same
count_by-parallel :
    {A B : Type 0} (f : A → Option B) (p : A → Bool) (q : B → Bool) (xs : List A) (ys : List B) → map f xs ≡ map Some ys
    → ((x : A) (y : B) → f x ≡ Some y → p x ≡ q y) → count_by p xs ≡ count_by q ys
count_by-parallel f p q [] [] e same = refl
count_by-parallel f p q [] (y ∷ ys) e same = absurd (cc)
count_by-parallel f p q (x ∷ xs) [] e same = absurd (cc)
count_by-parallel f p q (x ∷ xs) (y ∷ ys) e same =
    let head : f x ≡ Some y = cc in
    let tail : map f xs ≡ map Some ys = cc in
    sum_by-cons (λ z. cond (p z) 1 0) x xs
    ∙ (λ i. cond (same x y head i) 1 0 + count_by-parallel f p q xs ys tail same i)
    ∙ sym (sum_by-cons (λ z. cond (q z) 1 0) y ys)

module _ (t : Numbered) (numbered : IsNumbered t) (values : List (Option Outcome)) where
  -- the faults are counted by numbers
  pub faults-listed :
      (ids : List SlotId) → AreNumbersOf t ids (slots t.document)
      → count_by (λ (id : SlotId). is_err (kept_at values id.0)) ids ≡ count_by (λ s. is_err (kept_for t values s)) (slots t.document)
  faults-listed ids listed =
      count_by-parallel (λ (id : SlotId). slot_at t id.0) (λ id. is_err (kept_at values id.0)) (λ s. is_err (kept_for t values s)) ids (slots t.document) listed
      (λ id s e. ap is_err (kept_for-number t numbered values id.0 s e))

  pub faults-full : (m : Meanings) → AreFull m t values → count_by (λ s. is_err (kept_for t values s)) (slots t.document) ≡ faults_of m t.document
  faults-full m full_kept =
      count_by-agreed (λ s. is_err (kept_for t values s)) (λ s. is_err (full m t.document s)) (slots t.document)
      (λ s here. ap is_err (kept-full t numbered values m full_kept s here))

-- nothing is worked out for VarSets by features
filter_map-none : {A B : Type 0} (f : A → Option B) (xs : List A) → ((x : A) → IsIn x xs → f x ≡ None) → filter_map f xs ≡ []
filter_map-none f [] none = refl
filter_map-none {A} {B} f (x ∷ xs) none =
    ap (λ (q : Option B). cons_option q (filter_map f xs)) (none x (inl refl)) ∙ filter_map-none f xs (λ y i. none y (inr i))

module _ (d : Document) (holds : HoldsVarSets d) where
  plan-none : (o : Object) → IsIn o d.objects → plan_behind d o ≡ None
  plan-none o here =
      let set : IsVarSet o = of_all IsVarSet d.objects o holds.objects here in
      let kind : o.kind ≡ VarSet = ap (λ (q : Object). q.kind) set.object in
      ap (λ (k : ObjectKind). option_and_then (λ (e : Object). plan_of_kind e.kind) (end_from (end_along d (length d.objects)) o k)) kind ∙ ap plan_of_kind kind

  pub inputs-none : (m : Meanings) → input_lists m d ≡ []
  unfolding input_lists
  inputs-none m = filter_map-none (entry_of m d) d.objects (λ o here. entry-none o (plan_behind d o) (plan-none o here))
    where
      entry-none : (o : Object) (q : Option Slots) → plan_behind d o ≡ None → entry_of m d o ≡ None
      entry-none o q e = rw e refl

  -- no feature is called
  pub called-none : (m : Meanings) (last : List Entry) → 0 ≡ length (called m last d)
  unfolding called
  called-none m last = ap (λ (es : List Entry). length (filter (λ e. not (list_any (same_entry e) last)) es)) (sym (inputs-none m))

  -- and no input list is kept
  pub last-none : (m : Meanings) → AreLast m d []
  last-none m = record { entries = sym (inputs-none m); outputs = λ g i. absurd i }
