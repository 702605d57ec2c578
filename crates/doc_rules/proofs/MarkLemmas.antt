-- Marks of the numbers that are those of slots.
use Rattle.std.proofs.Common.{◌≡◌, ◌≢◌, inl, inr, ℕ, zero, suc, ◌+◌, ◌<◌, ◌≤◌, Bool, true, false, nat_eq, List, [], ◌∷◌, set, get_or, length, Some, None, refl, sym, ◌∙◌, ap, subst, arith, below_more, length-set, get_or-set_same, get_or-set_other}
use Rattle.std.specs.Prelude.{Option, IsSome, is_some, slice_get}
use Rattle.std.proofs.lemmas.Bool.Decides.{Decides-eqb}
use Rattle.std.proofs.lemmas.Option.{slice_get-get_or, slice_get_within}
use Rattle.fc_base.specs.Graph.{IsIn}
use Rattle.fc_base.specs.declared.ids.SlotId.{SlotId}
use Rattle.object_paths.specs.Slots.{Slot}
use Rattle.document_model.specs.Slots.{slots}
use Rattle.doc_tables.specs.Accessors.{AreNumbersOf}
use Rattle.doc_tables.specs.Numbered.{Numbered, IsNumbered, slot_at, number_of}
use Rattle.doc_tables.proofs.NumberLemmas.{to_mapped, at_number-within, slot_at-once}
use Rattle.doc_rules.specs.SortTables.{MarksNumbers}
use Rattle.doc_rules.proofs.FirstLemmas.{slot_numbered, live_at}

-- The numbers of the first slots of a list are marked, and nothing else.
pub record MarksSome (t : Numbered) (ids : List SlotId) (k : ℕ) (marks : List Bool) : Type 0 where
  pub sized : length marks ≡ length t.slots
  pub marked : (n : ℕ) → get_or marks n false ≡ true → IsSome (slot_at t n)
  pub so_far : (j : ℕ) → j < k → (id : SlotId) → slice_get ids j ≡ Some id → get_or marks id.0 false ≡ true

-- what stands in a list stands at a place
place-in : {A : Type 0} (xs : List A) (x : A) → IsIn x xs → (j : ℕ) × (slice_get xs j ≡ Some x)
place-in [] x i = absurd i
place-in (y ∷ ys) x (inl e) = (0, ap Some (sym e))
place-in (y ∷ ys) x (inr i) = let m = place-in ys x i in (suc m.0, m.1)

pub IsIn-get_or : {A : Type 0} (xs : List A) (k : ℕ) (d : A) → k < length xs → IsIn (get_or xs k d) xs
IsIn-get_or [] k d within = absurd (omega arith)
IsIn-get_or (x ∷ xs) zero d within = inl refl
IsIn-get_or (x ∷ xs) (suc k) d within = inr (IsIn-get_or xs k d (omega arith))

module _ (t : Numbered) (ids : List SlotId) (numbers : AreNumbersOf t ids (slots t.document)) where
  -- the number of a slot of the list has a mark
  pub within-marks : (k : ℕ) (d : SlotId) (marks : List Bool) → k < length ids → length marks ≡ length t.slots → (get_or ids k d).0 < length marks
  within-marks k d marks within sized =
      let m = slot_numbered t ids (slots t.document) numbers k (get_or ids k d) (slice_get-get_or ids k d within) in
      subst (λ (n : ℕ). (get_or ids k d).0 < n) (sym sized) (at_number-within t.slots (get_or ids k d).0 m.0 m.2)

  module _ (k : ℕ) (d : SlotId) (marks : List Bool) (within : k < length ids) (some : MarksSome t ids k marks) where
    abbrev id : SlotId
    id = get_or ids k d

    here : get_or (set marks id.0 true) id.0 false ≡ true
    here = get_or-set_same marks id.0 true false (within-marks k d marks within some.sized)

    still : (n : ℕ) → get_or marks n false ≡ true → get_or (set marks id.0 true) n false ≡ true
    still n h =
        elim (nat_eq n id.0) as (λ b. nat_eq n id.0 ≡ b → get_or (set marks id.0 true) n false ≡ true) [
          | true ↦ λ e. subst (λ (m : ℕ). get_or (set marks id.0 true) m false ≡ true) (sym ((Decides-eqb n id.0).0 e)) here
          | false ↦ λ e. get_or-set_other marks id.0 n true false (λ same. let yes = (Decides-eqb n id.0).1 same in cc) ∙ h
        ] refl

    only : (n : ℕ) → get_or (set marks id.0 true) n false ≡ true → IsSome (slot_at t n)
    only n h =
        elim (nat_eq n id.0) as (λ b. nat_eq n id.0 ≡ b → IsSome (slot_at t n)) [
          | true ↦ λ e. subst (λ (m : ℕ). IsSome (slot_at t m)) (sym ((Decides-eqb n id.0).0 e)) (live_at t ids (slots t.document) numbers k d within)
          | false ↦ λ e. some.marked n (sym (get_or-set_other marks id.0 n true false (λ same. let yes = (Decides-eqb n id.0).1 same in cc)) ∙ h)
        ] refl

    pub marks-more : MarksSome t ids (k + 1) (set marks id.0 true)
    marks-more = record {
      sized = length-set marks id.0 true ∙ some.sized;
      marked = only;
      so_far = below_more (λ j. (i : SlotId) → slice_get ids j ≡ Some i → get_or (set marks id.0 true) i.0 false ≡ true) k
          (λ j lt i e. still i.0 (some.so_far j lt i e))
          (λ i e.
          let same_some : Some id ≡ Some i = sym (slice_get-get_or ids k d within) ∙ e in
          let same : id ≡ i = cc in
          subst (λ (q : SlotId). get_or (set marks id.0 true) q.0 false ≡ true) same here);
    }

  pub all-marked : IsNumbered t → (k : ℕ) (marks : List Bool) → length ids ≤ k → MarksSome t ids k marks → MarksNumbers t marks
  all-marked numbered k marks past some = record {
    sized = some.sized;
    marked = some.marked;
    unmarked = λ n unset. none n unset (slot_at t n) refl;
  } where
    none : (n : ℕ) → get_or marks n false ≡ false → (o : Option Slot) → slot_at t n ≡ o → slot_at t n ≡ None
    none n unset None e = e
    none n unset (Some s) e =
        let number : number_of t s ≡ Some n = (numbered.slot_numbers n s).0 e in
        let in_document : IsIn s (slots t.document) = (numbered.all_slots s).1 (rw number refl) in
        let m = to_mapped (λ (i : SlotId). slot_at t i.0) ids (slots t.document) numbers s in_document in
        let same : (m.0).0 ≡ n = slot_at-once t numbered (m.0).0 n s m.1 e in
        let p = place-in ids m.0 m.2 in
        let yes : get_or marks (m.0).0 false ≡ true = some.so_far p.0 (let lt = slice_get_within ids p.0 m.0 p.1 in omega arith) m.0 p.1 in
        let at_n : get_or marks n false ≡ true = subst (λ (q : ℕ). get_or marks q false ≡ true) same yes in
        absurd (cc)
