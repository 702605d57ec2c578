-- What stands under a number, and the dependencies of slots by their numbers.
use Rattle.std.proofs.Common.{◌≡◌, ◌↔◌, inl, inr, ℕ, ◌<◌, List, [], ◌∷◌, map, length, Some, None, refl, sym, ◌∙◌, ap, subst}
use Rattle.std.specs.Prelude.{Option, true, is_some, slice_get, IsTrue}
use Rattle.std.specs.Option.{option_map_or}
use Rattle.std.proofs.lemmas.Option.{slice_get_within}
use Rattle.fc_base.specs.Graph.{IsIn, Reaches, direct, onward}
use Rattle.object_paths.specs.Slots.{Slot}
use Rattle.document_model.specs.Dependencies.{deps}
use Rattle.document_model.proofs.Members.{and_then_some}
use Rattle.doc_tables.specs.DependencyLists.{list_at, AreDependencyLists}
use Rattle.doc_tables.specs.Numbered.{Numbered, IsNumbered, at_number, slot_at, number_of}

module _ {A B : Type 0} where
  -- of two lists of which one is the other as a function has it, each member of one has one in the other
  pub from_mapped :
      (f : A → Option B) (xs : List A) (ys : List B) → map f xs ≡ map Some ys → (x : A) → IsIn x xs → (y : B) × (f x ≡ Some y) × IsIn y ys
  from_mapped f [] ys e x i = absurd i
  from_mapped f (z ∷ xs) [] e x i = absurd (cc)
  from_mapped f (z ∷ xs) (y ∷ ys) e x (inl h) =
      let head : f z ≡ Some y = cc in
      (y, ap f h ∙ head, inl refl)
  from_mapped f (z ∷ xs) (y ∷ ys) e x (inr i) =
      let tail : map f xs ≡ map Some ys = cc in
      let m = from_mapped f xs ys tail x i in
      (m.0, m.1, inr m.2)

  pub to_mapped :
      (f : A → Option B) (xs : List A) (ys : List B) → map f xs ≡ map Some ys → (y : B) → IsIn y ys → (x : A) × (f x ≡ Some y) × IsIn x xs
  to_mapped f xs [] e y i = absurd i
  to_mapped f [] (z ∷ ys) e y i = absurd (cc)
  to_mapped f (x ∷ xs) (z ∷ ys) e y (inl h) =
      let head : f x ≡ Some z = cc in
      (x, head ∙ ap Some (sym h), inl refl)
  to_mapped f (x ∷ xs) (z ∷ ys) e y (inr i) =
      let tail : map f xs ≡ map Some ys = cc in
      let m = to_mapped f xs ys tail y i in
      (m.0, m.1, inr m.2)

-- a number with something under it is below the length
pub at_number-within : {A : Type 0} (things : List (Option A)) (n : ℕ) (x : A) → at_number things n ≡ Some x → n < length things
at_number-within {A} things n x h =
    let m = and_then_some (λ (q : Option A). q) (slice_get things n) x h in
    slice_get_within things n m.0 m.1

module _ (t : Numbered) (numbered : IsNumbered t) where
  -- a slot has one number
  pub slot_at-once : (n m : ℕ) (s : Slot) → slot_at t n ≡ Some s → slot_at t m ≡ Some s → n ≡ m
  slot_at-once n m s e h =
      let a : number_of t s ≡ Some n = (numbered.slot_numbers n s).0 e in
      let b : number_of t s ≡ Some m = (numbered.slot_numbers m s).0 h in
      cc

  -- each slot of the document has a number
  pub number_of_slot : (s : Slot) → IsTrue (is_some (number_of t s)) → (n : ℕ) × (slot_at t n ≡ Some s)
  number_of_slot s h =
      elim (number_of t s) as (λ (o : Option ℕ). number_of t s ≡ o → is_some o ≡ true → (n : ℕ) × (slot_at t n ≡ Some s)) [
        | None ↦ λ e k. absurd (cc)
        | Some n ↦ λ e k. (n, (numbered.slot_numbers n s).1 e)
      ] refl h

  module _ (lists : List (List ℕ)) (listed : AreDependencyLists t lists) where
    -- the numbers of the dependencies of a slot
    deps_listed : (n : ℕ) (s : Slot) → slot_at t n ≡ Some s → map (slot_at t) (list_at lists n) ≡ map Some (deps t.document s)
    deps_listed n s e =
        let within : n < length t.slots = at_number-within t.slots n s e in
        let below : n < length lists = subst (λ (k : ℕ). n < k) (sym listed.count) within in
        listed.each n below ∙ ap (λ (o : Option Slot). map Some (option_map_or (deps t.document) o [])) e

    -- what is listed for a number is the number of a dependency of its slot
    pub listed-dep : (n m : ℕ) (s : Slot) → slot_at t n ≡ Some s → IsIn m (list_at lists n) → (u : Slot) × (slot_at t m ≡ Some u) × IsIn u (deps t.document s)
    listed-dep n m s e i = from_mapped (slot_at t) (list_at lists n) (deps t.document s) (deps_listed n s e) m i

    -- each dependency of the slot of a number is listed by its number
    pub dep-listed : (n : ℕ) (s u : Slot) → slot_at t n ≡ Some s → IsIn u (deps t.document s) → (m : ℕ) × (slot_at t m ≡ Some u) × IsIn m (list_at lists n)
    dep-listed n s u e i = to_mapped (slot_at t) (list_at lists n) (deps t.document s) (deps_listed n s e) u i

    -- what a number reaches is the number of what its slot reaches
    pub number-reaches : (s : Slot) {n m : ℕ} → Reaches (list_at lists) n m → slot_at t n ≡ Some s → (u : Slot) × (slot_at t m ≡ Some u) × Reaches (deps t.document) s u
    number-reaches s {n} {m} (direct i) e = let r = listed-dep n m s e i in (r.0, r.1, direct r.2)
    number-reaches s {n} {m} (onward {t = k} r i) e =
        let a = number-reaches s r e in
        let b = listed-dep k m a.0 a.1 i in
        (b.0, b.1, onward a.2 b.2)

    -- what a slot reaches has a number that its number reaches
    pub slot-reaches : (n : ℕ) {s u : Slot} → Reaches (deps t.document) s u → slot_at t n ≡ Some s → (m : ℕ) × (slot_at t m ≡ Some u) × Reaches (list_at lists) n m
    slot-reaches n {s} {u} (direct i) e = let r = dep-listed n s u e i in (r.0, r.1, direct r.2)
    slot-reaches n {s} {u} (onward {t = q} r i) e =
        let a = slot-reaches n r e in
        let b = dep-listed a.0 q u a.1 i in
        (b.0, b.1, onward a.2 b.2)

    -- a number reaches another where its slot reaches the other's
    pub reaches-by_number : (n m : ℕ) (s u : Slot) → slot_at t n ≡ Some s → slot_at t m ≡ Some u → Reaches (list_at lists) n m ↔ Reaches (deps t.document) s u
    reaches-by_number n m s u e h = (
      λ r.
          let a = number-reaches s r e in
          let same : a.0 ≡ u = (let same_some : Some a.0 ≡ Some u = sym a.1 ∙ h in cc) in
          subst (λ (q : Slot). Reaches (deps t.document) s q) same a.2,
      λ r.
          let a = slot-reaches n r e in
          subst (λ (k : ℕ). Reaches (list_at lists) n k) (slot_at-once a.0 m u a.1 h) a.2,
    )

    -- a number reaches itself where its slot does
    pub reaches_itself-by_number : (n : ℕ) (s : Slot) → slot_at t n ≡ Some s → Reaches (list_at lists) n n ↔ Reaches (deps t.document) s s
    reaches_itself-by_number n s e = reaches-by_number n n s s e e
