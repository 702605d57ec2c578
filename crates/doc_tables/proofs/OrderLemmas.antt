-- Orders of numbers and orders of slots.
use Rattle.std.proofs.Common.{◌≡◌, inl, inr, ℕ, ◌<◌, List, [], ◌∷◌, length, Some, None, refl, sym, subst}
use Rattle.std.specs.Prelude.{Option}
use Rattle.std.specs.List.{filter_map, cons_option}
use Rattle.fc_base.specs.Graph.{IsIn, IsOrdered}
use Rattle.object_paths.specs.Slots.{Slot}
use Rattle.document_model.specs.Dependencies.{deps}
use Rattle.document_model.specs.Slots.{slots}
use Rattle.document_model.proofs.Members.{from_filter_map}
use Rattle.doc_tables.specs.DependencyLists.{list_at, AreDependencyLists}
use Rattle.doc_tables.specs.Numbered.{Numbered, IsNumbered, slot_at}
use Rattle.doc_tables.proofs.NumberLemmas.{at_number-within, slot_at-once, number_of_slot, dep-listed}

-- what the function gives of a member stands among what it gives
pub IsIn-filter_map : {A B : Type 0} (f : A → Option B) (xs : List A) (x : A) (y : B) → IsIn x xs → f x ≡ Some y → IsIn y (filter_map f xs)
IsIn-filter_map f [] x y i e = absurd i
IsIn-filter_map {A} {B} f (z ∷ xs) x y i e =
    elim (f z) as (λ (o : Option B). f z ≡ o → IsIn y (cons_option o (filter_map f xs))) [
      | None ↦ λ h. elim i [
        | inl j ↦ absurd (let no : f x ≡ None = subst (λ (q : A). f q ≡ None) (sym j) h in cc)
        | inr j ↦ IsIn-filter_map f xs x y j e
      ]
      | Some v ↦ λ h. elim i [
        | inl j ↦ inl (let yes : f x ≡ Some v = subst (λ (q : A). f q ≡ Some v) (sym j) h in cc)
        | inr j ↦ inr (IsIn-filter_map f xs x y j e)
      ]
    ] refl

module _ (t : Numbered) (numbered : IsNumbered t) (lists : List (List ℕ)) (listed : AreDependencyLists t lists) where
  -- of the numbers in order those in use give their slots in order
  slots-ordered_behind :
      (order seen : List ℕ) → IsOrdered (list_at lists) seen order
      → IsOrdered (deps t.document) (filter_map (slot_at t) seen) (filter_map (slot_at t) order)
  slots-ordered_behind [] seen ordered = tt
  slots-ordered_behind (n ∷ order) seen ordered =
      elim (slot_at t n) as (λ (o : Option Slot). slot_at t n ≡ o
      → IsOrdered (deps t.document) (cons_option o (filter_map (slot_at t) seen)) (filter_map (slot_at t) order)
      → IsOrdered (deps t.document) (filter_map (slot_at t) seen) (cons_option o (filter_map (slot_at t) order))) [
        | None ↦ λ e rest. rest
        | Some s ↦ λ e rest. (
          λ u i.
              let m = dep-listed t numbered lists listed n s u e i in
              IsIn-filter_map (slot_at t) seen m.0 u (ordered.0 m.0 m.2) m.1,
          λ i.
              let m = from_filter_map (slot_at t) seen s i in
              ordered.1 (subst (λ (k : ℕ). IsIn k seen) (slot_at-once t numbered m.0 n s m.2 e) m.1),
          rest,
        )
      ] refl (slots-ordered_behind order (n ∷ seen) ordered.2)

  pub slots-ordered : (order : List ℕ) → IsOrdered (list_at lists) [] order → IsOrdered (deps t.document) [] (filter_map (slot_at t) order)
  slots-ordered order ordered = slots-ordered_behind order [] ordered

module _ (t : Numbered) (numbered : IsNumbered t) where
  -- where all numbers stand in a list, all slots stand among the slots of the list
  pub all_slots-listed :
      (order : List ℕ) → ((n : ℕ) → n < length t.slots → IsIn n order) → (s : Slot) → IsIn s (slots t.document) → IsIn s (filter_map (slot_at t) order)
  all_slots-listed order all s i =
      let m = number_of_slot t numbered s ((numbered.all_slots s).0 i) in
      IsIn-filter_map (slot_at t) order m.0 s (all m.0 (at_number-within t.slots m.0 s m.1)) m.1
