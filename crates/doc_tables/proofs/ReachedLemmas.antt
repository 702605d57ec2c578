-- What was worked out for all references is what they name.
use Rattle.std.proofs.Common.{◌≡◌, ◌+◌, ◌<◌, ℕ, cond, List, [], ◌∷◌, map, count_by, length, slice_get, sum_by, Option, Some, None, IfSome, IsSome, is_some, Vec, Global, refl, sym, ap, subst, ◌∙◌, arith}
use Rattle.std.specs.List.{flat_map}
use Rattle.std.specs.Option.{option_and_then, option_map_or}
use Rattle.std.proofs.lemmas.Bool.{false≢true}
use Rattle.std.proofs.lemmas.List.{length-map}
use Rattle.std.proofs.lemmas.List.Sums.{sum_by-cons}
use Rattle.fc_base.specs.declared.ids.SlotId.{SlotId}
use Rattle.object_paths.specs.Slots.{Slot}
use Rattle.document_model.specs.Counts.{dependencies_of_document}
use Rattle.document_model.specs.Dependencies.{deps}
use Rattle.document_model.specs.Slots.{slots}
use Rattle.doc_tables.specs.declared.tables.Tables.TheInside.{Inside}
use Rattle.doc_tables.specs.Accessors.{AreNumbersOf, AreReached, deps_at, reached_at}
use Rattle.doc_tables.specs.DependencyLists.{list_at}
use Rattle.doc_tables.specs.Entries.{numbers_in, present}
use Rattle.doc_tables.specs.Held.{numbered_held, IsHeld}
use Rattle.doc_tables.specs.Numbered.{Numbered, slot_at}
use Rattle.doc_tables.specs.Reached.{AreAllReached, lists_of, dependencies_in_objects, dependencies_in_properties}
use Rattle.doc_tables.proofs.CountLemmas.{sum_by-flat_map, sum_by-map, sum_by-same}
use Rattle.doc_tables.proofs.DependencyLemmas.{deps-read}
use Rattle.doc_tables.proofs.HeldLemmas.{Named, Owned, numbers-held}
use Rattle.doc_tables.proofs.NumberLemmas.{at_number-within}

-- a number in use is one of the list
pub used-below : (t : Numbered) (n : ℕ) → IsSome (slot_at t n) → n < length t.slots
used-below t n used = of (slot_at t n) refl used
  where
    of : (x : Option Slot) → slot_at t n ≡ x → IsSome x → n < length t.slots
    of None is h = absurd (false≢true h)
    of (Some s) is h = at_number-within t.slots n s is

-- those that are there are as many as are counted
counted-present : {A : Type 0} (all : List (Option A)) → count_by is_some all ≡ length (present all)
counted-present [] = refl
counted-present {A} (None ∷ all) = let first = sum_by-cons (λ (x : Option A). cond (is_some x) 1 0) None all in omega (arith, first, counted-present all)
counted-present {A} (Some y ∷ all) = let first = sum_by-cons (λ (x : Option A). cond (is_some x) 1 0) (Some y) all in omega (arith, first, counted-present all)

-- with equal counts number by number the sums are equal
sums-numbered : (t : Numbered) (f : ℕ → ℕ) (g : Slot → ℕ) → ((n : ℕ) (s : Slot) → slot_at t n ≡ Some s → f n ≡ g s)
    → (ids : List SlotId) (all : List Slot) → AreNumbersOf t ids all → sum_by (λ (id : SlotId). f id.0) ids ≡ sum_by g all
sums-numbered t f g same [] [] h = refl
sums-numbered t f g same [] (s ∷ all) h = absurd (cc)
sums-numbered t f g same (id ∷ ids) [] h = absurd (cc)
sums-numbered t f g same (id ∷ ids) (s ∷ all) h =
    let here : slot_at t id.0 ≡ Some s = cc in
    let rest = sums-numbered t f g same ids all (cc) in
    sum_by-cons (λ (i : SlotId). f i.0) id ids ∙ (λ j. same id.0 s here j + rest j) ∙ sym (sum_by-cons g s all)

length-numbers : (t : Numbered) (ids : List SlotId) (all : List Slot) → AreNumbersOf t ids all → length ids ≡ length all
length-numbers t ids all h =
    sym (length-map ids (λ (id : SlotId). slot_at t id.0)) ∙ ap (length {A = Option Slot}) h ∙ length-map all (λ (s : Slot). Some s)

module _ (v : Numbered) (t : Inside) (held : IsHeld t) (is : numbered_held t ≡ v) (lists : Vec (Vec (Option SlotId) Global) Global) (known : t.reached ≡ Some lists) where
  -- what was worked out is what the references name
  pub reached-known : AreAllReached v (lists_of lists.items)
  reached-known =
      subst (λ (w : Numbered). AreAllReached w (lists_of lists.items)) is
      (subst (λ (x : Option (Vec (Vec (Option SlotId) Global) Global)). IfSome x (λ ls. AreAllReached (numbered_held t) (lists_of ls.items))) known held.reached)

  counted-at : (n : ℕ) (s : Slot) → slot_at v n ≡ Some s → count_by is_some (list_at (lists_of lists.items) n) ≡ length (deps v.document s)
  counted-at n s here =
      let used : IsSome (slot_at v n) = ap is_some here in
      counted-present (list_at (lists_of lists.items) n)
      ∙ length-numbers v (present (list_at (lists_of lists.items) n)) (deps_at v n) (deps-read v t held is n used (list_at (lists_of lists.items) n) (reached-known n used))
      ∙ ap (λ (x : Option Slot). length (option_map_or (deps v.document) x [])) here

  -- and as many of them lead to a slot as there are dependencies
  pub reached-counted : dependencies_in_objects (lists_of lists.items) t.objects.entries ≡ dependencies_of_document v.document
  reached-counted =
      let count : SlotId → ℕ = λ id. count_by is_some (list_at (lists_of lists.items) id.0) in
      sum_by-same (λ (o : Owned). dependencies_in_properties (lists_of lists.items) o.1.properties.entries) (λ (o : Owned). sum_by count (numbers_in o)) t.objects.entries
      (λ o. sym (sum_by-map count (λ (e : Named). e.1.slot) o.1.properties.entries))
      ∙ sym (sum_by-flat_map count numbers_in t.objects.entries)
      ∙ sums-numbered v (λ n. count_by is_some (list_at (lists_of lists.items) n)) (λ s. length (deps v.document s)) counted-at
      (flat_map numbers_in t.objects.entries) (slots v.document) (numbers-held v t held is)
