-- The order in which the slots of a valid document are worked out.
use Rattle.std.proofs.Common.{◌≡◌, ◌⊎◌, inl, inr, ℕ, zero, suc, ◌+◌, ◌<◌, ◌^◌, Bool, true, false, cond, List, [], ◌∷◌, map, length, drop, get_or, set, replicate, Some, None, refl, sym, ◌∙◌, ap, subst, arith}
use Rattle.std.specs.Prelude.{Option, IsSome, is_some, slice_index_or, slice_get, filter, Vec, unwrap_or}
use Rattle.std.specs.List.{filter_map, cons_option}
use Rattle.std.specs.Option.{option_map_or}
use Rattle.std.proofs.Math.Seq.{drop-cons, drop-length}
use Rattle.std.proofs.lemmas.List.{get_or-set_same, get_or-set_other}
use Rattle.std.proofs.lemmas.Option.{slice_get_within}
use Rattle.fc_base.specs.Graph.{IsIn, Reaches, direct, onward, IsOrdered}
use Rattle.fc_base.specs.declared.ids.SlotId.{SlotId}
use Rattle.object_paths.specs.Slots.{Slot}
use Rattle.document_model.specs.Dependencies.{deps}
use Rattle.document_model.specs.Slots.{slots}
use Rattle.document_outcomes.specs.Cycles.{OrdersSlots}
use Rattle.document_outcomes.specs.Faults.{IsValid}
use Rattle.document_outcomes.proofs.CycleLemmas.{no_cycle-acyclic}
use Rattle.document_outcomes.proofs.FaultLemmas.{valid-no_cycle}
use Rattle.doc_tables.specs.Accessors.{AreNumbersOf}
use Rattle.doc_tables.specs.DependencyLists.{list_at, AreDependencyLists}
use Rattle.doc_tables.specs.Numbered.{Numbered, IsNumbered, slot_at}
use Rattle.doc_tables.proofs.NumberLemmas.{from_mapped, to_mapped, at_number-within, slot_at-once, listed-dep, reaches_itself-by_number}
use Rattle.doc_tables.proofs.OrderLemmas.{slots-ordered, all_slots-listed}
use Rattle.dependency_order.specs.Nodes.{inputs_of, AreNodes, OrdersAll, HasCycle}
use Rattle.recompute.specs.Order.{TellsUse, MarksAll, OrdersNumbers}
use Rattle.recompute.proofs.KeptLemmas.{some_value, same_or_not, IsIn-at, slot-of_document}

-- two tests that pass together are one
same_test : (a b : Bool) → (a ≡ true → b ≡ true) → (b ≡ true → a ≡ true) → a ≡ b
same_test true b there back = sym (there refl)
same_test false true there back = back refl
same_test false false there back = refl

module _ (t : Numbered) (numbered : IsNumbered t) where
  -- the marks of all slots tell which numbers are in use
  pub marks-tell : (ids : List SlotId) (marks : List Bool) → AreNumbersOf t ids (slots t.document) → MarksAll ids marks → TellsUse t marks
  marks-tell ids marks listed marked = λ n.
      same_test (slice_index_or marks n false) (is_some (slot_at t n))
      (λ h.
      let m = marked.only n h in
      let f = from_mapped (λ (id : SlotId). slot_at t id.0) ids (slots t.document) listed m.0 m.1 in
      ap is_some (ap (slot_at t) m.2 ∙ f.1))
      (λ h.
      let v = some_value (slot_at t n) h in
      let f = to_mapped (λ (id : SlotId). slot_at t id.0) ids (slots t.document) listed v.0 (slot-of_document t numbered n v.0 v.1) in
      let id : SlotId = f.0 in
      subst (λ (k : ℕ). slice_index_or marks k false ≡ true) (slot_at-once t numbered id.0 n v.0 f.1 v.1) (marked.all id f.2))

  -- the numbers of slots are below the limit
  pub listed-below : (ids : List SlotId) → AreNumbersOf t ids (slots t.document) → (id : SlotId) → IsIn id ids → id.0 < length t.slots
  listed-below ids listed id i =
      let f = from_mapped (λ (id : SlotId). slot_at t id.0) ids (slots t.document) listed id i in
      at_number-within t.slots id.0 f.0 f.1

-- the lists of vectors, read by number
inputs-listed : {A : Type 0} (inputs : List (Vec ℕ A)) (n : ℕ) → inputs_of inputs n ≡ list_at (map (λ (v : Vec ℕ A). v.items) inputs) n
unfolding inputs_of
inputs-listed [] n = refl
inputs-listed (v ∷ vs) zero = refl
inputs-listed (v ∷ vs) (suc n) = inputs-listed vs n

length-mapped : {A B : Type 0} (f : A → B) (xs : List A) → length (map f xs) ≡ length xs
length-mapped f [] = refl
length-mapped f (x ∷ xs) = ap suc (length-mapped f xs)

-- what reaches something has an edge
first_edge : {S : Type 0} (g : S → List S) {a b : S} → Reaches g a b → (c : S) × IsIn c (g a)
first_edge g {a} {b} (direct i) = (b, i)
first_edge g (onward r i) = first_edge g r

module _ {A : Type 0} (t : Numbered) (numbered : IsNumbered t) (inputs : List (Vec ℕ A)) (listed : AreDependencyLists t (map (λ (v : Vec ℕ A). v.items) inputs)) where
  abbrev lists : List (List ℕ)
  lists = map (λ (v : Vec ℕ A). v.items) inputs

  same_lists : inputs_of inputs ≡ list_at lists
  same_lists = λ i n. inputs-listed inputs n i

  sized : length inputs ≡ length t.slots
  sized = sym (length-mapped (λ (v : Vec ℕ A). v.items) inputs) ∙ listed.count

  -- a number that lists something is in use
  lister-used : (n d : ℕ) → IsIn d (list_at lists n) → IsSome (slot_at t n)
  lister-used n d i =
      elim (slot_at t n) as (λ (q : Option Slot). slot_at t n ≡ q → IsSome q) [
        | Some s ↦ λ e. refl
        | None ↦ λ e. absurd (nothing e)
      ] refl
    where
      empty : slot_at t n ≡ None → n < length lists → list_at lists n ≡ []
      empty e below =
          let h : map (slot_at t) (list_at lists n) ≡ [] = listed.each n below ∙ ap (λ (q : Option Slot). map Some (option_map_or (deps t.document) q [])) e in
          elim (list_at lists n) as (λ (q : List ℕ). map (slot_at t) q ≡ [] → q ≡ []) [ [] ↦ λ k. refl | x ∷ xs ↦ λ k. absurd (cc) ] h

      nothing : slot_at t n ≡ None → ⊥
      nothing e = elim (slice_get lists n) as (λ (q : Option (List ℕ)). slice_get lists n ≡ q → IsIn d (unwrap_or q []) → ⊥) [
        | None ↦ λ h j. j
        | Some xs ↦ λ h j. subst (λ (q : List ℕ). IsIn d q) (empty e (slice_get_within lists n xs h)) i
      ] refl i

  pub lists-nodes : length t.slots < 2 ^ 32 → AreNodes inputs
  lists-nodes few = record {
    few = omega (arith, sized);
    inside = λ n d i.
        let j : IsIn d (list_at lists n) = subst (λ (q : List ℕ). IsIn d q) (inputs-listed inputs n) i in
        let s = some_value (slot_at t n) (lister-used n d j) in
        let f = listed-dep t numbered lists listed n d s.0 s.1 j in
        let below : d < length t.slots = at_number-within t.slots d f.0 f.1 in
        omega (arith, sized);
  }

  -- a valid document has no cycle of numbers
  pub lists-acyclic : IsValid t.document → HasCycle inputs → ⊥
  lists-acyclic valid cycle =
      let n : ℕ = cycle.0 in
      let r : Reaches (list_at lists) n n = subst (λ (g : ℕ → List ℕ). Reaches g n n) same_lists cycle.2 in
      let f = first_edge (list_at lists) r in
      let s = some_value (slot_at t n) (lister-used n f.0 f.1) in
      no_cycle-acyclic t.document (valid-no_cycle t.document valid) s.0 (slot-of_document t numbered n s.0 s.1)
      ((reaches_itself-by_number t numbered lists listed n s.0 s.1).0 r)

  -- the slots of those that are in use are all of the order's
  used-filtered : (used : List Bool) → TellsUse t used → (order : List ℕ) → filter_map (slot_at t) (filter (λ n. slice_index_or used n false) order) ≡ filter_map (slot_at t) order
  used-filtered used tells [] = refl
  used-filtered used tells (n ∷ order) =
      let rest : List ℕ = filter (λ n. slice_index_or used n false) order in
      elim (slot_at t n) as (λ (q : Option Slot). slot_at t n ≡ q → filter_map (slot_at t) (cond (slice_index_or used n false) (n ∷ rest) rest) ≡ cons_option q (filter_map (slot_at t) order)) [
        | None ↦ λ e.
            ap (λ (b : Bool). filter_map (slot_at t) (cond b (n ∷ rest) rest)) (tells n ∙ ap is_some e) ∙ used-filtered used tells order
        | Some s ↦ λ e.
            ap (λ (b : Bool). filter_map (slot_at t) (cond b (n ∷ rest) rest)) (tells n ∙ ap is_some e)
            ∙ ap (λ (q : Option Slot). cons_option q (filter_map (slot_at t) rest)) e
            ∙ ap (λ (q : List Slot). s ∷ q) (used-filtered used tells order)
      ] refl

  filtered-passes : (p : ℕ → Bool) (order : List ℕ) (n : ℕ) → IsIn n (filter p order) → p n ≡ true
  filtered-passes p [] n i = absurd i
  filtered-passes p (x ∷ order) n i =
      elim (p x) as (λ (b : Bool). p x ≡ b → IsIn n (cond b (x ∷ filter p order) (filter p order)) → p n ≡ true) [
        | true ↦ λ e. elim [ inl h ↦ subst (λ (k : ℕ). p k ≡ true) (sym h) e | inr j ↦ filtered-passes p order n j ]
        | false ↦ λ e j. filtered-passes p order n j
      ] refl i

  passes-filtered : (p : ℕ → Bool) (order : List ℕ) (n : ℕ) → IsIn n order → p n ≡ true → IsIn n (filter p order)
  passes-filtered p [] n i h = absurd i
  passes-filtered p (x ∷ order) n i h =
      elim (p x) as (λ (b : Bool). p x ≡ b → IsIn n (cond b (x ∷ filter p order) (filter p order))) [
        | true ↦ λ e. elim i [ inl k ↦ inl k | inr j ↦ inr (passes-filtered p order n j h) ]
        | false ↦ λ e. elim i [ inl k ↦ absurd (let g : p n ≡ false = subst (λ (k : ℕ). p k ≡ false) (sym k) e in cc) | inr j ↦ passes-filtered p order n j h ]
      ] refl

  -- the numbers in use, in an order of all numbers
  pub used-ordered :
      (used : List Bool) (order : List ℕ) → TellsUse t used → OrdersAll inputs order → OrdersNumbers t (filter (λ n. slice_index_or used n false) order)
  used-ordered used order tells ordered =
      let all : (n : ℕ) → n < length t.slots → IsIn n order = λ n below. ordered.all n (omega (arith, sized)) in
      record {
        used = λ n i. sym (tells n) ∙ filtered-passes (λ n. slice_index_or used n false) order n i;
        all = λ n h.
            let s = some_value (slot_at t n) h in
            passes-filtered (λ n. slice_index_or used n false) order n (all n (at_number-within t.slots n s.0 s.1)) (tells n ∙ h);
        ordered = subst (OrdersSlots t.document) (sym (used-filtered used tells order))
            (record {
              ordered = slots-ordered t numbered lists listed order (subst (λ (g : ℕ → List ℕ). IsOrdered g [] order) same_lists ordered.ordered);
              all = all_slots-listed t numbered order all;
            });
      }

-- What is marked once some are.
pub record IsMarking (slots : List SlotId) (done : ℕ) (marks : List Bool) : Type 0 where
  pub all : (id : SlotId) → IsIn id slots → IsIn id (drop done slots) ⊎ (slice_index_or marks id.0 false ≡ true)
  pub only : (n : ℕ) → slice_index_or marks n false ≡ true → (id : SlotId) × IsIn id slots × (n ≡ id.0)

pub marking-first : (slots : List SlotId) (count : ℕ) → IsMarking slots 0 (replicate count false)
marking-first slots count = record {
  all = λ id i. inl i;
  only = λ n h. absurd (let no : get_or (replicate count false) n false ≡ false = get_or-replicate-same count n in cc);
}
  where
    get_or-replicate-same : (count n : ℕ) → get_or (replicate count false) n false ≡ false
    get_or-replicate-same zero n = refl
    get_or-replicate-same (suc count) zero = refl
    get_or-replicate-same (suc count) (suc n) = get_or-replicate-same count n

pub marking-next :
    (slots : List SlotId) (done : ℕ) (marks : List Bool) (none : SlotId) → IsMarking slots done marks → done < length slots
    → (get_or slots done none).0 < length marks → IsMarking slots (done + 1) (set marks (get_or slots done none).0 true)
marking-next slots done marks none marking more within =
    let id : SlotId = get_or slots done none in
    let split : drop done slots ≡ id ∷ drop (done + 1) slots = drop-cons slots done none more ∙ ap (λ (k : ℕ). id ∷ drop k slots) (let e : suc done ≡ done + 1 = omega arith in e) in
    record {
      all = λ q i. elim (marking.all q i) [
        | inl j ↦ elim (subst (λ (all : List SlotId). IsIn q all) split j) [
          | inl h ↦ inr (subst (λ (p : SlotId). get_or (set marks id.0 true) p.0 false ≡ true) (sym h) (get_or-set_same marks id.0 true false within))
          | inr k ↦ inl k
        ]
        | inr h ↦ inr (kept q.0 h)
      ];
      only = λ n h. elim (same_or_not n id.0) [
        | inl e ↦ (id, IsIn-at slots done none more, e)
        | inr apart ↦ marking.only n (sym (get_or-set_other marks id.0 n true false apart) ∙ h)
      ];
    }
  where
    kept : (n : ℕ) → get_or marks n false ≡ true → get_or (set marks (get_or slots done none).0 true) n false ≡ true
    kept n h = elim (same_or_not n (get_or slots done none).0) [
      | inl e ↦ subst (λ (k : ℕ). get_or (set marks (get_or slots done none).0 true) k false ≡ true) (sym e) (get_or-set_same marks (get_or slots done none).0 true false within)
      | inr apart ↦ get_or-set_other marks (get_or slots done none).0 n true false apart ∙ h
    ]

pub marking-done : (slots : List SlotId) (marks : List Bool) → IsMarking slots (length slots) marks → MarksAll slots marks
marking-done slots marks marking = record {
  all = λ id i. elim (marking.all id i) [ inl j ↦ absurd (subst (λ (q : List SlotId). IsIn id q) (drop-length slots) j) | inr h ↦ h ];
  only = marking.only;
}
