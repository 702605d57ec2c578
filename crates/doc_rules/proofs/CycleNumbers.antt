-- Cycles and orders of slots by their numbers.
use Rattle.std.proofs.Common.{◌≡◌, ◌↔◌, inl, inr, ℕ, zero, suc, ◌^◌, ◌<◌, Bool, true, false, List, [], ◌∷◌, map, length, Some, None, refl, sym, ◌∙◌, ap, subst, arith}
use Rattle.std.specs.Prelude.{Option, IsSome, IsTrue, MatchOption, Vec, Ok, find}
use Rattle.std.specs.List.{filter_map}
use Rattle.std.specs.Option.{option_map, option_and_then, option_map_or}
use Rattle.fc_base.specs.Graph.{IsIn, IsOrdered, Reaches, direct, onward}
use Rattle.object_paths.specs.Slots.{Slot}
use Rattle.dependency_order.specs.Nodes.{inputs_of, AreNodes, HasCycle, IsOrderOf, OrdersAll}
use Rattle.document_model.specs.Dependencies.{deps}
use Rattle.document_model.specs.Slots.{slots}
use Rattle.doc_tables.specs.Accessors.{deps_at}
use Rattle.doc_tables.specs.DependencyLists.{list_at, AreDependencyLists}
use Rattle.doc_tables.specs.Numbered.{Numbered, IsNumbered, slot_at, number_of}
use Rattle.doc_tables.proofs.NumberLemmas.{from_mapped, at_number-within, reaches_itself-by_number}
use Rattle.doc_tables.proofs.OrderLemmas.{slots-ordered, all_slots-listed}
use Rattle.document_outcomes.specs.Cycles.{is_cyclic, HasNoCycle}
use Rattle.document_outcomes.specs.Faults.{Fault, cycle_faults, slot_fault}
use Rattle.document_outcomes.specs.RefusalNumbers.{cycle}
use Rattle.document_outcomes.proofs.CycleLemmas.{cyclic-reaches, reaches-cyclic}
use Rattle.document_outcomes.proofs.OrderLemmas.{ordered-no_cycle}
use Rattle.document_outcomes.proofs.SearchLemmas.{find-none, map_none, none-find, none_map}
use Rattle.doc_rules.specs.Found.{MeetsFault}
use Rattle.doc_rules.specs.SortTables.{OrdersNumbers}

-- the inputs of a node are the list of its number
inputs-listed : {A : Type 0} (lists : List (Vec ℕ A)) (n : ℕ) → inputs_of lists n ≡ list_at (map (λ (v : Vec ℕ A). v.items) lists) n
unfolding inputs_of
inputs-listed [] n = refl
inputs-listed (v ∷ vs) zero = refl
inputs-listed (v ∷ vs) (suc n) = inputs-listed vs n

length-mapped : {A B : Type 0} (f : A → B) (xs : List A) → length (map f xs) ≡ length xs
length-mapped f [] = refl
length-mapped f (x ∷ xs) = ap suc (length-mapped f xs)

module _ {A : Type 0} (t : Numbered) (lists : List (Vec ℕ A)) (listed : AreDependencyLists t (map (λ (v : Vec ℕ A). v.items) lists)) where
  abbrev numbers : List (List ℕ)
  numbers = map (λ (v : Vec ℕ A). v.items) lists

  sized : length lists ≡ length t.slots
  sized = sym (length-mapped (λ (v : Vec ℕ A). v.items) lists) ∙ listed.count

  -- past the last number nothing is listed
  listed-below : (n d : ℕ) → IsIn d (list_at numbers n) → n < length numbers
  listed-below n d i = below numbers n i where
    below : (ls : List (List ℕ)) (k : ℕ) → IsIn d (list_at ls k) → k < length ls
    below [] k j = absurd j
    below (l ∷ ls) zero j = omega arith
    below (l ∷ ls) (suc k) j = let later = below ls k j in omega arith

  -- what has dependencies is a slot, and they are slots
  listed-slot : (n d : ℕ) → IsIn d (list_at numbers n) → (u : Slot) × (slot_at t d ≡ Some u)
  listed-slot n d i =
      let m = from_mapped (slot_at t) (list_at numbers n) (deps_at t n) (listed.each n (listed-below n d i)) d i in
      (m.0, m.1)

  listing-slot : (n d : ℕ) → IsIn d (list_at numbers n) → (s : Slot) × (slot_at t n ≡ Some s)
  listing-slot n d i =
      elim (slot_at t n) as (λ (o : Option Slot). slot_at t n ≡ o → map (slot_at t) (list_at numbers n) ≡ map Some (option_map_or (deps t.document) o []) → (s : Slot) × (slot_at t n ≡ Some s)) [
        | None ↦ λ e all. let m = from_mapped (slot_at t) (list_at numbers n) [] all d i in absurd m.2
        | Some s ↦ λ e all. (s, e)
      ] refl (listed.each n (listed-below n d i))

  -- dependency lists are nodes
  pub listed-nodes : length t.slots < 2 ^ 32 → AreNodes lists
  listed-nodes few = record {
    few = subst (λ (n : ℕ). n < 2 ^ 32) (sym sized) few;
    inside = λ n d i.
        let u = listed-slot n d (subst (λ (l : List ℕ). IsIn d l) (inputs-listed lists n) i) in
        subst (λ (k : ℕ). d < k) (sym sized) (at_number-within t.slots d u.0 u.1);
  }

  as_numbers : inputs_of lists ≡ list_at numbers
  as_numbers = λ i n. inputs-listed lists n i

  -- the number of a slot is that of a node
  pub slot-node : (n : ℕ) (s : Slot) → slot_at t n ≡ Some s → n < length lists
  slot-node n s e = subst (λ (k : ℕ). n < k) (sym sized) (at_number-within t.slots n s e)

  module _ (numbered : IsNumbered t) where
    in_document : (n : ℕ) (s : Slot) → slot_at t n ≡ Some s → IsIn s (slots t.document)
    in_document n s e =
        let number : number_of t s ≡ Some n = (numbered.slot_numbers n s).0 e in
        (numbered.all_slots s).1 (rw number refl)

    -- a number reaches itself exactly where its slot is cyclic
    cyclic-number : (n : ℕ) (s : Slot) → slot_at t n ≡ Some s → Reaches (inputs_of lists) n n ↔ (is_cyclic t.document s ≡ true)
    cyclic-number n s e =
        let same = reaches_itself-by_number t numbered numbers listed n s e in (
          λ r. reaches-cyclic t.document s (in_document n s e) (same.0 (subst (λ (g : ℕ → List ℕ). Reaches g n n) as_numbers r)),
          λ h. subst (λ (g : ℕ → List ℕ). Reaches g n n) (sym as_numbers) (same.1 (cyclic-reaches t.document s h)),
        )

    of_bools : (a b : Bool) → (a ≡ true → b ≡ true) → (b ≡ true → a ≡ true) → b ≡ a
    of_bools true b f g = f refl
    of_bools false true f g = sym (g refl)
    of_bools false false f g = refl

    -- the test of a number is the test of its slot
    pub cyclic-told :
        (n : ℕ) (s : Slot) (found : Bool) → slot_at t n ≡ Some s → IsTrue found ↔ Reaches (inputs_of lists) n n
        → option_map (is_cyclic t.document) (slot_at t n) ≡ Some found
    cyclic-told n s found e told =
        let by = cyclic-number n s e in
        ap (option_map (is_cyclic t.document)) e
        ∙ ap Some (of_bools found (is_cyclic t.document s) (λ h. by.0 (told.0 h)) (λ h. told.1 (by.1 h)))

    -- a number that reaches something is that of a slot
    reaching-slot : {n m : ℕ} → Reaches (list_at numbers) n m → (s : Slot) × (slot_at t n ≡ Some s)
    reaching-slot {n} {m} (direct i) = listing-slot n m i
    reaching-slot (onward r i) = reaching-slot r

    -- where a number reaches itself, the document has a cycle
    pub cycle-found : HasCycle lists → IsSome (cycle_faults t.document)
    cycle-found ring =
        let s = reaching-slot (subst (λ (g : ℕ → List ℕ). Reaches g ring.0 ring.0) as_numbers ring.2) in
        let yes = (cyclic-number ring.0 s.0 s.1).0 ring.2 in
        elim (cycle_faults t.document) as (λ (o : Option Fault). cycle_faults t.document ≡ o → IsSome o) [
          | None ↦ λ e.
              let none = map_none (slot_fault cycle) (find (is_cyclic t.document) (slots t.document)) e in
              let no = find-none (is_cyclic t.document) (slots t.document) none s.0 (in_document ring.0 s.0 s.1) in
              absurd (cc)
          | Some f ↦ λ e. refl
        ] refl

    -- an order of the numbers is one of the slots
    pub numbers-ordered : (order : List ℕ) → OrdersAll lists order → OrdersNumbers t order
    numbers-ordered order all = record {
      slots = record {
        ordered = slots-ordered t numbered numbers listed order (subst (λ (g : ℕ → List ℕ). IsOrdered g [] order) as_numbers all.ordered);
        all = all_slots-listed t numbered order (λ n lt. all.all n (subst (λ (k : ℕ). n < k) (sym sized) lt));
      };
      inside = λ n i. subst (λ (k : ℕ). n < k) sized (all.only n i);
    }

    -- what an order of the nodes is, and that there is none, by slots
    pub order-told :
        {B : Type 0} (found : Option (Vec ℕ B)) → IsOrderOf lists found
        → MatchOption found (IsSome (cycle_faults t.document)) (λ (order : Vec ℕ B). OrdersNumbers t order.items)
    order-told None cycle = cycle-found cycle
    order-told (Some order) all = numbers-ordered order.items all

-- where the slots stand in an order there is no cycle
pub ordered-no_fault : (t : Numbered) (order : List ℕ) → OrdersNumbers t order → cycle_faults t.document ≡ None
ordered-no_fault t order ordered =
    none_map (slot_fault cycle) (find (is_cyclic t.document) (slots t.document))
    (none-find (is_cyclic t.document) (slots t.document)
    (ordered-no_cycle t.document (filter_map (slot_at t) order) ordered.slots.ordered ordered.slots.all))

-- a document with a cycle is not found without one
pub no_cycle-missed : (found : Option Fault) (done : Unit {0}) → IsSome found → MeetsFault found (Ok done) → ⊥
no_cycle-missed None done some told = absurd (cc)
no_cycle-missed (Some f) done some told = told
