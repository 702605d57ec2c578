-- How much there is to evaluate, slot by slot and in all.
use Rattle.std.proofs.Common.{◌≡◌, inl, inr, ℕ, ◌+◌, ◌-◌, ◌^◌, ◌≤◌, min, Bool, cond, List, [], ◌∷◌, length, Some, None, refl, sym, ◌∙◌, ap, subst, arith}
use Rattle.std.specs.Prelude.{Option, true, false, not, is_some, filter}
use Rattle.std.specs.List.{filter_map, cons_option, sum_by, IsDistinct}
use Rattle.std.specs.Option.{option_and_then, option_map_or}
use Rattle.std.proofs.lemmas.Bool.{and_parts}
use Rattle.std.proofs.lemmas.List.Sums.{sum_by-cons}
use Rattle.fc_base.specs.Graph.{IsIn, IsOrdered}
use Rattle.fc_base.proofs.GraphLemmas.{AllDifferent}
use Rattle.expr_tree.specs.Nodes.{node_count}
use Rattle.expr_tree.specs.Tree.{Tree}
use Rattle.object_paths.specs.Slots.{Slot, same_slot}
use Rattle.property_types.specs.Values.{Outcome}
use Rattle.document_model.specs.Counts.{nodes_of_document}
use Rattle.document_model.specs.Dependencies.{deps}
use Rattle.document_model.specs.Document.{Document}
use Rattle.document_model.specs.Slots.{slots, rule_of}
use Rattle.document_model.proofs.Members.{from_filter_map}
use Rattle.document_outcomes.specs.Full.{Meanings, full}
use Rattle.document_outcomes.proofs.SlotTests.{slot_equal}
use Rattle.doc_tables.proofs.VarSetLemmas.{of_all}
use Rattle.doc_tables.specs.Accessors.{tree_by}
use Rattle.doc_tables.specs.Numbered.{Numbered, IsNumbered, slot_at}
use Rattle.doc_tables.specs.VarSets.{HoldsVarSets}
use Rattle.recompute.specs.Evaluated.{Evaluated, expression_of, nodes_of, nodes_of_slots, visits, is_outcome, kept_of, is_stale, stale_slots, to_be_done}
use Rattle.recompute.specs.Order.{OrdersNumbers}
use Rattle.recompute.specs.Steps.{nodes_at, visits_at}
use Rattle.recompute.proofs.KeptLemmas.{slot-of_document}
use Rattle.recompute.proofs.VisitLemmas.{bound-visited, visits-within}

-- the list without the member at that place
without : {S : Type 0} (ys : List S) (x : S) → IsIn x ys → List S
without [] x i = absurd i
without (y ∷ ys) x (inl e) = ys
without (y ∷ ys) x (inr i) = y ∷ without ys x i

sum_by-without : {S : Type 0} (f : S → ℕ) (ys : List S) (x : S) (i : IsIn x ys) → sum_by f ys ≡ f x + sum_by f (without ys x i)
unfolding without
sum_by-without f [] x i = absurd i
sum_by-without f (y ∷ ys) x (inl e) = sum_by-cons f y ys ∙ ap (λ z. f z + sum_by f ys) (sym e)
sum_by-without f (y ∷ ys) x (inr i) =
    let rest = sum_by-without f ys x i in
    let one = sum_by-cons f y ys in
    let two = sum_by-cons f y (without ys x i) in
    omega arith

-- another member is still there
IsIn-without : {S : Type 0} (ys : List S) (x z : S) (i : IsIn x ys) → IsIn z ys → (z ≡ x → ⊥) → IsIn z (without ys x i)
unfolding without
IsIn-without [] x z i j n = absurd i
IsIn-without (y ∷ ys) x z (inl e) (inl f) n = absurd (n (f ∙ sym e))
IsIn-without (y ∷ ys) x z (inl e) (inr j) n = j
IsIn-without (y ∷ ys) x z (inr i) (inl f) n = inl f
IsIn-without (y ∷ ys) x z (inr i) (inr j) n = inr (IsIn-without ys x z i j n)

-- different members of a list sum up to no more than the list
sum_by-different-le : {S : Type 0} (f : S → ℕ) (xs ys : List S) → AllDifferent xs → ((x : S) → IsIn x xs → IsIn x ys) → sum_by f xs ≤ sum_by f ys
sum_by-different-le f [] ys different among = omega arith
sum_by-different-le {S} f (x ∷ xs) ys different among =
    let i : IsIn x ys = among x (inl refl) in
    let fewer : sum_by f xs ≤ sum_by f (without ys x i) =
    sum_by-different-le f xs (without ys x i) different.1
    (λ z j. IsIn-without ys x z i (among z (inr j)) (λ e. different.0 (subst (λ (q : S). IsIn q xs) e j))) in
    let one = sum_by-cons f x xs in
    let two = sum_by-without f ys x i in
    omega arith

-- what stands in an order is not among what stood before, and is different
ordered-new : {S : Type 0} (g : S → List S) (seen xs : List S) → IsOrdered g seen xs → (x : S) → IsIn x xs → IsIn x seen → ⊥
ordered-new g seen [] ordered x i = absurd i
ordered-new {S} g seen (y ∷ xs) ordered x (inl e) = λ j. ordered.1 (subst (λ (q : S). IsIn q seen) e j)
ordered-new g seen (y ∷ xs) ordered x (inr i) = λ j. ordered-new g (y ∷ seen) xs ordered.2 x i (inr j)

ordered-different : {S : Type 0} (g : S → List S) (seen xs : List S) → IsOrdered g seen xs → AllDifferent xs
ordered-different g seen [] ordered = tt
ordered-different g seen (x ∷ xs) ordered = ((λ i. ordered-new g (x ∷ seen) xs ordered.2 x i (inl refl)), ordered-different g (x ∷ seen) xs ordered.2)

-- what is summed up of all that the function gives
sum_by-filter_map :
    {A B : Type 0} (f : B → ℕ) (h : A → Option B) (xs : List A) → sum_by (λ x. option_map_or f (h x) 0) xs ≡ sum_by f (filter_map h xs)
sum_by-filter_map f h [] = refl
sum_by-filter_map {A} {B} f h (x ∷ xs) =
    sum_by-cons (λ y. option_map_or f (h y) 0) x xs
    ∙ (elim (h x) as (λ (o : Option B). option_map_or f o 0 + sum_by (λ y. option_map_or f (h y) 0) xs ≡ sum_by f (cons_option o (filter_map h xs))) [
      | None ↦ (let e = sum_by-filter_map f h xs in omega arith)
      | Some v ↦ ap (λ k. f v + k) (sum_by-filter_map f h xs) ∙ sym (sum_by-cons f v (filter_map h xs))
    ])

sum_by-same : {A : Type 0} (f g : A → ℕ) (xs : List A) → ((x : A) → f x ≡ g x) → sum_by f xs ≡ sum_by g xs
sum_by-same f g xs same = λ i. sum_by (λ x. same x i) xs

sum_by-le : {A : Type 0} (f g : A → ℕ) (xs : List A) → ((x : A) → f x ≤ g x) → sum_by f xs ≤ sum_by g xs
sum_by-le f g [] less = omega arith
sum_by-le f g (x ∷ xs) less =
    let here = less x in
    let others = sum_by-le f g xs less in
    let one = sum_by-cons f x xs in
    let two = sum_by-cons g x xs in
    omega arith

-- slots that no test finds alike are different
pub distinct-different : (xs : List Slot) → IsDistinct same_slot xs → AllDifferent xs
unfolding IsDistinct
distinct-different [] distinct = tt
distinct-different (x ∷ xs) distinct = (
  (λ i.
      let no : same_slot x x ≡ false = of_all (λ (y : Slot). same_slot x y ≡ false) xs x distinct.0 i in
      let yes : same_slot x x ≡ true = (slot_equal x x).1 refl in
      cc),
  distinct-different xs distinct.1,
)

-- each slot that passes has something
sum_by-filter-least : {S : Type 0} (p : S → Bool) (f : S → ℕ) (xs : List S) → ((x : S) → p x ≡ true → 1 ≤ f x) → length (filter p xs) ≤ sum_by f (filter p xs)
sum_by-filter-least p f [] least = omega arith
sum_by-filter-least {S} p f (x ∷ xs) least =
    elim (p x) as (λ (b : Bool). p x ≡ b → length (cond b (x ∷ filter p xs) (filter p xs)) ≤ sum_by f (cond b (x ∷ filter p xs) (filter p xs))) [
      | true ↦ λ e.
          let here = least x e in
          let others = sum_by-filter-least p f xs least in
          let one = sum_by-cons f x (filter p xs) in
          omega arith
      | false ↦ λ e. sum_by-filter-least p f xs least
    ] refl

-- what passes stands in the list
from_filter : {S : Type 0} (p : S → Bool) (xs : List S) (x : S) → IsIn x (filter p xs) → IsIn x xs
from_filter p [] x i = i
from_filter {S} p (y ∷ ys) x i =
    elim (p y) as (λ (b : Bool). IsIn x (cond b (y ∷ filter p ys) (filter p ys)) → IsIn x (y ∷ ys)) [
      | true ↦ λ j. elim j [ inl e ↦ inl e | inr k ↦ inr (from_filter p ys x k) ]
      | false ↦ λ j. inr (from_filter p ys x j)
    ] i

filter-different : {S : Type 0} (p : S → Bool) (xs : List S) → AllDifferent xs → AllDifferent (filter p xs)
filter-different p [] different = tt
filter-different {S} p (x ∷ xs) different =
    elim (p x) as (λ (b : Bool). AllDifferent (cond b (x ∷ filter p xs) (filter p xs))) [
      | true ↦ (λ i. different.0 (from_filter p xs x i), filter-different p xs different.1)
      | false ↦ filter-different p xs different.1
    ]

module _ (t : Numbered) (numbered : IsNumbered t) (order : List ℕ) (ordered : OrdersNumbers t order) where
  abbrev in_order : List Slot
  in_order = filter_map (slot_at t) order

  -- the slots in order are different slots of the document
  order-le : (f : Slot → ℕ) → sum_by f in_order ≤ sum_by f (slots t.document)
  order-le f =
      sum_by-different-le f in_order (slots t.document) (ordered-different (deps t.document) [] in_order ordered.ordered.ordered)
      (λ s i. let m = from_filter_map (slot_at t) order s i in slot-of_document t numbered m.0 s m.2)

  -- the nodes of the slots in order are no more than those of all slots
  pub nodes-le : sum_by (nodes_at t) order ≤ nodes_of_slots t.document (to_be_done t.document)
  nodes-le =
      let same : sum_by (nodes_at t) order ≡ sum_by (λ s. nodes_of (expression_of t.document s)) in_order =
      sum_by-same (nodes_at t) (λ n. option_map_or (λ s. nodes_of (expression_of t.document s)) (slot_at t n) 0) order
      (λ n. elim (slot_at t n) as (λ (q : Option Slot). nodes_of (option_and_then tree_by (option_and_then (rule_of t.document) q)) ≡ option_map_or (λ s. nodes_of (expression_of t.document s)) q 0) [
        | None ↦ refl
        | Some s ↦ refl
      ])
      ∙ sum_by-filter_map (λ s. nodes_of (expression_of t.document s)) (slot_at t) order in
      let fewer = order-le (λ s. nodes_of (expression_of t.document s)) in
      omega arith

  module _ (m : Meanings) (distinct : IsDistinct same_slot (slots t.document)) where
    -- as many nodes are visited as the slots of the document say
    visits-sum : sum_by (visits_at m t) order ≡ sum_by (visits m t.document) (slots t.document)
    visits-sum =
        let same = sum_by-filter_map (visits m t.document) (slot_at t) order in
        let fewer = order-le (visits m t.document) in
        let more = sum_by-different-le (visits m t.document) (slots t.document) in_order (distinct-different (slots t.document) distinct) ordered.ordered.all in
        omega arith

    -- where all slots were worked out in order, these were evaluated
    pub evaluated-all :
        (before : List (Option Outcome)) (old new : ℕ) → new ≡ min (old + sum_by (visits_at m t) order) (2 ^ 64 - 1) → Evaluated m t before old new
    evaluated-all before old new steps = record {
      slots = slots t.document;
      once = distinct;
      due = λ s i. i;
      stale = λ s i. from_filter (is_stale m t before) (slots t.document) s i;
      steps = steps ∙ ap (λ (n : ℕ). min (old + n) (2 ^ 64 - 1)) visits-sum;
    }

-- the two bounds that follow of what was evaluated
module _ (m : Meanings) (t : Numbered) (before : List (Option Outcome)) (old new : ℕ) (evaluated : Evaluated m t before old new) where
  stale-visited : (s : Slot) → is_stale m t before s ≡ true → 1 ≤ visits m t.document s
  stale-visited s h =
      bound-visited (full m t.document) t.document s
      (and_parts (is_some (expression_of t.document s)) (not (is_outcome (kept_of t before s) (full m t.document s))) h).0

  -- one step at least for each stale slot
  pub evaluated-least : IsDistinct same_slot (slots t.document) → min (old + length (stale_slots m t before)) (2 ^ 64 - 1) ≤ new
  evaluated-least distinct =
      let each = sum_by-filter-least (is_stale m t before) (visits m t.document) (slots t.document) stale-visited in
      let among =
      sum_by-different-le (visits m t.document) (stale_slots m t before) evaluated.slots
      (filter-different (is_stale m t before) (slots t.document) (distinct-different (slots t.document) distinct)) evaluated.stale in
      let steps = evaluated.steps in
      omega arith

  -- and at most all nodes of the slots that may be worked out
  pub evaluated-most : new ≤ min (old + nodes_of_slots t.document (to_be_done t.document)) (2 ^ 64 - 1)
  evaluated-most =
      let fewer = sum_by-le (visits m t.document) (λ s. nodes_of (expression_of t.document s)) evaluated.slots (λ s. visits-within (full m t.document) t.document s) in
      let among =
      sum_by-different-le (λ s. nodes_of (expression_of t.document s)) evaluated.slots (to_be_done t.document) (distinct-different evaluated.slots evaluated.once) evaluated.due in
      let steps = evaluated.steps in
      omega arith

-- the nodes of all slots are those of the document
pub nodes-all : (d : Document) → HoldsVarSets d → nodes_of_slots d (slots d) ≡ nodes_of_document d
nodes-all d holds =
    sum_by-same (λ s. nodes_of (expression_of d s)) (λ s. option_map_or node_count (expression_of d s) 0) (slots d) (λ s. nodes-mapped (expression_of d s))
    ∙ sum_by-filter_map node_count (expression_of d) (slots d) ∙ ap (sum_by node_count) (sym holds.expressions)
  where
    nodes-mapped : (o : Option Tree) → nodes_of o ≡ option_map_or node_count o 0
    nodes-mapped None = refl
    nodes-mapped (Some e) = refl
