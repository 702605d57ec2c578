-- Sorts of slots by their numbers: the sort of one by the sorts so far, and those of all in order.
use Rattle.std.proofs.Common.{◌≡◌, ◌≢◌, inl, inr, ℕ, zero, suc, ◌+◌, ◌<◌, ◌≤◌, Bool, true, false, List, [], ◌∷◌, map, drop, set, get_or, length, Some, None, refl, sym, ◌∙◌, ap, subst, arith, add-one, length-set, get_or-set_same, get_or-set_other, drop-cons}
use Rattle.std.specs.Prelude.{Option, Ok, Err, slice_get, nat_eq}
use Rattle.std.specs.List.{filter_map, cons_option}
use Rattle.std.specs.Option.{option_map, option_and_then, option_map_or}
use Rattle.std.proofs.lemmas.Bool.Decides.{Decides-eqb}
use Rattle.fc_base.specs.Graph.{IsIn, Evaluates, EvaluatesAll}
use Rattle.fc_base.specs.declared.ids.SlotId.{SlotId}
use Rattle.object_paths.specs.Slots.{Slot}
use Rattle.property_types.specs.declared.prop_type.PropType.{PropType}
use Rattle.property_types.specs.declared.prop_type.Sort.{Sort}
use Rattle.property_types.specs.declared.value.Value.{Value}
use Rattle.property_types.specs.Types.{sort_of_type}
use Rattle.expr_tree.specs.References.{Reference, references}
use Rattle.expr_tree.specs.Tree.{Tree}
use Rattle.expr_eval.specs.declared.sort_cause.SortCause.TheVariants.{KindMismatch}
use Rattle.expr_eval.specs.SortRows.{SortOutcome}
use Rattle.expr_eval.specs.Sorts.{sort_of}
use Rattle.document_model.specs.Dependencies.{slot_reached, cells_reached}
use Rattle.document_model.specs.Document.{Document, Object, object_named}
use Rattle.document_model.specs.Slots.{Rule, own, bound, inherit, global, output, Row, rows, row_in, row_of, slots, rule_of, type_of}
use Rattle.document_model.proofs.Members.{and_then_some, map_some, from_find}
use Rattle.doc_tables.specs.Accessors.{AreReached, reached_at, rule_at, own_at, own_by, tree_at, tree_by}
use Rattle.doc_tables.specs.Numbered.{Numbered, IsNumbered, at_number, number_of, slot_at}
use Rattle.doc_tables.specs.VarSets.{HoldsVarSets}
use Rattle.doc_tables.proofs.NumberLemmas.{number_of_slot}
use Rattle.doc_tables.proofs.ReadingLemmas.{reading-by_number}
use Rattle.doc_tables.proofs.VarSetLemmas.{no_cells-reached}
use Rattle.document_outcomes.specs.Sorts.{sort_at, sorts_in_cells, sort_reading, bound_sort, own_sort, type_sort, sort_by_rule, local_sort, sort}
use Rattle.document_outcomes.proofs.OrderLemmas.{evaluated-sort}
use Rattle.doc_rules.specs.SortTables.{sort_in, sort_by_number, AreSorts, OrdersNumbers, reading_behind, object_behind, own_as, given_as, wanted_as}
use Rattle.doc_rules.proofs.MarkLemmas.{IsIn-get_or}

sort_at-map_or : (w : Slot → SortOutcome) (o : Option Slot) → sort_at w o ≡ option_map_or w o (Err KindMismatch)
sort_at-map_or w None = refl
sort_at-map_or w (Some s) = refl

own_sort-wanted : (type : Option PropType) (v : Value) → own_sort type v ≡ own_as (option_map sort_of_type type) v
own_sort-wanted None v = refl
own_sort-wanted (Some type) v = refl

bound_sort-wanted : (type : Option PropType) (found : SortOutcome) → bound_sort type found ≡ given_as (option_map sort_of_type type) found
bound_sort-wanted None found = refl
bound_sort-wanted (Some type) found = refl

type_sort-wanted : (type : Option PropType) → type_sort type ≡ wanted_as (option_map sort_of_type type)
type_sort-wanted None = refl
type_sort-wanted (Some type) = refl

module _ (d : Document) where
  -- a slot with a rule is that of an object
  ruled-object : (s : Slot) (rule : Rule) → rule_of d s ≡ Some rule → (o : Object) × (object_named d s.object ≡ Some o)
  ruled-object s rule e =
      let m = map_some (λ (r : Row). r.rule) (row_of d s) rule e in
      let n = and_then_some (λ (o : Object). row_in (rows d o) s.name) (object_named d s.object) m.0 m.1 in
      (n.0, n.1)

  module _ (s : Slot) (w : Slot → SortOutcome) where
    ruled-sort : (o : Object) → object_named d s.object ≡ Some o → local_sort d s w ≡ sort_by_rule d s o w (rule_of d s)
    unfolding local_sort
    ruled-sort o e = ap (λ (q : Option Object). option_map_or (λ (x : Object). sort_by_rule d s x w (rule_of d s)) q (Err KindMismatch)) e

    -- the sort of a slot with an own value
    own-sort : (v : Value) → rule_of d s ≡ Some (own v) → local_sort d s w ≡ own_as (option_map sort_of_type (type_of d s)) v
    own-sort v e =
        let o = ruled-object s (own v) e in
        ruled-sort o.0 o.1 ∙ ap (sort_by_rule d s o.0 w) e ∙ own_sort-wanted (type_of d s) v

    -- the sort of a slot that is bound
    bound-sort :
        (o : Object) (e : Tree) → rule_of d s ≡ Some (bound e) → object_named d s.object ≡ Some o
        → local_sort d s w ≡ given_as (option_map sort_of_type (type_of d s)) (sort_of (sort_reading d o e w) 0 e)
    bound-sort o e rule named =
        ruled-sort o named ∙ ap (sort_by_rule d s o w) rule ∙ bound_sort-wanted (type_of d s) (sort_of (sort_reading d o e w) 0 e)

    no_row-sort : row_of d s ≡ None → local_sort d s w ≡ wanted_as (option_map sort_of_type (type_of d s))
    unfolding local_sort
    no_row-sort none =
        let rule : rule_of d s ≡ None = ap (option_map (λ (r : Row). r.rule)) none in
        let type : type_of d s ≡ None = ap (option_and_then (λ (r : Row). r.prop)) none in
        ap (λ (q : Option Rule). option_map_or (λ (x : Object). sort_by_rule d s x w q) (object_named d s.object) (Err KindMismatch)) rule
        ∙ anything (object_named d s.object)
        ∙ ap (λ (q : Option PropType). wanted_as (option_map sort_of_type q)) (sym type) where
          anything : (found : Option Object) → option_map_or (λ (x : Object). sort_by_rule d s x w None) found (Err KindMismatch) ≡ Err KindMismatch
          anything None = refl
          anything (Some o) = refl

    -- the sort of a slot that is neither own nor bound
    rest-sort : (rule : Rule) → rule_of d s ≡ Some rule → own_by rule ≡ None → tree_by rule ≡ None → local_sort d s w ≡ wanted_as (option_map sort_of_type (type_of d s))
    rest-sort (own v) e a b = absurd (cc)
    rest-sort (bound t) e a b = absurd (cc)
    rest-sort (inherit u) e a b = let o = ruled-object s (inherit u) e in ruled-sort o.0 o.1 ∙ ap (sort_by_rule d s o.0 w) e ∙ type_sort-wanted (type_of d s)
    rest-sort (global k) e a b = let o = ruled-object s (global k) e in ruled-sort o.0 o.1 ∙ ap (sort_by_rule d s o.0 w) e ∙ type_sort-wanted (type_of d s)
    rest-sort (output k) e a b = let o = ruled-object s (output k) e in ruled-sort o.0 o.1 ∙ ap (sort_by_rule d s o.0 w) e ∙ type_sort-wanted (type_of d s)

own_by-some : (rule : Rule) (v : Value) → own_by rule ≡ Some v → rule ≡ own v
own_by-some (own u) v e = let same : u ≡ v = cc in ap own same
own_by-some (bound t) v e = absurd (cc)
own_by-some (inherit u) v e = absurd (cc)
own_by-some (global k) v e = absurd (cc)
own_by-some (output k) v e = absurd (cc)

tree_by-some : (rule : Rule) (e : Tree) → tree_by rule ≡ Some e → rule ≡ bound e
tree_by-some (own u) e h = absurd (cc)
tree_by-some (bound t) e h = let same : t ≡ e = cc in ap bound same
tree_by-some (inherit u) e h = absurd (cc)
tree_by-some (global k) e h = absurd (cc)
tree_by-some (output k) e h = absurd (cc)

module _ (t : Numbered) (n : ℕ) where
  -- a slot of a number with a rule
  pub record Ruled (rule : Rule) : Type 0 where
    pub slot : Slot
    pub here : slot_at t n ≡ Some slot
    pub rule_here : rule_of t.document slot ≡ Some rule

  ruled-slot : (rule : Rule) → rule_at t n ≡ Some rule → Ruled rule
  ruled-slot rule e =
      let m = and_then_some (rule_of t.document) (slot_at t n) rule e in
      record { slot = m.0; here = m.1; rule_here = m.2 }

  own-ruled : (v : Value) → own_at t n ≡ Some v → Ruled (own v)
  own-ruled v e =
      let m = and_then_some own_by (rule_at t n) v e in
      ruled-slot (own v) (m.1 ∙ ap Some (own_by-some m.0 v m.2))

  bound-ruled : (e : Tree) → tree_at t n ≡ Some e → Ruled (bound e)
  bound-ruled e h =
      let m = and_then_some tree_by (rule_at t n) e h in
      ruled-slot (bound e) (m.1 ∙ ap Some (tree_by-some m.0 e m.2))

  -- the sort that the slot of a number wants
  abbrev pub wanted_at : Option Sort
  wanted_at = option_map sort_of_type (option_and_then (type_of t.document) (slot_at t n))

  module _ (w : Slot → SortOutcome) where
    at_slot : (s : Slot) (found : SortOutcome) → slot_at t n ≡ Some s → local_sort t.document s w ≡ found → option_map (λ (u : Slot). local_sort t.document u w) (slot_at t n) ≡ Some found
    at_slot s found here e = ap (option_map (λ (u : Slot). local_sort t.document u w)) here ∙ ap Some e

    wanted_by : (s : Slot) → slot_at t n ≡ Some s → option_map sort_of_type (type_of t.document s) ≡ wanted_at
    wanted_by s here = ap (λ (q : Option Slot). option_map sort_of_type (option_and_then (type_of t.document) q)) (sym here)

    pub sort-own : (v : Value) → own_at t n ≡ Some v → option_map (λ (s : Slot). local_sort t.document s w) (slot_at t n) ≡ Some (own_as wanted_at v)
    sort-own v e =
        let r = own-ruled v e in
        at_slot r.slot (own_as wanted_at v) r.here (own-sort t.document r.slot w v r.rule_here ∙ ap (λ (q : Option Sort). own_as q v) (wanted_by r.slot r.here))

    pub sort-bound :
        (e : Tree) (found : SortOutcome) → tree_at t n ≡ Some e
        → option_map (λ (o : Object). sort_of (sort_reading t.document o e w) 0 e) (object_behind t n) ≡ Some found
        → option_map (λ (s : Slot). local_sort t.document s w) (slot_at t n) ≡ Some (given_as wanted_at found)
    sort-bound e found bound_here told =
        let r = bound-ruled e bound_here in
        let o = ruled-object t.document r.slot (bound e) r.rule_here in
        let behind : object_behind t n ≡ Some o.0 = ap (option_and_then (λ (s : Slot). object_named t.document s.object)) r.here ∙ o.1 in
        let same_some : Some (sort_of (sort_reading t.document o.0 e w) 0 e) ≡ Some found =
        sym (ap (option_map (λ (q : Object). sort_of (sort_reading t.document q e w) 0 e)) behind) ∙ told in
        let same : sort_of (sort_reading t.document o.0 e w) 0 e ≡ found = cc in
        at_slot r.slot (given_as wanted_at found) r.here
        (bound-sort t.document r.slot w o.0 e r.rule_here o.1
        ∙ (λ i. given_as (wanted_by r.slot r.here i) (same i)))

    pub sort-rest :
        (s : Slot) → slot_at t n ≡ Some s → own_at t n ≡ None → tree_at t n ≡ None
        → option_map (λ (u : Slot). local_sort t.document u w) (slot_at t n) ≡ Some (wanted_as wanted_at)
    sort-rest s here no_own no_tree =
        at_slot s (wanted_as wanted_at) here (by_row (row_of t.document s) refl ∙ ap wanted_as (wanted_by s here)) where
          by_row : (row : Option Row) → row_of t.document s ≡ row → local_sort t.document s w ≡ wanted_as (option_map sort_of_type (type_of t.document s))
          by_row None e = no_row-sort t.document s w e
          by_row (Some r) e =
              let rule : rule_of t.document s ≡ Some r.rule = ap (option_map (λ (q : Row). q.rule)) e in
              let at : rule_at t n ≡ Some r.rule = ap (option_and_then (rule_of t.document)) here ∙ rule in
              rest-sort t.document s w r.rule rule (ap (option_and_then own_by) (sym at) ∙ no_own) (ap (option_and_then tree_by) (sym at) ∙ no_tree)

module _ (t : Numbered) (numbered : IsNumbered t) (sorts : List SortOutcome) where
  by_number : (n : ℕ) (s : Slot) → slot_at t n ≡ Some s → sort_in sorts n ≡ sort_by_number t sorts s
  by_number n s here =
      let number : number_of t s ≡ Some n = (numbered.slot_numbers n s).0 here in
      ap (λ (q : Option ℕ). option_map_or (sort_in sorts) q (Err KindMismatch)) (sym number)

  module _ (holds : HoldsVarSets t.document) (n : ℕ) (e : Tree) (ids : List (Option SlotId)) where
    inside-none : (o : Object) → IsIn o t.document.objects → (r : Option Reference) → [] ≡ sorts_in_cells t.document o (sort_by_number t sorts) r
    inside-none o here None = refl
    inside-none o here (Some r) = sym (ap (map (sort_by_number t sorts)) (no_cells-reached t.document holds o here r))

    -- what is read by number is what is read by slot
    reading-same :
        (s : Slot) (o : Object) → slot_at t n ≡ Some s → object_named t.document s.object ≡ Some o → tree_at t n ≡ Some e → AreReached t ids (reached_at t n)
        → reading_behind ids sorts ≡ sort_reading t.document o e (sort_by_number t sorts)
    reading-same s o here named tree reached =
        let same : (id : SlotId) (u : Slot) → slot_at t id.0 ≡ Some u → sort_in sorts id.0 ≡ sort_by_number t sorts u = λ id u h. by_number id.0 u h in
        let each : (k : ℕ) → option_map_or (λ (id : SlotId). sort_in sorts id.0) (at_number ids k) (Err KindMismatch) ≡ sort_at (sort_by_number t sorts) (option_and_then (slot_reached t.document o) (slice_get (references e) k)) =
        λ k. reading-by_number t (λ (id : SlotId). sort_in sorts id.0) (sort_by_number t sorts) (Err KindMismatch) same n s o e ids here named tree reached k
        ∙ sym (sort_at-map_or (sort_by_number t sorts) (option_and_then (slot_reached t.document o) (slice_get (references e) k))) in
        λ i. record {
          at = λ k. each k i;
          inside = λ k. inside-none o (from_find _ t.document.objects o named) (slice_get (references e) k) i;
        }

    -- the sort of an expression by numbers is that by slots
    pub tree-sort :
        tree_at t n ≡ Some e → AreReached t ids (reached_at t n)
        → option_map (λ (o : Object). sort_of (sort_reading t.document o e (sort_by_number t sorts)) 0 e) (object_behind t n)
        ≡ Some (sort_of (reading_behind ids sorts) 0 e)
    tree-sort tree reached =
        let r = bound-ruled t n e tree in
        let o = ruled-object t.document r.slot (bound e) r.rule_here in
        let behind : object_behind t n ≡ Some o.0 = ap (option_and_then (λ (s : Slot). object_named t.document s.object)) r.here ∙ o.1 in
        ap (option_map (λ (q : Object). sort_of (sort_reading t.document q e (sort_by_number t sorts)) 0 e)) behind
        ∙ (λ i. Some (sort_of (sym (reading-same r.slot o.0 r.here o.1 tree reached) i) 0 e))

module _ (t : Numbered) where
  -- what leads on from the sorts so far leads on from the first ones
  abbrev pub LeadsOn : List ℕ → List SortOutcome → List ℕ → List SortOutcome → Type 0
  LeadsOn order first rest sorts =
      (w : Slot → SortOutcome) → EvaluatesAll (local_sort t.document) (filter_map (slot_at t) rest) (sort_by_number t sorts) w
      → EvaluatesAll (local_sort t.document) (filter_map (slot_at t) order) (sort_by_number t first) w

module _ (t : Numbered) (numbered : IsNumbered t) where
  -- one sort more is one step of an evaluation
  one-step :
      (sorts : List SortOutcome) (n : ℕ) (s : Slot) (x : SortOutcome)
      → n < length sorts → slot_at t n ≡ Some s → local_sort t.document s (sort_by_number t sorts) ≡ x
      → Evaluates (local_sort t.document) s (sort_by_number t sorts) (sort_by_number t (set sorts n x))
  one-step sorts n s x within here told = record {
    here =
        let number : number_of t s ≡ Some n = (numbered.slot_numbers n s).0 here in
        ap (λ (q : Option ℕ). option_map_or (sort_in (set sorts n x)) q (Err KindMismatch)) number
        ∙ get_or-set_same sorts n x (Err KindMismatch) within ∙ sym told;
    elsewhere = λ u other. away u other (number_of t u) refl;
  } where
    away : (u : Slot) → (u ≡ s → ⊥) → (o : Option ℕ) → number_of t u ≡ o → option_map_or (sort_in (set sorts n x)) o (Err KindMismatch) ≡ option_map_or (sort_in sorts) o (Err KindMismatch)
    away u other None e = refl
    away u other (Some m) e =
        let there : slot_at t m ≡ Some u = (numbered.slot_numbers m u).1 e in
        let apart : m ≢ n = λ same. other (let at_n : slot_at t n ≡ Some u = subst (λ (k : ℕ). slot_at t k ≡ Some u) same there in cc) in
        get_or-set_other sorts n m x (Err KindMismatch) apart

  module _ (order : List ℕ) (first : List SortOutcome) (k : ℕ) (n : ℕ) (next : drop k order ≡ n ∷ drop (k + 1) order) (sorts : List SortOutcome) where
    pub leads-past : slot_at t n ≡ None → LeadsOn t order first (drop k order) sorts → LeadsOn t order first (drop (k + 1) order) sorts
    leads-past none leads w more =
        leads w
        (subst (λ (ns : List ℕ). EvaluatesAll (local_sort t.document) (filter_map (slot_at t) ns) (sort_by_number t sorts) w) (sym next)
        (subst (λ (q : Option Slot). EvaluatesAll (local_sort t.document) (cons_option q (filter_map (slot_at t) (drop (k + 1) order))) (sort_by_number t sorts) w) (sym none) more))

    pub leads-on :
        (x : SortOutcome) → n < length sorts → option_map (λ (s : Slot). local_sort t.document s (sort_by_number t sorts)) (slot_at t n) ≡ Some x
        → LeadsOn t order first (drop k order) sorts → LeadsOn t order first (drop (k + 1) order) (set sorts n x)
    leads-on x within told leads w more =
        let m = map_some (λ (s : Slot). local_sort t.document s (sort_by_number t sorts)) (slot_at t n) x told in
        let step = one-step sorts n m.0 x within m.1 (sym m.2) in
        leads w
        (subst (λ (ns : List ℕ). EvaluatesAll (local_sort t.document) (filter_map (slot_at t) ns) (sort_by_number t sorts) w) (sym next)
        (subst (λ (q : Option Slot). EvaluatesAll (local_sort t.document) (cons_option q (filter_map (slot_at t) (drop (k + 1) order))) (sort_by_number t sorts) w) (sym m.1)
        (sort_by_number t (set sorts n x), step, more)))

  -- at the end the sorts are those of the slots
  pub sorts-found :
      (order : List ℕ) (first sorts : List SortOutcome) → OrdersNumbers t order → length sorts ≡ length t.slots
      → LeadsOn t order first [] sorts → AreSorts t sorts
  sorts-found order first sorts ordered sized leads = record {
    sized = sized;
    each = λ n s here.
        let number : number_of t s ≡ Some n = (numbered.slot_numbers n s).0 here in
        let in_document : IsIn s (slots t.document) = (numbered.all_slots s).1 (rw number refl) in
        by_number t numbered sorts n s here
        ∙ sym (evaluated-sort t.document (filter_map (slot_at t) order) ordered.slots.ordered ordered.slots.all
        (sort_by_number t first) (sort_by_number t sorts) (leads (sort_by_number t sorts) (λ u. refl)) s in_document);
  }

-- The sorts so far, from which the rest of the order leads on.
pub record AreSortsSoFar (t : Numbered) (order : List ℕ) (first : List SortOutcome) (k : ℕ) (sorts : List SortOutcome) : Type 0 where
  pub sized : length sorts ≡ length t.slots
  pub leads : LeadsOn t order first (drop k order) sorts

module _ (t : Numbered) (numbered : IsNumbered t) (order : List ℕ) (ordered : OrdersNumbers t order) (first : List SortOutcome) (k : ℕ) (sorts : List SortOutcome) (so_far : AreSortsSoFar t order first k sorts) where
  module _ (within : k < length order) where
    next : drop k order ≡ get_or order k 0 ∷ drop (k + 1) order
    next = rw add-one (drop-cons order k 0 within)

    pub so_far-past : slot_at t (get_or order k 0) ≡ None → AreSortsSoFar t order first (k + 1) sorts
    so_far-past none = record { sized = so_far.sized; leads = leads-past t numbered order first k (get_or order k 0) next sorts none so_far.leads }

    pub so_far-on :
        (x : SortOutcome) → option_map (λ (s : Slot). local_sort t.document s (sort_by_number t sorts)) (slot_at t (get_or order k 0)) ≡ Some x
        → AreSortsSoFar t order first (k + 1) (set sorts (get_or order k 0) x)
    so_far-on x told =
        let inside : get_or order k 0 < length sorts =
        subst (λ (n : ℕ). get_or order k 0 < n) (sym so_far.sized) (ordered.inside (get_or order k 0) (IsIn-get_or order k 0 within)) in
        record {
          sized = length-set sorts (get_or order k 0) x ∙ so_far.sized;
          leads = leads-on t numbered order first k (get_or order k 0) next sorts x inside told so_far.leads;
        }

  pub so_far-all : length order ≤ k → AreSorts t sorts
  so_far-all past =
      sorts-found t numbered order first sorts ordered so_far.sized
      (subst (λ (rest : List ℕ). LeadsOn t order first rest sorts) (drop-past order k past) so_far.leads) where
        drop-past : (ns : List ℕ) (j : ℕ) → length ns ≤ j → drop j ns ≡ []
        drop-past [] zero h = refl
        drop-past [] (suc j) h = refl
        drop-past (n ∷ ns) zero h = absurd (omega arith)
        drop-past (n ∷ ns) (suc j) h = drop-past ns j (omega arith)
