-- What faults a document of VarSets has.
use Rattle.std.proofs.Common.{◌≡◌, ◌≢◌, inl, inr, ℕ, zero, suc, ◌+◌, ◌<◌, ◌≤◌, Bool, true, false, ◌||◌, not, cond, List, [], ◌∷◌, ◌++◌, map, length, Some, None, refl, sym, ◌∙◌, ap, subst, arith, add-zero, zero-add}
use Rattle.std.specs.Prelude.{Option, find, filter, fold, min, nat_lt, sum_by, is_some, is_none}
use Rattle.std.specs.List.{list_any, flat_map, filter_map, cons_option, AllByRecursion}
use Rattle.std.proofs.lemmas.Bool.Decides.{Decides-ltb}
use Rattle.std.specs.Option.{option_map, option_and_then, option_map_or, option_or, option_to_list}
use Rattle.fc_base.specs.Graph.{IsIn, reaches_in}
use Rattle.fc_base.specs.Places.{Place}
use Rattle.fc_base.specs.declared.ids.SlotId.{SlotId}
use Rattle.object_paths.specs.declared.slot_name.SlotName.{SlotName}
use Rattle.object_paths.specs.declared.slot_name.SlotName.TheVariants.{Plain}
use Rattle.object_paths.specs.Slots.{Slot, same_text}
use Rattle.property_types.specs.declared.prop_type.PropType.{PropType}
use Rattle.property_types.specs.declared.prop_type.PropType.TheVariants as prop
use Rattle.expr_grammar.specs.Large.{is_too_large}
use Rattle.expr_tree.specs.References.{Reference, to_path, to_area, references}
use Rattle.expr_tree.specs.Tree.{Tree}
use Rattle.document_model.specs.declared.content.Content.{Content}
use Rattle.document_model.specs.declared.kind.ObjectKind.{ObjectKind}
use Rattle.document_model.specs.declared.kind.ObjectKind.TheVariants.{VarSet}
use Rattle.document_model.specs.Counts.{empty_cells, slots_and_empty_cells, nodes_of_document, dependencies_of_document}
use Rattle.document_model.specs.Dependencies.{slot_reached}
use Rattle.document_model.specs.Document.{Document, Object, Cell, Property, object_named}
use Rattle.document_model.specs.Resolution.{resolve}
use Rattle.document_model.specs.Slots.{Rule, own, bound, inherit, global, output, Row, rows, rows_by, rows_in_order, dynamic_rows, row_in, row_of, slot_of, slots, rule_of, type_of}
use Rattle.document_model.specs.TypedSlots.{property_slots}
use Rattle.document_model.specs.Kinds.{is_sheet}
use Rattle.document_model.proofs.Members.{and_then_some, map_some, from_find, from_flat_map}
use Rattle.doc_tables.specs.Accessors.{AreReached, slots_reached, tree_at, tree_by}
use Rattle.doc_tables.specs.Numbered.{Numbered, slot_at}
use Rattle.doc_tables.specs.VarSets.{HasOneSlot, IsVarSet, HoldsVarSets}
use Rattle.doc_tables.proofs.HeldLemmas.{one_slot}
use Rattle.document_outcomes.specs.Cycles.{is_cyclic, leads_back, targets}
use Rattle.document_outcomes.specs.Faults.{Fault, first_some, slot_fault, object_fault, link_faults, lacks_bounds, lacks_object, stray_override, is_mirrored, is_unknown, is_missing, has_unknown, reference_fault, reference_faults, cycle_faults, range_faults}
use Rattle.document_outcomes.specs.Limits.{has_too_large, has_too_many}
use Rattle.document_outcomes.specs.RefusalNumbers.{out_of_range, unknown_reference, cycle, link_kind}
use Rattle.document_outcomes.proofs.SearchLemmas.{none-find}
use Rattle.doc_tables.specs.FindsAll.{FindsAll}
use Rattle.doc_rules.specs.KindFaults.{fault_if, tree_of, has_large_tree, has_unknown_reference, unknown_fault, cycle_fault, has_value_outside, range_fault}
use Rattle.doc_rules.proofs.FirstLemmas.{find-first_some, first_some-same, first_some-rows}

-- a member of a list of which something holds
of_all : {A : Type 0} (P : A → Type 0) (xs : List A) (x : A) → AllByRecursion P xs → IsIn x xs → P x
of_all P [] x all i = absurd i
of_all P (y ∷ ys) x all (inl e) = subst P (sym e) all.0
of_all P (y ∷ ys) x all (inr i) = of_all P ys x all.1 i

-- what a VarSet lacks
module _ (o : Object) (set : IsVarSet o) where
  kind-set : o.kind ≡ VarSet
  kind-set = ap (λ (q : Object). q.kind) set.object

  cells-none : o.cells ≡ []
  cells-none = ap (λ (q : Object). q.cells) set.object

  target-none : o.target ≡ None
  target-none = ap (λ (q : Object). q.target) set.object

  overrides-none : o.overrides ≡ []
  overrides-none = ap (λ (q : Object). q.overrides) set.object

  members-none : o.members ≡ []
  members-none = ap (λ (q : Object). q.members) set.object

sum_by-cons_zero : {A : Type 0} (f : A → ℕ) (x : A) (xs : List A) → f x ≡ 0 → sum_by f (x ∷ xs) ≡ sum_by f xs
sum_by-cons_zero f x xs h = ap (λ n. fold (λ a y. a + f y) n xs) (zero-add (f x) ∙ h)

-- VarSets have no cells, so none that is empty
no_empty_cells : (os : List Object) → AllByRecursion IsVarSet os → sum_by (λ (o : Object). length (empty_cells o)) os ≡ 0
no_empty_cells [] all = refl
no_empty_cells (o ∷ os) all =
    let here : length (empty_cells o) ≡ 0 = ap (λ (cells : List (Place × Cell)). length (filter (λ (e : Place × Cell). not (is_some e.1.content)) cells)) (cells-none o all.0) in
    sum_by-cons_zero (λ (q : Object). length (empty_cells q)) o os here ∙ no_empty_cells os all.1

module _ (d : Document) (holds : HoldsVarSets d) where
  set_of : (o : Object) → IsIn o d.objects → IsVarSet o
  set_of o i = of_all IsVarSet d.objects o holds.objects i

  pub slots_and_empty_cells-slots : slots_and_empty_cells d ≡ length (slots d)
  slots_and_empty_cells-slots = ap (λ (n : ℕ). length (slots d) + n) (no_empty_cells d.objects holds.objects) ∙ add-zero (length (slots d))

  -- no VarSet has a target
  targets-none : (name : List ℕ) → targets d name ≡ []
  targets-none name =
      elim (object_named d name)
      as (λ (found : Option Object). object_named d name ≡ found
      → option_to_list (option_map (λ (t : Object). t.name) (option_and_then (λ (o : Object). option_and_then (object_named d) o.target) found)) ≡ []) [
        | None ↦ λ e. refl
        | Some o ↦ λ e.
            ap (λ (t : Option (List ℕ)). option_to_list (option_map (λ (q : Object). q.name) (option_and_then (object_named d) t)))
            (target-none o (set_of o (from_find _ d.objects o e)))
      ] refl

  no_steps-back : (n : ℕ) (a b : List ℕ) → reaches_in same_text (targets d) n a b ≡ false
  unfolding reaches_in
  no_steps-back zero a b = refl
  no_steps-back (suc n) a b = ap (list_any (λ (c : List ℕ). same_text c b || reaches_in same_text (targets d) n c b)) (targets-none a)

  none-leads_back : (o : Object) → leads_back d o ≡ false
  unfolding leads_back
  none-leads_back o = no_steps-back (length d.objects) o.name o.name

  -- there are no links, and no members
  pub link_faults-none : link_faults d ≡ None
  link_faults-none =
      ap (option_map (object_fault link_kind))
      (none-find (λ (o : Object). leads_back d o || list_any (lacks_bounds d) o.members) d.objects
      (λ o i. ap (λ (b : Bool). b || list_any (lacks_bounds d) o.members) (none-leads_back o) ∙ ap (list_any (lacks_bounds d)) (members-none o (set_of o i))))

list_any-filter_map : {A B : Type 0} (p : B → Bool) (f : A → Option B) (xs : List A) → list_any p (filter_map f xs) ≡ list_any (λ x. option_map_or p (f x) false) xs
list_any-filter_map p f [] = refl
list_any-filter_map {A} {B} p f (x ∷ xs) =
    elim (f x) as (λ (o : Option B). list_any p (cons_option o (filter_map f xs)) ≡ (option_map_or p o false || list_any (λ y. option_map_or p (f y) false) xs)) [
      | None ↦ list_any-filter_map p f xs
      | Some y ↦ ap (λ b. p y || b) (list_any-filter_map p f xs)
    ]

-- the expressions are those of the slots
pub has_too_large-slots : (d : Document) → HoldsVarSets d → has_too_large d ≡ list_any (has_large_tree d) (slots d)
has_too_large-slots d holds =
    ap (list_any is_too_large) holds.expressions ∙ list_any-filter_map is_too_large (tree_of d) (slots d)

-- a slot of a property has the property's type, which is no placement
of_one_slot :
    (p : Property) (r : Row) → HasOneSlot p → IsIn r (rows_in_order (property_slots p.name p.prop) p.contents) → (r.prop ≡ Some p.prop)
of_one_slot p r one i =
    let named = one_slot p.name p.prop one.type in
    let contents : p.contents ≡ one.content ∷ [] = ap (λ (q : Property). q.contents) one.property in
    let alone : IsIn r (rows_in_order ((Plain p.name, p.prop) ∷ []) (one.content ∷ [])) =
    subst (λ (cs : List Content). IsIn r (rows_in_order ((Plain p.name, p.prop) ∷ []) cs)) contents
    (subst (λ (ss : List (SlotName × PropType)). IsIn r (rows_in_order ss p.contents)) named i) in
    elim alone [ inl e ↦ ap (λ (q : Row). q.prop) e | inr j ↦ absurd j ]

module _ (d : Document) (holds : HoldsVarSets d) where
  row-typed : (o : Object) (r : Row) (type : PropType) → IsVarSet o → IsIn r (rows d o) → r.prop ≡ Some type → type ≢ prop.Placement
  row-typed o r type set i e = λ h.
      let m = from_flat_map (λ (p : Property). rows_in_order (property_slots p.name p.prop) p.contents) o.dynamics r (subst (λ (k : ObjectKind). IsIn r (rows_by d o k)) (kind-set o set) i) in
      let one : HasOneSlot m.0 = of_all HasOneSlot o.dynamics m.0 set.properties m.1 in
      let same : Some type ≡ Some (m.0).prop = sym e ∙ of_one_slot m.0 r one m.2 in
      one.type ((let parts : type ≡ (m.0).prop = cc in sym parts) ∙ h)

  -- the type of a slot is no placement
  pub type_of-one_slot : (s : Slot) (type : PropType) → type_of d s ≡ Some type → type ≢ prop.Placement
  type_of-one_slot s type e =
      let m = and_then_some (λ (r : Row). r.prop) (row_of d s) type e in
      let n = and_then_some (λ (o : Object). row_in (rows d o) s.name) (object_named d s.object) m.0 m.1 in
      row-typed n.0 m.0 type (set_of d holds n.0 (from_find _ d.objects n.0 n.1)) (from_find _ (rows d n.0) m.0 n.2) m.2

  not-none : {A : Type 0} (o : Option A) → not (is_some o) ≡ is_none o
  not-none None = refl
  not-none (Some x) = refl

  unknown-none : (o : Object) → IsVarSet o → (x : Reference) → is_unknown d o x ≡ is_none (slot_reached d o x)
  unknown-none o set (to_path p) = not-none (resolve d o p)
  unknown-none o set (to_area area) = ap (λ (k : ObjectKind). not (is_sheet k)) (kind-set o set)

  any-unknown : (o : Object) → IsVarSet o → (xs : List Reference) → list_any (is_unknown d o) xs ≡ list_any is_none (map (slot_reached d o) xs)
  any-unknown o set [] = refl
  any-unknown o set (x ∷ xs) = λ i. unknown-none o set x i || any-unknown o set xs i

  -- what the rule of a slot of an object reaches
  abbrev reached_by : Object → Rule → List (Option Slot)
  reached_by o rule = option_map_or (λ (e : Tree). map (slot_reached d o) (references e)) (tree_by rule) []

  rule-unknown : (o : Object) → IsVarSet o → (rule : Rule) → has_unknown d o rule ≡ list_any is_none (reached_by o rule)
  rule-unknown o set (own v) = refl
  rule-unknown o set (bound e) = any-unknown o set (references e)
  rule-unknown o set (inherit s) = refl
  rule-unknown o set (global k) = refl
  rule-unknown o set (output k) = refl

  module _ (finds : FindsAll d) where
    row-unknown : (o : Object) (r : Row) → IsIn o d.objects → IsIn r (rows d o) → has_unknown d o r.rule ≡ has_unknown_reference d (slot_of o r.name)
    row-unknown o r here i =
        let named = finds.objects o here in
        let row : row_of d (slot_of o r.name) ≡ Some r = ap (option_and_then (λ (q : Object). row_in (rows d q) r.name)) named ∙ finds.rows o r here i in
        let rule : rule_of d (slot_of o r.name) ≡ Some r.rule = ap (option_map (λ (q : Row). q.rule)) row in
        let reached : (e : Tree) → slots_reached d (slot_of o r.name) e ≡ map (slot_reached d o) (references e) =
        λ e. ap (λ (q : Option Object). option_map_or (λ (x : Object). map (slot_reached d x) (references e)) q []) named in
        rule-unknown o (set_of d holds o here) r.rule
        ∙ (λ j. list_any is_none (option_map_or (λ (e : Tree). sym (reached e) j) (option_and_then tree_by (sym rule j)) []))

    -- what an object has of unknown references, row by row
    object-unknown : (o : Object) → IsIn o d.objects → reference_fault d o ≡ first_some (λ (r : Row). unknown_fault d (slot_of o r.name)) (rows d o)
    object-unknown o here =
        let set = set_of d holds o here in
        let nothing : lacks_object d o ≡ false =
        (λ j. option_map_or (is_missing d) (target-none o set j) false || list_any (is_missing d) (members-none o set j)) in
        let stray : stray_override d o ≡ None = ap (find (λ (e : SlotName × Content). not (is_mirrored d o e.0))) (overrides-none o set) in
        (λ j. option_or (cond (nothing j) (Some (object_fault unknown_reference o)) None)
        (option_or (option_map (λ (e : SlotName × Content). slot_fault unknown_reference (slot_of o e.0)) (stray j))
        (option_map (λ (r : Row). slot_fault unknown_reference (slot_of o r.name)) (find (λ (r : Row). has_unknown d o r.rule) (rows d o)))))
        ∙ find-first_some (λ (r : Row). has_unknown d o r.rule) (λ (r : Row). slot_fault unknown_reference (slot_of o r.name)) (rows d o)
        ∙ first_some-same (λ (r : Row). cond (has_unknown d o r.rule) (Some (slot_fault unknown_reference (slot_of o r.name))) None)
        (λ (r : Row). unknown_fault d (slot_of o r.name)) (rows d o)
        (λ r i. ap (λ b. cond b (Some (slot_fault unknown_reference (slot_of o r.name))) None) (row-unknown o r here i))

    -- an unknown reference is one of a slot
    pub reference_faults-slots : reference_faults d ≡ first_some (unknown_fault d) (slots d)
    reference_faults-slots =
        first_some-same (reference_fault d) (λ (o : Object). first_some (λ (r : Row). unknown_fault d (slot_of o r.name)) (rows d o)) d.objects object-unknown
        ∙ sym (first_some-rows (unknown_fault d) (λ (o : Object). rows d o) (λ (o : Object) (r : Row). slot_of o r.name) d.objects)

-- the type of the slot of a number is no placement
pub type_at-one_slot :
    (t : Numbered) → HoldsVarSets t.document → (n : ℕ) (type : PropType) → option_and_then (type_of t.document) (slot_at t n) ≡ Some type → type ≢ prop.Placement
type_at-one_slot t holds n type e =
    let m = and_then_some (type_of t.document) (slot_at t n) type e in
    type_of-one_slot t.document holds m.0 type m.2

-- the references of a slot name no slot where none of their numbers is there
pub reached-none : (t : Numbered) (ids : List (Option SlotId)) (reached : List (Option Slot)) → AreReached t ids reached → list_any is_none ids ≡ list_any is_none reached
reached-none t ids reached same =
    sym (any-mapped (λ (id : SlotId). slot_at t id.0) ids) ∙ ap (list_any is_none) same ∙ any-mapped Some reached where
      none-mapped : {A B : Type 0} (f : A → B) (o : Option A) → is_none (option_map f o) ≡ is_none o
      none-mapped f None = refl
      none-mapped f (Some x) = refl

      any-mapped : {A B : Type 0} (f : A → B) (os : List (Option A)) → list_any is_none (map (option_map f) os) ≡ list_any is_none os
      any-mapped f [] = refl
      any-mapped f (o ∷ os) = λ i. none-mapped f o i || any-mapped f os i

-- whether the expression of the slot of a number is too large
pub large_at : (t : Numbered) (n : ℕ) (s : Slot) → slot_at t n ≡ Some s → option_map_or is_too_large (tree_at t n) false ≡ has_large_tree t.document s
large_at t n s e = ap (λ (q : Option Slot). option_map_or is_too_large (option_and_then tree_by (option_and_then (rule_of t.document) q)) false) e

of_bools : (a b : Bool) → (a ≡ true → b ≡ true) → (b ≡ true → a ≡ true) → a ≡ b
of_bools true b f g = sym (f refl)
of_bools false true f g = g refl
of_bools false false f g = refl

-- a count that stops at a greater number passes a limit where the true one does
nat_lt-min : (c n m : ℕ) → c < m → nat_lt c (min n m) ≡ nat_lt c n
nat_lt-min c n m below =
    of_bools (nat_lt c (min n m)) (nat_lt c n)
    (λ e. let lt : c < min n m = (Decides-ltb c (min n m)).0 e in (Decides-ltb c n).1 (omega arith))
    (λ e. let lt : c < n = (Decides-ltb c n).0 e in (Decides-ltb c (min n m)).1 (omega arith))

-- the limits by the counts of the tables
too_many-counted :
    (d : Document) → HoldsVarSets d → (objects all nodes dependencies : ℕ)
    → objects ≡ length d.objects → all ≡ length (slots d) → nodes ≡ min (nodes_of_document d) 4294967295
    → dependencies ≡ min (dependencies_of_document d) 18446744073709551615
    → (nat_lt 4096 objects || nat_lt 65536 all || nat_lt 262144 nodes || nat_lt 4194304 dependencies) ≡ has_too_many d
too_many-counted d holds objects all nodes dependencies a b c e =
    λ i.
    nat_lt 4096 (a i) || nat_lt 65536 ((b ∙ sym (slots_and_empty_cells-slots d holds)) i)
    || ((ap (nat_lt 262144) c ∙ nat_lt-min 262144 (nodes_of_document d) 4294967295 (omega arith)) i)
    || ((ap (nat_lt 4194304) e ∙ nat_lt-min 4194304 (dependencies_of_document d) 18446744073709551615 (omega arith)) i)

nat_lt-false : (c n : ℕ) → n ≤ c → nat_lt c n ≡ false
nat_lt-false c n h = of_bools (nat_lt c n) false (λ e. let lt : c < n = (Decides-ltb c n).0 e in absurd (omega arith)) (λ e. absurd (cc))

-- where the other limits are kept, the dependencies decide
pub too_many-rest :
    (d : Document) → HoldsVarSets d → (objects all nodes dependencies : ℕ)
    → objects ≡ length d.objects → all ≡ length (slots d) → nodes ≡ min (nodes_of_document d) 4294967295
    → dependencies ≡ min (dependencies_of_document d) 18446744073709551615
    → (objects ≤ 4096) × (all ≤ 65536) × (nodes ≤ 262144) → nat_lt 4194304 dependencies ≡ has_too_many d
too_many-rest d holds objects all nodes dependencies a b c e kept =
    (λ i.
    sym (nat_lt-false 4096 objects kept.0) i || sym (nat_lt-false 65536 all kept.1) i || sym (nat_lt-false 262144 nodes kept.2) i
    || nat_lt 4194304 dependencies)
    ∙ too_many-counted d holds objects all nodes dependencies a b c e

-- the other kinds, slot by slot
pub cycle_faults-slots : (d : Document) → cycle_faults d ≡ first_some (cycle_fault d) (slots d)
cycle_faults-slots d = find-first_some (is_cyclic d) (slot_fault cycle) (slots d)

pub range_faults-slots : (d : Document) → range_faults d ≡ first_some (range_fault d) (slots d)
range_faults-slots d = find-first_some (has_value_outside d) (slot_fault out_of_range) (slots d)
