-- Where the objects of a document are changed one by one, and their slots have other names, what is found by
-- names in the changed document is what was found, changed.
use Rattle.std.proofs.Common.{◌≡◌, inl, inr, ℕ, Bool, true, false, cond, List, [], ◌∷◌, ◌++◌, map, Some, None, refl, sym, ap, subst, ◌∙◌, codes}
use Rattle.std.specs.Prelude.{Option, unwrap_or}
use Rattle.std.specs.List.{filter, filter_map, flat_map, cons_option}
use Rattle.std.specs.Option.{option_map, option_and_then, option_map_or, option_to_list}
use Rattle.std.proofs.lemmas.List.{map-append}
use Rattle.fc_base.specs.Graph.{IsIn}
use Rattle.fc_base.specs.Places.{Block}
use Rattle.object_paths.specs.declared.slot_name.Component as part
use Rattle.object_paths.specs.declared.slot_name.SlotName.{SlotName}
use Rattle.object_paths.specs.declared.slot_name.SlotName.TheVariants.{Plain, Component}
use Rattle.object_paths.specs.declared.path.Path.{Path}
use Rattle.object_paths.specs.Slots.{Slot, same_text, same_slot_name}
use Rattle.property_types.specs.declared.plan.InputPlan.{InputPlan}
use Rattle.property_types.specs.Plans.{Slots}
use Rattle.expr_tree.specs.Tree.{Tree}
use Rattle.expr_tree.specs.References.{Reference, to_path, to_area, references, with_references, on_reference}
use Rattle.expr_tree.proofs.ReferenceLemmas.{references-with}
use Rattle.document_model.specs.declared.kind.ObjectKind.{ObjectKind}
use Rattle.document_model.specs.declared.kind.ObjectKind.TheVariants.{VarSet, Sheet, Link, Feature, Foreign}
use Rattle.document_model.specs.Document.{Document, Object, object_named}
use Rattle.document_model.specs.Ends.{end_of, plan_of_kind, plan_behind, has_bounds}
use Rattle.document_model.specs.Slots.{Row, Rule, own, bound, inherit, global, output, rows, row_in, row_of, rule_of, type_of, slot_of, slots}
use Rattle.document_model.specs.Resolution.{resolve, slot_in}
use Rattle.document_model.specs.Dependencies.{existing, slot_reached, is_cell_within, cells_reached, slots_of_tree, placement_of, global_slots, link_slots_read, placed_by, plan_inputs, bounds_of, inputs_behind, inputs_of, deps_by, deps}
use Rattle.document_model.specs.Renamed.{same_area}
use Rattle.document_model.specs.TypedSlots.{components, bound_names}
use Rattle.document_outcomes.proofs.ChangedLists.{filter-changed, find-changed, flat_map-changed, listed}
use Rattle.document_outcomes.proofs.ChangedObjects.{ChangesObjects, object_named-new, end_of-new, has_bounds-new}
use Rattle.document_model.proofs.Members.{found-some, from_append, from_find, from_flat_map, from_map}
use Rattle.document_model.proofs.DistinctNames.{found-passes, same-itself, same-told}

-- ---- references

-- a path that names a slot, or an area
abbrev pub IsKnown : Document → Object → Reference → Type 0
IsKnown d o (to_path p) = (s : Slot) × (resolve d o p ≡ Some s)
IsKnown d o (to_area area) = Unit {0}

-- each reference of an expression is one
abbrev pub IsKnownRule : Document → Object → Option Rule → Type 0
IsKnownRule d o None = Unit {0}
IsKnownRule d o (Some (own v)) = Unit {0}
IsKnownRule d o (Some (bound e)) = (r : Reference) → IsIn r (references e) → IsKnown d o r
IsKnownRule d o (Some (inherit s)) = Unit {0}
IsKnownRule d o (Some (global k)) = Unit {0}
IsKnownRule d o (Some (output k)) = Unit {0}

-- ---- documents whose objects are changed
module _ (d d' : Document) (change : Object → Object) (under : List ℕ → SlotName → SlotName) (on_path : Object → Path → Path) (Fresh : List ℕ → SlotName → Type 0) where
  -- a slot under its new name, and its rule and row
  abbrev pub at_new : Slot → Slot
  at_new s = record { object = s.object; name = under s.object s.name }

  abbrev pub new_tree : Object → Tree → Tree
  new_tree o e = with_references (on_path o) same_area e

  abbrev pub new_rule : Object → Rule → Rule
  new_rule o (own v) = own v
  new_rule o (bound e) = bound (new_tree o e)
  new_rule o (inherit s) = inherit (at_new s)
  new_rule o (global k) = global k
  new_rule o (output k) = output k

  abbrev pub new_row : Object → Row → Row
  new_row o r = record { name = under o.name r.name; prop = r.prop; rule = new_rule o r.rule }

  -- a name that a slot of an object keeps
  abbrev pub Keeps : List ℕ → SlotName → Type 0
  Keeps object name = (under object name ≡ name) × Fresh object name

  -- the slot that an inherited slot reads has no name that is new
  abbrev pub IsFreshRule : Option Rule → Type 0
  IsFreshRule None = Unit {0}
  IsFreshRule (Some (own v)) = Unit {0}
  IsFreshRule (Some (bound e)) = Unit {0}
  IsFreshRule (Some (inherit t)) = Fresh t.object t.name
  IsFreshRule (Some (global k)) = Unit {0}
  IsFreshRule (Some (output k)) = Unit {0}

  -- Objects keep what names others. Their rows are the old ones, changed; slots have new names that differ where the old
  -- ones do, and which no other slot had; and those that are read by their names keep them.
  pub record Carries : Type 0 where
    pub base : ChangesObjects d d' change
    pub row : (o : Object) → IsIn o d.objects → rows d' (change o) ≡ map (new_row o) (rows d o)
    pub same :
        (o : Object) (r : Row) (n : SlotName) → IsIn o d.objects → IsIn r (rows d o) → Fresh o.name n
        → same_slot_name (under o.name r.name) (under o.name n) ≡ same_slot_name r.name n
    pub fresh : (o : Object) (r : Row) → IsIn o d.objects → IsIn r (rows d o) → Fresh o.name r.name
    pub inherited : (o : Object) (r : Row) (t : Slot) → IsIn o d.objects → IsIn r (rows d o) → r.rule ≡ inherit t → Fresh t.object t.name
    pub within : (area : Block) (object : List ℕ) (n : SlotName) → is_cell_within area (under object n) ≡ is_cell_within area n
    pub placement : (object : List ℕ) (k : part.Component) → Keeps object (Component (codes "Placement") k)
    pub global : (object : List ℕ) (k : part.Component) → Keeps object (Component (codes "Global") k)
    pub transform : (object : List ℕ) → Keeps object (Plain (codes "LinkTransform"))
    pub inputs : (o : Object) (plan : Slots) (i : InputPlan) → IsIn o d.objects → plan_behind d o ≡ Some plan → IsIn i plan.inputs → Keeps o.name (Plain i.name)
    pub bounds : (o : Object) (n : List ℕ) → IsIn o d.objects → has_bounds d o ≡ true → IsIn n bound_names → Keeps o.name (Plain n)

  -- each path that named a slot names that slot
  abbrev pub PathsLead : Type 0
  PathsLead =
      (o : Object) (p : Path) (s : Slot) → IsIn o d.objects → resolve d o p ≡ Some s → resolve d' (change o) (on_path o p) ≡ Some (at_new s)

  module _ (c : Carries) where
    -- ---- rows
    pub row_in-new :
        (o : Object) (n : SlotName) → IsIn o d.objects → Fresh o.name n
        → row_in (rows d' (change o)) (under o.name n) ≡ option_map (new_row o) (row_in (rows d o) n)
    row_in-new o n here free =
        ap (λ (all : List Row). row_in all (under o.name n)) (c.row o here)
        ∙ find-changed (new_row o) (λ (r : Row). same_slot_name r.name (under o.name n)) (λ (r : Row). same_slot_name r.name n) (rows d o)
        (λ r j. c.same o r n here j free)

    slot-of : (o : Object) (n : SlotName) → slot_of (change o) n ≡ record { object = o.name; name = n }
    slot-of o n = λ i. record { object = c.base.name o i; name = n }

    slot-found :
        (o : Object) (found : Option Row)
        → option_map (λ (r : Row). slot_of (change o) r.name) (option_map (new_row o) found) ≡ option_map at_new (option_map (λ (r : Row). slot_of o r.name) found)
    slot-found o None = refl
    slot-found o (Some r) = λ i. Some (slot-of o (under o.name r.name) i)

    pub slot_in-new :
        (o : Object) (n : SlotName) → IsIn o d.objects → Fresh o.name n
        → slot_in d' (change o) (under o.name n) ≡ option_map at_new (slot_in d o n)
    slot_in-new o n here free =
        ap (option_map (λ (r : Row). slot_of (change o) r.name)) (row_in-new o n here free) ∙ slot-found o (row_in (rows d o) n)

    -- ---- slots
    named-so : (name : List ℕ) (o : Object) → object_named d name ≡ Some o → o.name ≡ name
    named-so name o h = same-told o.name name (found-passes (λ (q : Object). same_text q.name name) d.objects o h)

    pub in-document : (name : List ℕ) (o : Object) → object_named d name ≡ Some o → IsIn o d.objects
    in-document name o h = from_find (λ (q : Object). same_text q.name name) d.objects o h

    existing-found :
        (t : Slot) (found : Option Object) → object_named d t.object ≡ found → Fresh t.object t.name
        → option_and_then (λ (o : Object). slot_in d' o (under t.object t.name)) (option_map change found)
        ≡ option_map at_new (option_and_then (λ (o : Object). slot_in d o t.name) found)
    existing-found t None h free = refl
    existing-found t (Some o) h free =
        let called = named-so t.object o h in
        ap (λ (n : List ℕ). slot_in d' (change o) (under n t.name)) (sym called)
        ∙ slot_in-new o t.name (in-document t.object o h) (subst (λ (n : List ℕ). Fresh n t.name) (sym called) free)

    pub existing-new : (t : Slot) → Fresh t.object t.name → existing d' (at_new t) ≡ option_map at_new (existing d t)
    existing-new t free =
        ap (option_and_then (λ (o : Object). slot_in d' o (under t.object t.name))) (object_named-new d d' change c.base t.object)
        ∙ existing-found t (object_named d t.object) refl free

    row-of-found :
        (s : Slot) (o : Object) → object_named d s.object ≡ Some o → Fresh s.object s.name
        → row_of d' (at_new s) ≡ option_map (new_row o) (row_of d s)
    row-of-found s o h free =
        let called = named-so s.object o h in
        ap (option_and_then (λ (q : Object). row_in (rows d' q) (under s.object s.name))) (object_named-new d d' change c.base s.object ∙ ap (option_map change) h)
        ∙ ap (λ (n : List ℕ). row_in (rows d' (change o)) (under n s.name)) (sym called)
        ∙ row_in-new o s.name (in-document s.object o h) (subst (λ (n : List ℕ). Fresh n s.name) (sym called) free)
        ∙ ap (λ (found : Option Object). option_map (new_row o) (option_and_then (λ (q : Object). row_in (rows d q) s.name) found)) (sym h)

    rule-found : (o : Object) (found : Option Row) → option_map (λ (r : Row). r.rule) (option_map (new_row o) found) ≡ option_map (new_rule o) (option_map (λ (r : Row). r.rule) found)
    rule-found o None = refl
    rule-found o (Some r) = refl

    type-found : (o : Object) (found : Option Row) → option_and_then (λ (r : Row). r.prop) (option_map (new_row o) found) ≡ option_and_then (λ (r : Row). r.prop) found
    type-found o None = refl
    type-found o (Some r) = refl

    pub rule_of-new : (s : Slot) (o : Object) → object_named d s.object ≡ Some o → Fresh s.object s.name → rule_of d' (at_new s) ≡ option_map (new_rule o) (rule_of d s)
    rule_of-new s o h free = ap (option_map (λ (r : Row). r.rule)) (row-of-found s o h free) ∙ rule-found o (row_of d s)

    pub type_of-new : (s : Slot) (o : Object) → object_named d s.object ≡ Some o → Fresh s.object s.name → type_of d' (at_new s) ≡ type_of d s
    type_of-new s o h free = ap (option_and_then (λ (r : Row). r.prop)) (row-of-found s o h free) ∙ type-found o (row_of d s)

    slots-of :
        (o : Object) (all : List Row)
        → map (λ (r : Row). slot_of (change o) r.name) (map (new_row o) all) ≡ map at_new (map (λ (r : Row). slot_of o r.name) all)
    slots-of o [] = refl
    slots-of o (r ∷ all) = λ i. slot-of o (under o.name r.name) i ∷ slots-of o all i

    -- the slots of the changed document are the slots, under their new names
    pub slots-new : slots d' ≡ map at_new (slots d)
    slots-new =
        ap (flat_map (λ (o : Object). map (λ (r : Row). slot_of o r.name) (rows d' o))) c.base.objects
        ∙ flat_map-changed change (λ (o : Object). map (λ (r : Row). slot_of o r.name) (rows d' o)) (λ (o : Object). map (λ (r : Row). slot_of o r.name) (rows d o)) at_new d.objects
        (λ o j. ap (map (λ (r : Row). slot_of (change o) r.name)) (c.row o j) ∙ slots-of o (rows d o))

    -- ---- dependencies

    -- a slot that keeps its name
    kept : (t : Slot) → Keeps t.object t.name → at_new t ≡ t
    kept t keeps = λ i. record { object = t.object; name = keeps.0 i }

    existing-kept : (t : Slot) → Keeps t.object t.name → existing d' t ≡ option_map at_new (existing d t)
    existing-kept t keeps = ap (existing d') (sym (kept t keeps)) ∙ existing-new t keeps.1

    abbrev pub KeepsIn : List Slot → Type 0
    KeepsIn ts = (t : Slot) → IsIn t ts → Keeps t.object t.name

    existing-all : (ts : List Slot) → KeepsIn ts → filter_map (existing d') ts ≡ map at_new (filter_map (existing d) ts)
    existing-all [] keeps = refl
    existing-all (t ∷ ts) keeps =
        (λ i. cons_option (existing-kept t (keeps t (inl refl)) i) (existing-all ts (λ x j. keeps x (inr j)) i))
        ∙ elim (existing d t) as (λ o. cons_option (option_map at_new o) (map at_new (filter_map (existing d) ts)) ≡ map at_new (cons_option o (filter_map (existing d) ts))) [
          | None ↦ refl
          | Some y ↦ refl
        ]

    keeps-both : (xs ys : List Slot) → KeepsIn xs → KeepsIn ys → KeepsIn (xs ++ ys)
    keeps-both xs ys k l t i = elim (from_append xs ys t i) [ inl j ↦ k t j | inr j ↦ l t j ]

    -- the four parts of a placement
    placement-same : (o : Object) (name : List ℕ) → placement_of name (change o) ≡ placement_of name o
    placement-same o name = λ i. map (λ k. record { object = c.base.name o i; name = Component name k }) components

    keeps-placement : (o : Object) (name : List ℕ) → ((k : part.Component) → Keeps o.name (Component name k)) → KeepsIn (placement_of name o)
    keeps-placement o name keeps t i =
        let m = from_map (λ (k : part.Component). slot_of o (Component name k)) components t i in
        subst (λ (q : Slot). Keeps q.object q.name) (sym m.2) (keeps m.0)

    keeps-global : (object : List ℕ) → KeepsIn (global_slots object)
    keeps-global object t i =
        let m = from_map (λ (k : part.Component). record { object = object; name = Component (codes "Global") k }) components t i in
        subst (λ (q : Slot). Keeps q.object q.name) (sym m.2) (c.global object m.0)

    read-same : (o : Object) (k : ObjectKind) → link_slots_read (change o) k ≡ link_slots_read o k
    read-same o VarSet = refl
    read-same o Sheet = refl
    read-same o Link = λ i. record { object = c.base.name o i; name = Plain (codes "LinkTransform") } ∷ global_slots (unwrap_or (c.base.target o i) [])
    read-same o (Feature plan) = refl
    read-same o (Foreign type) = refl

    keeps-read : (o : Object) (k : ObjectKind) → KeepsIn (link_slots_read o k)
    keeps-read o VarSet t i = absurd i
    keeps-read o Sheet t i = absurd i
    keeps-read o Link t (inl e) = subst (λ (q : Slot). Keeps q.object q.name) (sym e) (c.transform o.name)
    keeps-read o Link t (inr i) = keeps-global (unwrap_or o.target []) t i
    keeps-read o (Feature plan) t i = absurd i
    keeps-read o (Foreign type) t i = absurd i

    -- the input list of an object is that of the object as it was
    plan_inputs-same : (o : Object) (plan : Slots) → plan_inputs (change o) plan ≡ plan_inputs o plan
    plan_inputs-same o plan = λ i.
        map (λ (p : InputPlan). record { object = c.base.name o i; name = Plain p.name }) plan.inputs
        ++ cond plan.placed (map (λ k. record { object = c.base.name o i; name = Component (placed_by (c.base.kind o i)) k }) components) []

    bounds-found :
        (found : Option Object)
        → option_map_or (λ (m : Object). cond (has_bounds d' m) (map (λ n. slot_of m (Plain n)) bound_names) []) (option_map change found) []
        ≡ option_map_or (λ (m : Object). cond (has_bounds d m) (map (λ n. slot_of m (Plain n)) bound_names) []) found []
    bounds-found None = refl
    bounds-found (Some m) = λ i. cond (has_bounds-new d d' change c.base m i) (map (λ n. record { object = c.base.name m i; name = Plain n }) bound_names) []

    bounds-same : (name : List ℕ) → bounds_of d' name ≡ bounds_of d name
    bounds-same name =
        ap (λ (found : Option Object). option_map_or (λ (m : Object). cond (has_bounds d' m) (map (λ n. slot_of m (Plain n)) bound_names) []) found []) (object_named-new d d' change c.base name)
        ∙ bounds-found (object_named d name)

    behind-same : (o end : Object) → inputs_behind d' (change o) (change end) ≡ inputs_behind d o end
    behind-same o end = λ i.
        option_map (λ (plan : Slots). plan_inputs-same o plan i ++ flat_map (λ n. bounds-same n i) (c.base.members end i)) (plan_of_kind (c.base.kind end i))

    inputs-found : (o : Object) (found : Option Object) → option_and_then (inputs_behind d' (change o)) (option_map change found) ≡ option_and_then (inputs_behind d o) found
    inputs-found o None = refl
    inputs-found o (Some end) = behind-same o end

    pub inputs_of-new : (o : Object) → inputs_of d' (change o) ≡ inputs_of d o
    inputs_of-new o = ap (option_and_then (inputs_behind d' (change o))) (end_of-new d d' change c.base o) ∙ inputs-found o (end_of d o)

    keeps-placed : (o : Object) (kind : ObjectKind) (k : part.Component) → Keeps o.name (Component (placed_by kind) k)
    keeps-placed o VarSet k = c.placement o.name k
    keeps-placed o Sheet k = c.placement o.name k
    keeps-placed o Link k = c.global o.name k
    keeps-placed o (Feature plan) k = c.placement o.name k
    keeps-placed o (Foreign type) k = c.placement o.name k

    keeps-if : (placed : Bool) (ts : List Slot) → KeepsIn ts → KeepsIn (cond placed ts [])
    keeps-if true ts keeps t i = keeps t i
    keeps-if false ts keeps t i = absurd i

    keeps-inputs : (o : Object) (plan : Slots) → IsIn o d.objects → plan_behind d o ≡ Some plan → KeepsIn (plan_inputs o plan)
    keeps-inputs o plan here behind =
        keeps-both (map (λ (p : InputPlan). slot_of o (Plain p.name)) plan.inputs) (cond plan.placed (placement_of (placed_by o.kind) o) [])
        (λ t i.
        let m = from_map (λ (p : InputPlan). slot_of o (Plain p.name)) plan.inputs t i in
        subst (λ (q : Slot). Keeps q.object q.name) (sym m.2) (c.inputs o plan m.0 here behind m.1))
        (keeps-if plan.placed (placement_of (placed_by o.kind) o) (keeps-placement o (placed_by o.kind) (keeps-placed o o.kind)))

    keeps-bounds-if : (m : Object) (b : Bool) → IsIn m d.objects → has_bounds d m ≡ b → KeepsIn (cond b (map (λ n. slot_of m (Plain n)) bound_names) [])
    keeps-bounds-if m true here has t i =
        let k = from_map (λ (n : List ℕ). slot_of m (Plain n)) bound_names t i in
        subst (λ (q : Slot). Keeps q.object q.name) (sym k.2) (c.bounds m k.0 here has k.1)
    keeps-bounds-if m false here has t i = absurd i

    keeps-bounds-of : (name : List ℕ) (found : Option Object) → object_named d name ≡ found → KeepsIn (option_map_or (λ (m : Object). cond (has_bounds d m) (map (λ n. slot_of m (Plain n)) bound_names) []) found [])
    keeps-bounds-of name None h t i = absurd i
    keeps-bounds-of name (Some m) h t i = keeps-bounds-if m (has_bounds d m) (in-document name m h) refl t i

    keeps-members : (names : List (List ℕ)) → KeepsIn (flat_map (bounds_of d) names)
    keeps-members names t i =
        let m = from_flat_map (bounds_of d) names t i in
        keeps-bounds-of m.0 (object_named d m.0) refl t m.2

    keeps-behind :
        (o end : Object) (plan : Option Slots) → IsIn o d.objects → plan_behind d o ≡ plan
        → KeepsIn (unwrap_or (option_map (λ (p : Slots). plan_inputs o p ++ flat_map (bounds_of d) end.members) plan) [])
    keeps-behind o end None here behind t i = absurd i
    keeps-behind o end (Some plan) here behind t i =
        keeps-both (plan_inputs o plan) (flat_map (bounds_of d) end.members) (keeps-inputs o plan here behind) (keeps-members end.members) t i

    keeps-inputs-of : (o : Object) (found : Option Object) → IsIn o d.objects → end_of d o ≡ found → KeepsIn (unwrap_or (option_and_then (inputs_behind d o) found) [])
    keeps-inputs-of o None here ends t i = absurd i
    keeps-inputs-of o (Some end) here ends t i =
        keeps-behind o end (plan_of_kind end.kind) here (ap (option_and_then (λ (e : Object). plan_of_kind e.kind)) ends) t i

    -- ---- a slot of the document

    -- it stands in an object, and has a name that is not new
    slot-stands : (s : Slot) → IsIn s (slots d) → (o : Object) × IsIn o d.objects × (s.object ≡ o.name) × Fresh s.object s.name
    slot-stands s i =
        let m = from_flat_map (λ (o : Object). map (λ (r : Row). slot_of o r.name) (rows d o)) d.objects s i in
        let k = from_map (λ (r : Row). slot_of m.0 r.name) (rows d m.0) s m.2 in
        (m.0, m.1, ap (λ (q : Slot). q.object) k.2, subst (λ (q : Slot). Fresh q.object q.name) (sym k.2) (c.fresh m.0 k.0 m.1 k.1))

    pub slot-fresh : (s : Slot) → IsIn s (slots d) → Fresh s.object s.name
    slot-fresh s i = (slot-stands s i).3

    -- the object of its name is there
    pub slot-object : (s : Slot) → IsIn s (slots d) → (o : Object) × (object_named d s.object ≡ Some o)
    slot-object s i =
        let m = slot-stands s i in
        found-some (λ (o : Object). same_text o.name s.object) d.objects m.0 m.1
        (ap (λ (n : List ℕ). same_text m.0.name n) m.2 ∙ same-itself m.0.name)

    fresh-rule : (o : Object) (r : Row) → IsIn o d.objects → IsIn r (rows d o) → (rule : Rule) → r.rule ≡ rule → IsFreshRule (Some rule)
    fresh-rule o r here i (own v) e = tt
    fresh-rule o r here i (bound t) e = tt
    fresh-rule o r here i (inherit t) e = c.inherited o r t here i e
    fresh-rule o r here i (global k) e = tt
    fresh-rule o r here i (output k) e = tt

    fresh-found : (o : Object) (n : SlotName) (found : Option Row) → IsIn o d.objects → row_in (rows d o) n ≡ found → IsFreshRule (option_map (λ (r : Row). r.rule) found)
    fresh-found o n None here h = tt
    fresh-found o n (Some r) here h = fresh-rule o r here (from_find (λ (q : Row). same_slot_name q.name n) (rows d o) r h) r.rule refl

    slot-rule : (s : Slot) (o : Object) → object_named d s.object ≡ Some o → rule_of d s ≡ option_map (λ (r : Row). r.rule) (row_in (rows d o) s.name)
    slot-rule s o h = ap (λ (found : Option Object). option_map (λ (r : Row). r.rule) (option_and_then (λ (q : Object). row_in (rows d q) s.name) found)) h

    pub slot-fresh_rule : (s : Slot) (o : Object) → object_named d s.object ≡ Some o → IsFreshRule (rule_of d s)
    slot-fresh_rule s o h = subst IsFreshRule (sym (slot-rule s o h)) (fresh-found o s.name (row_in (rows d o) s.name) (in-document s.object o h) refl)

    -- ---- expressions

    -- the changed references of an expression of an object of the document, each of which names something
    module _ (path : PathsLead) (o : Object) (here : IsIn o d.objects) where
      pub reached-new : (r : Reference) → IsKnown d o r → slot_reached d' (change o) (on_reference (on_path o) same_area r) ≡ option_map at_new (slot_reached d o r)
      reached-new (to_path p) known = path o p known.0 here known.1 ∙ ap (option_map at_new) (sym known.1)
      reached-new (to_area area) known = refl

      pub cells-new : (r : Reference) → cells_reached d' (change o) (on_reference (on_path o) same_area r) ≡ map at_new (cells_reached d o r)
      cells-new (to_path p) = refl
      cells-new (to_area area) =
          ap (λ (all : List Row). map (λ (r : Row). slot_of (change o) r.name) (filter (λ (r : Row). is_cell_within area r.name) all)) (c.row o here)
          ∙ ap (map (λ (r : Row). slot_of (change o) r.name))
          (filter-changed (new_row o) (λ (r : Row). is_cell_within area r.name) (λ (r : Row). is_cell_within area r.name) (rows d o) (λ r j. c.within area o.name r.name))
          ∙ slots-of o (filter (λ (r : Row). is_cell_within area r.name) (rows d o))

      slots_of_tree-new :
          (e : Tree) → ((r : Reference) → IsIn r (references e) → IsKnown d o r)
          → slots_of_tree d' (change o) (new_tree o e) ≡ map at_new (slots_of_tree d o e)
      slots_of_tree-new e known =
          ap (λ (rs : List Reference). flat_map (λ r. option_to_list (slot_reached d' (change o) r)) rs ++ flat_map (cells_reached d' (change o)) rs)
          (references-with (on_path o) same_area e)
          ∙ (λ i.
          flat_map-changed (on_reference (on_path o) same_area) (λ r. option_to_list (slot_reached d' (change o) r)) (λ r. option_to_list (slot_reached d o r)) at_new (references e)
          (λ r j. ap option_to_list (reached-new r (known r j)) ∙ listed at_new (slot_reached d o r)) i
          ++ flat_map-changed (on_reference (on_path o) same_area) (cells_reached d' (change o)) (cells_reached d o) at_new (references e) (λ r j. cells-new r) i)
          ∙ sym (map-append at_new (flat_map (λ r. option_to_list (slot_reached d o r)) (references e)) (flat_map (cells_reached d o) (references e)))

    -- what the rule of a slot depends on
    deps_by-new :
        PathsLead → (s : Slot) (o : Object) (rule : Option Rule) → IsIn o d.objects → IsKnownRule d o rule → IsFreshRule rule
        → deps_by d' (change o) (option_map (new_rule o) rule) ≡ map at_new (deps_by d o rule)
    deps_by-new path s o None here known free = refl
    deps_by-new path s o (Some (own v)) here known free = refl
    deps_by-new path s o (Some (bound e)) here known free = slots_of_tree-new path o here e known
    deps_by-new path s o (Some (inherit t)) here known free =
        (λ i. cons_option (existing-new t free i) [])
        ∙ elim (existing d t) as (λ q. cons_option (option_map at_new q) [] ≡ map at_new (cons_option q [])) [ None ↦ refl | Some y ↦ refl ]
    deps_by-new path s o (Some (global k)) here known free =
        (λ i. filter_map (existing d') (placement-same o (codes "Placement") i ++ link_slots_read (change o) (c.base.kind o i)))
        ∙ (λ i. filter_map (existing d') (placement_of (codes "Placement") o ++ read-same o o.kind i))
        ∙ existing-all (placement_of (codes "Placement") o ++ link_slots_read o o.kind)
        (keeps-both (placement_of (codes "Placement") o) (link_slots_read o o.kind)
        (keeps-placement o (codes "Placement") (c.placement o.name)) (keeps-read o o.kind))
    deps_by-new path s o (Some (output k)) here known free =
        (λ i. filter_map (existing d') (unwrap_or (inputs_of-new o i) []))
        ∙ existing-all (unwrap_or (inputs_of d o) []) (keeps-inputs-of o (end_of d o) here refl)

    -- the dependencies of a slot are those that it had, under their new names
    pub deps-new :
        PathsLead → (s : Slot) (o : Object) → IsIn s (slots d) → object_named d s.object ≡ Some o → IsKnownRule d o (rule_of d s)
        → deps d' (at_new s) ≡ map at_new (deps d s)
    unfolding deps
    deps-new path s o here h known =
        ap (λ (found : Option Object). option_map_or (λ (q : Object). deps_by d' q (rule_of d' (at_new s))) found []) (object_named-new d d' change c.base s.object ∙ ap (option_map change) h)
        ∙ ap (deps_by d' (change o)) (rule_of-new s o h (slot-fresh s here))
        ∙ deps_by-new path s o (rule_of d s) (in-document s.object o h) known (slot-fresh_rule s o h)
        ∙ ap (λ (found : Option Object). map at_new (option_map_or (λ (q : Object). deps_by d q (rule_of d s)) found [])) (sym h)
