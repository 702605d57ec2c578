-- A content of the type of a slot keeps the form of a document: what the look-up of the slot finds has
-- the type of each slot of that name among inputs and dynamic properties.
use Rattle.std.proofs.Common.{◌≡◌, inl, inr, ℕ, Bool, true, false, cond, not, ◌&&◌, ◌||◌, List, [], ◌∷◌, ◌++◌, map, Some, None, refl, sym, ap, subst, ◌∙◌, append-nil, codes}
use Rattle.std.specs.List.{find, flat_map, list_all, AllByRecursion}
use Rattle.std.specs.Option.{option_and_then}
use Rattle.std.proofs.lemmas.Bool.{and_parts, or_from, or_parts, false≢true, false_from_ne_true}
use Rattle.std.proofs.lemmas.List.{map-append}
use Rattle.std.proofs.lemmas.List.Concat.{flat_map-append}
use Rattle.std.proofs.lemmas.List.Folds.{list_all-append}
use Rattle.fc_base.specs.Graph.{IsIn}
use Rattle.object_paths.specs.declared.slot_name.Component as c
use Rattle.object_paths.specs.declared.slot_name.Component.TheVariants.{X, Y, Z, Turn}
use Rattle.object_paths.specs.declared.slot_name.SlotName.{SlotName}
use Rattle.object_paths.specs.declared.slot_name.SlotName.TheVariants.{Plain, Component, Marked}
use Rattle.object_paths.specs.Slots.{Slot, same_text, same_component, same_slot_name}
use Rattle.property_types.specs.declared.plan.InputPlan.{InputPlan}
use Rattle.property_types.specs.declared.plan.OutputPlan.{OutputPlan}
use Rattle.property_types.specs.declared.prop_type.PropType.{PropType}
use Rattle.property_types.specs.declared.prop_type.PropType.TheVariants as prop
use Rattle.property_types.specs.Plans.{Slots}
use Rattle.property_types.specs.Reserved.{is_among, are_distinct, is_reserved}
use Rattle.property_types.specs.SoundPlans.{is_property_name, is_slot_type}
use Rattle.fc_base.specs.Texts.{is_name}
use Rattle.fc_base.specs.Places.{looks_like_address}
use Rattle.document_model.specs.declared.content.Content.{Content}
use Rattle.document_model.specs.declared.kind.ObjectKind.{ObjectKind}
use Rattle.document_model.specs.declared.kind.ObjectKind.TheVariants.{VarSet, Sheet, Link, Feature, Foreign}
use Rattle.document_model.specs.Contents.{IsContentOf}
use Rattle.document_model.specs.Document.{Document, Object, Property, object_named}
use Rattle.document_model.specs.Edited.{with_content}
use Rattle.document_model.specs.Ends.{end_of}
use Rattle.document_model.specs.Kinds.{has_dynamics, is_sheet, names_of_kind}
use Rattle.document_model.specs.Slots.{Row, row_with, content_at, rows_with, rows_in_order, dynamic_rows, cell_rows, outcome_rows, rows_behind, rows_by, rows, row_in, row_of, type_of}
use Rattle.document_model.specs.TypedSlots.{components, type_of_component, property_slots, placement_slots, unplaced_slots, input_slots, dynamic_slots}
use Rattle.document_model.specs.WellFormed.{IsKind, IsProperty, IsObject, IsWellFormed, Only}
use Rattle.document_model.proofs.DistinctNames.{same-swapped, same-told, found-passes, distinct-parts, distinct-cons, distinct-ends, among-neither, among-parts, only-one, only-found, all-in}
use Rattle.document_model.proofs.FormLemmas.{FitsSlots, IsWellFormed-with_content}
use Rattle.document_model.proofs.Members.{found-some, from_map, from_append, from_flat_map, IsIn-map, IsIn-left, IsIn-right, IsIn-flat_map}

-- ---- names of slots

-- the name of the property or input of a slot
abbrev of_slot : SlotName → List ℕ
of_slot (Plain name) = name
of_slot (Component name k) = name
of_slot (Marked p) = []

-- the type of a slot of that name in a property of a type
abbrev type_by : PropType → SlotName → PropType
type_by type (Plain name) = type
type_by type (Component name k) = type_of_component k
type_by type (Marked p) = type

same-type : (k l : c.Component) → same_component k l ≡ true → type_of_component k ≡ type_of_component l
same-type X X h = refl
same-type Y Y h = refl
same-type Z Z h = refl
same-type Turn Turn h = refl
same-type _ _ h = absurd (cc)

same-slot : (type : PropType) (m n : SlotName) → same_slot_name m n ≡ true → (of_slot m ≡ of_slot n) × (type_by type m ≡ type_by type n)
same-slot type (Plain a) (Plain b) h = (same-told a b h, refl)
same-slot type (Component a k) (Component b l) h =
    let parts = and_parts (same_text a b) (same_component k l) h in
    (same-told a b parts.0, same-type k l parts.1)
same-slot type (Marked p) (Marked q) h = (refl, refl)
same-slot type _ _ h = absurd (cc)

-- a slot of a property of a name and a type
abbrev Belongs : List ℕ → PropType → SlotName × PropType → Type 0
Belongs name type slot = (of_slot slot.0 ≡ name) × (slot.1 ≡ type_by type slot.0)

belongs : (name : List ℕ) (type : PropType) (slot : SlotName × PropType) → IsIn slot (property_slots name type) → Belongs name type slot
belongs name prop.Placement slot i =
    let m = from_map (λ (k : c.Component). (Component name k, type_of_component k)) components slot i in
    subst (Belongs name prop.Placement) (sym m.2) (refl, refl)
belongs name type slot (inl e) = subst (Belongs name type) (sym e) (refl, refl)
belongs name type slot (inr i) = absurd i

-- ---- names with types, of which each has slots
abbrev Named : Type 0
Named = List ℕ × PropType

abbrev slots_named : List Named → List (SlotName × PropType)
slots_named things = flat_map (λ (e : Named). property_slots e.0 e.1) things

-- slots of one name are of one type
abbrev AreOneType : List (SlotName × PropType) → Type 0
AreOneType slots =
    (name : SlotName) (a b : SlotName × PropType) → IsIn a slots → IsIn b slots → same_slot_name a.0 name ≡ true → same_slot_name b.0 name ≡ true → a.1 ≡ b.1

one-type : (things : List Named) → are_distinct (map (λ (e : Named). e.0) things) ≡ true → AreOneType (slots_named things)
one-type things h name a b i j p q =
    let m = from_flat_map (λ (e : Named). property_slots e.0 e.1) things a i in
    let n = from_flat_map (λ (e : Named). property_slots e.0 e.1) things b j in
    let one = belongs (m.0).0 (m.0).1 a m.2 in
    let two = belongs (n.0).0 (n.0).1 b n.2 in
    let left = same-slot (m.0).1 a.0 name p in
    let right = same-slot (n.0).1 b.0 name q in
    let same : m.0 ≡ n.0 = only-one (λ (e : Named). e.0) things m.0 n.0 h m.1 n.1 (sym one.0 ∙ left.0 ∙ sym right.0 ∙ two.0) in
    one.1 ∙ left.1 ∙ ap (λ (e : Named). type_by e.1 name) same ∙ sym right.1 ∙ sym two.1

-- ---- the names of an object's slots
abbrev placement : List Named
placement = (codes "Placement", prop.Placement) ∷ []

abbrev input_thing : InputPlan → Named
input_thing i = (i.name, i.prop)

abbrev property_thing : Property → Named
property_thing p = (p.name, p.prop)

abbrev things_of : ObjectKind → List Named
things_of VarSet = []
things_of Sheet = []
things_of Link = (codes "Placement", prop.Placement) ∷ (codes "LinkTransform", prop.Bool) ∷ []
things_of (Feature plan) = map input_thing plan.inputs ++ cond plan.placed placement []
things_of (Foreign type) = []

one-slot : (name : List ℕ) (type : PropType) → is_slot_type type ≡ true → property_slots name type ≡ (Plain name, type) ∷ []
one-slot name prop.Placement h = absurd (cc)
one-slot name _ h = refl

slots-of_inputs : (inputs : List InputPlan) → list_all is_slot_type (map (λ (i : InputPlan). i.prop) inputs) ≡ true → slots_named (map input_thing inputs) ≡ unplaced_slots inputs
slots-of_inputs [] h = refl
slots-of_inputs (i ∷ inputs) h =
    let parts = and_parts (is_slot_type i.prop) (list_all is_slot_type (map (λ (k : InputPlan). k.prop) inputs)) h in
    λ j. one-slot i.name i.prop parts.0 j ++ slots-of_inputs inputs parts.1 j

slots-of_placement : (placed : Bool) → slots_named (cond placed placement []) ≡ cond placed (placement_slots (codes "Placement")) []
slots-of_placement true = refl
slots-of_placement false = refl

slots-of_kind : (kind : ObjectKind) → IsKind kind → slots_named (things_of kind) ≡ input_slots kind
slots-of_kind VarSet is = refl
slots-of_kind Sheet is = refl
slots-of_kind Link is = refl
slots-of_kind (Feature plan) is =
    let types =
    and_parts (list_all is_slot_type (map (λ (i : InputPlan). i.prop) plan.inputs)) (list_all is_slot_type (map (λ (o : OutputPlan). o.prop) plan.outputs))
    (sym (list_all-append is_slot_type (map (λ (i : InputPlan). i.prop) plan.inputs) (map (λ (o : OutputPlan). o.prop) plan.outputs)) ∙ is.sound.types)
    in
    flat_map-append (λ (e : Named). property_slots e.0 e.1) (map input_thing plan.inputs) (cond plan.placed placement [])
    ∙ (λ j. slots-of_inputs plan.inputs types.0 j ++ slots-of_placement plan.placed j)
slots-of_kind (Foreign type) is = refl

slots-of_properties : (ps : List Property) → slots_named (map property_thing ps) ≡ dynamic_slots ps
slots-of_properties [] = refl
slots-of_properties (p ∷ ps) = ap (λ (slots : List (SlotName × PropType)). property_slots p.name p.prop ++ slots) (slots-of_properties ps)

slots-of_all : (kind : ObjectKind) (ps : List Property) → IsKind kind → slots_named (things_of kind ++ map property_thing ps) ≡ input_slots kind ++ dynamic_slots ps
slots-of_all kind ps is =
    flat_map-append (λ (e : Named). property_slots e.0 e.1) (things_of kind) (map property_thing ps)
    ∙ (λ j. slots-of_kind kind is j ++ slots-of_properties ps j)

-- ---- they are distinct
names-of_inputs : (inputs : List InputPlan) → map (λ (e : Named). e.0) (map input_thing inputs) ≡ map (λ (i : InputPlan). i.name) inputs
names-of_inputs [] = refl
names-of_inputs (i ∷ inputs) = ap (λ (names : List (List ℕ)). i.name ∷ names) (names-of_inputs inputs)

names-of_properties : (ps : List Property) → map (λ (e : Named). e.0) (map property_thing ps) ≡ map (λ (p : Property). p.name) ps
names-of_properties [] = refl
names-of_properties (p ∷ ps) = ap (λ (names : List (List ℕ)). p.name ∷ names) (names-of_properties ps)

-- the name of a placement is reserved
no-placement : (name : List ℕ) → is_property_name name ≡ true → same_text (codes "Placement") name ≡ false
no-placement name h =
    false_from_ne_true (same_text (codes "Placement") name) (λ e.
    let here : (is_name (codes "Placement") && not (is_reserved (codes "Placement"))) ≡ true =
    subst (λ (text : List ℕ). is_property_name text ≡ true) (sym (same-told (codes "Placement") name e)) h
    in
    false≢true (and_parts (is_name (codes "Placement")) (not (is_reserved (codes "Placement"))) here).1)

no-placements : (names : List (List ℕ)) → list_all is_property_name names ≡ true → is_among (codes "Placement") names ≡ false
no-placements [] h = refl
no-placements (name ∷ names) h =
    let parts = and_parts (is_property_name name) (list_all is_property_name names) h in
    or_from (same_text (codes "Placement") name) (is_among (codes "Placement") names) (no-placement name parts.0) (no-placements names parts.1)

no-placement_property : (kind : ObjectKind) (ps : List Property) → AllByRecursion (IsProperty kind) ps → is_among (codes "Placement") (map (λ (p : Property). p.name) ps) ≡ false
no-placement_property kind [] all = refl
no-placement_property kind (p ∷ ps) all =
    or_from (same_text (codes "Placement") p.name) (is_among (codes "Placement") (map (λ (q : Property). q.name) ps))
    (no-placement p.name (and_parts (is_property_name p.name) (not (is_sheet kind) || not (looks_like_address p.name)) all.0.name).0)
    (no-placement_property kind ps all.1)

distinct-within : (name : List ℕ) (xs ys : List (List ℕ)) → are_distinct (xs ++ ys) ≡ true → is_among name (xs ++ ys) ≡ false → are_distinct ((xs ++ name ∷ []) ++ ys) ≡ true
distinct-within name [] ys h apart = distinct-cons name ys apart h
distinct-within name (x ∷ xs) ys h apart =
    let parts = distinct-parts x (xs ++ ys) h in
    let each = among-parts x xs ys parts.0 in
    let other = or_parts (same_text name x) (is_among name (xs ++ ys)) apart in
    distinct-cons x ((xs ++ name ∷ []) ++ ys)
    (among-neither x (xs ++ name ∷ []) ys (among-neither x xs (name ∷ []) each.0 (or_from (same_text x name) false (same-swapped x name ∙ other.0) refl)) each.1)
    (distinct-within name xs ys parts.1 other.1)

distinct-placed : (placed : Bool) (xs ys : List (List ℕ)) → are_distinct (xs ++ ys) ≡ true → is_among (codes "Placement") (xs ++ ys) ≡ false
    → are_distinct ((xs ++ map (λ (e : Named). e.0) (cond placed placement [])) ++ ys) ≡ true
distinct-placed true xs ys h apart = distinct-within (codes "Placement") xs ys h apart
distinct-placed false xs ys h apart = ap (λ (names : List (List ℕ)). are_distinct (names ++ ys)) (append-nil xs) ∙ h

distinct-plan : (plan : Slots) (ps : List Property) → IsKind (Feature plan) → AllByRecursion (IsProperty (Feature plan)) ps
    → are_distinct (names_of_kind (Feature plan) ++ map (λ (p : Property). p.name) ps) ≡ true
    → are_distinct (map (λ (e : Named). e.0) (things_of (Feature plan) ++ map property_thing ps)) ≡ true
distinct-plan plan ps is each h =
    let ins : List (List ℕ) = map (λ (i : InputPlan). i.name) plan.inputs in
    let outs : List (List ℕ) = map (λ (o : OutputPlan). o.name) plan.outputs in
    let names : List (List ℕ) = map (λ (p : Property). p.name) ps in
    let named = and_parts (list_all is_property_name ins) (list_all is_property_name outs) (sym (list_all-append is_property_name ins outs) ∙ is.sound.names) in
    ap are_distinct
    (map-append (λ (e : Named). e.0) (things_of (Feature plan)) (map property_thing ps)
    ∙ (λ j.
    (map-append (λ (e : Named). e.0) (map input_thing plan.inputs) (cond plan.placed placement [])
    ∙ ap (λ (front : List (List ℕ)). front ++ map (λ (e : Named). e.0) (cond plan.placed placement [])) (names-of_inputs plan.inputs)) j
    ++ names-of_properties ps j))
    ∙ distinct-placed plan.placed ins names (distinct-ends ins outs names h)
    (among-neither (codes "Placement") ins names (no-placements ins named.0) (no-placement_property (Feature plan) ps each))

distinct-all : (kind : ObjectKind) (ps : List Property) → IsKind kind → Only (has_dynamics kind) ps → AllByRecursion (IsProperty kind) ps
    → are_distinct (names_of_kind kind ++ map (λ (p : Property). p.name) ps) ≡ true
    → are_distinct (map (λ (e : Named). e.0) (things_of kind ++ map property_thing ps)) ≡ true
distinct-all VarSet ps is only each h = ap are_distinct (names-of_properties ps) ∙ h
distinct-all Sheet ps is only each h = ap are_distinct (names-of_properties ps) ∙ h
distinct-all Link ps is only each h = ap (λ (qs : List Property). are_distinct (map (λ (e : Named). e.0) (things_of Link ++ map property_thing qs))) only
distinct-all (Feature plan) ps is only each h = distinct-plan plan ps is each h
distinct-all (Foreign type) ps is only each h = ap (λ (qs : List Property). are_distinct (map (λ (e : Named). e.0) (map property_thing qs))) only

-- the slots of one name among an object's inputs and dynamic properties are of one type
object-one_type : (o : Object) → IsObject o → AreOneType (input_slots o.kind ++ dynamic_slots o.dynamics)
object-one_type o is =
    subst AreOneType (slots-of_all o.kind o.dynamics is.kind)
    (one-type (things_of o.kind ++ map property_thing o.dynamics) (distinct-all o.kind o.dynamics is.kind is.only_dynamics is.dynamics is.distinct))

-- ---- rows and slots

-- a row with the name and the type of a slot
abbrev IsOfSlot : List (SlotName × PropType) → Row → Type 0
IsOfSlot slots r = (slot : SlotName × PropType) × IsIn slot slots × (r.name ≡ slot.0) × (r.prop ≡ Some slot.1)

-- a slot with a row
abbrev HasRow : List Row → SlotName × PropType → Type 0
HasRow rs slot = (r : Row) × IsIn r rs × (r.name ≡ slot.0)

rows-with : (slots : List (SlotName × PropType)) (inputs : List (SlotName × Content)) (r : Row) → IsIn r (rows_with slots inputs) → IsOfSlot slots r
rows-with slots inputs r i =
    let m = from_map (λ (slot : SlotName × PropType). row_with (content_at slot.0 inputs) slot) slots r i in
    (m.0, m.1, ap (λ (q : Row). q.name) m.2, ap (λ (q : Row). q.prop) m.2)

rows-ordered : (slots : List (SlotName × PropType)) (contents : List Content) (r : Row) → IsIn r (rows_in_order slots contents) → IsOfSlot slots r
rows-ordered [] contents r i = absurd i
rows-ordered (slot ∷ slots) [] r (inl e) = (slot, inl refl, ap (λ (q : Row). q.name) e, ap (λ (q : Row). q.prop) e)
rows-ordered (slot ∷ slots) [] r (inr i) = let m = rows-ordered slots [] r i in (m.0, inr m.1, m.2, m.3)
rows-ordered (slot ∷ slots) (content ∷ contents) r (inl e) = (slot, inl refl, ap (λ (q : Row). q.name) e, ap (λ (q : Row). q.prop) e)
rows-ordered (slot ∷ slots) (content ∷ contents) r (inr i) = let m = rows-ordered slots contents r i in (m.0, inr m.1, m.2, m.3)

slots-ordered : (slots : List (SlotName × PropType)) (contents : List Content) (slot : SlotName × PropType) → IsIn slot slots → HasRow (rows_in_order slots contents) slot
slots-ordered [] contents slot i = absurd i
slots-ordered (first ∷ slots) [] slot (inl e) = (row_with None first, inl refl, ap (λ (q : SlotName × PropType). q.0) (sym e))
slots-ordered (first ∷ slots) [] slot (inr i) = let m = slots-ordered slots [] slot i in (m.0, inr m.1, m.2)
slots-ordered (first ∷ slots) (content ∷ contents) slot (inl e) = (row_with (Some content) first, inl refl, ap (λ (q : SlotName × PropType). q.0) (sym e))
slots-ordered (first ∷ slots) (content ∷ contents) slot (inr i) = let m = slots-ordered slots contents slot i in (m.0, inr m.1, m.2)

-- the rows of inputs and dynamic properties
abbrev first_rows : Object → ObjectKind → List Row
first_rows o kind = rows_with (input_slots kind) o.inputs ++ dynamic_rows o

abbrev first_slots : Object → ObjectKind → List (SlotName × PropType)
first_slots o kind = input_slots kind ++ dynamic_slots o.dynamics

module _ (o : Object) (kind : ObjectKind) where
  row-first : (r : Row) → IsIn r (first_rows o kind) → IsOfSlot (first_slots o kind) r
  row-first r i =
      elim (from_append (rows_with (input_slots kind) o.inputs) (dynamic_rows o) r i) [
        | inl j ↦
            let m = rows-with (input_slots kind) o.inputs r j in
            (m.0, IsIn-left (input_slots kind) (dynamic_slots o.dynamics) m.0 m.1, m.2, m.3)
        | inr j ↦
            let p = from_flat_map (λ (p : Property). rows_in_order (property_slots p.name p.prop) p.contents) o.dynamics r j in
            let m = rows-ordered (property_slots (p.0).name (p.0).prop) (p.0).contents r p.2 in (
              m.0,
              IsIn-right (input_slots kind) (dynamic_slots o.dynamics) m.0 (IsIn-flat_map (λ (q : Property). property_slots q.name q.prop) o.dynamics p.0 m.0 p.1 m.1),
              m.2,
              m.3,
            )
      ]

  slot-first : (slot : SlotName × PropType) → IsIn slot (first_slots o kind) → HasRow (first_rows o kind) slot
  slot-first slot i =
      elim (from_append (input_slots kind) (dynamic_slots o.dynamics) slot i) [
        | inl j ↦ (
          row_with (content_at slot.0 o.inputs) slot,
          IsIn-left (rows_with (input_slots kind) o.inputs) (dynamic_rows o) (row_with (content_at slot.0 o.inputs) slot) (IsIn-map (λ (q : SlotName × PropType). row_with (content_at q.0 o.inputs) q) (input_slots kind) slot j),
          refl,
        )
        | inr j ↦
            let p = from_flat_map (λ (p : Property). property_slots p.name p.prop) o.dynamics slot j in
            let m = slots-ordered (property_slots (p.0).name (p.0).prop) (p.0).contents slot p.2 in (
              m.0,
              IsIn-right (rows_with (input_slots kind) o.inputs) (dynamic_rows o) m.0 (IsIn-flat_map (λ (q : Property). rows_in_order (property_slots q.name q.prop) q.contents) o.dynamics p.0 m.0 p.1 m.1),
              m.2,
            )
      ]

-- an object without dynamic properties has no rows of them
no-dynamics : (o : Object) → o.dynamics ≡ [] → dynamic_rows o ≡ []
no-dynamics o none = ap (flat_map (λ (p : Property). rows_in_order (property_slots p.name p.prop) p.contents)) none

-- the rows of inputs and dynamic properties come first
rows-first : (d : Document) (o : Object) (kind : ObjectKind) → Only (has_dynamics kind) o.dynamics → (later : List Row) × (rows_by d o kind ≡ first_rows o kind ++ later)
rows-first d o VarSet only = ([], sym (append-nil (dynamic_rows o)))
rows-first d o Sheet only = (cell_rows o, refl)
rows-first d o Link only =
    (rows_behind o (end_of d o), λ j. rows_with (input_slots Link) o.inputs ++ sym (no-dynamics o only) j ++ rows_behind o (end_of d o))
rows-first d o (Feature plan) only = (outcome_rows plan, refl)
rows-first d o (Foreign type) only = ([], sym (append-nil (dynamic_rows o) ∙ no-dynamics o only))

-- what is found stands in the first of two lists, where one in it passes
found-first : {A : Type 0} (p : A → Bool) (xs ys : List A) (x y : A) → IsIn x xs → p x ≡ true → find p (xs ++ ys) ≡ Some y → IsIn y xs
found-first p [] ys x y i e h = absurd i
found-first {A} p (z ∷ zs) ys x y i e h =
    elim (p z) as (λ b. p z ≡ b → cond b (Some z) (find p (zs ++ ys)) ≡ Some y → IsIn y (z ∷ zs)) [
      | true ↦ λ g k. inl (let same : y ≡ z = cc in same)
      | false ↦ λ g k. inr (found-first p zs ys x y (elim i [ inl q ↦ absurd (false≢true (sym g ∙ ap p (sym q) ∙ e)) | inr j ↦ j ]) e k)
    ] refl h

-- what fits the type of the row that is found fits each slot of the name, whatever rows come later
fits-first : (o : Object) (name : SlotName) (new : Content) (later : List Row) → IsObject o
    → ((r : Row) (type : PropType) → row_in (first_rows o o.kind ++ later) name ≡ Some r → r.prop ≡ Some type → IsContentOf type new)
    → FitsSlots name new (input_slots o.kind ++ dynamic_slots o.dynamics)
fits-first o name new later is fits slot i e =
    let passes : Row → Bool = λ q. same_slot_name q.name name in
    let there = slot-first o o.kind slot i in
    let passed : same_slot_name (there.0).name name ≡ true = ap (λ (n : SlotName). same_slot_name n name) there.2 ∙ e in
    let found = found-some passes (first_rows o o.kind ++ later) there.0 (IsIn-left (first_rows o o.kind) later there.0 there.1) passed in
    let own = row-first o o.kind found.0 (found-first passes (first_rows o o.kind) later there.0 found.0 there.1 passed found.1) in
    let named : same_slot_name (own.0).0 name ≡ true =
    ap (λ (n : SlotName). same_slot_name n name) (sym own.2) ∙ found-passes passes (first_rows o o.kind ++ later) found.0 found.1
    in
    subst (λ (t : PropType). IsContentOf t new) (object-one_type o is name own.0 slot own.1 i named e) (fits found.0 (own.0).1 found.1 own.3)

-- what fits the type of the row that is found among all
fits-found : (d : Document) (o : Object) (name : SlotName) (new : Content) → IsObject o
    → ((r : Row) (type : PropType) → row_in (rows d o) name ≡ Some r → r.prop ≡ Some type → IsContentOf type new)
    → FitsSlots name new (input_slots o.kind ++ dynamic_slots o.dynamics)
fits-found d o name new is fits =
    let split = rows-first d o o.kind is.only_dynamics in
    fits-first o name new split.0 is
    (subst (λ (rs : List Row). (r : Row) (type : PropType) → row_in rs name ≡ Some r → r.prop ≡ Some type → IsContentOf type new) split.1 fits)

-- the object of a name is the one that is found
named-found : (d : Document) (name : List ℕ) (o : Object) → IsWellFormed d → IsIn o d.objects → same_text o.name name ≡ true → object_named d name ≡ Some o
named-found d name o is i e =
    let there = found-some (λ (q : Object). same_text q.name name) d.objects o i e in
    there.1 ∙ ap Some (sym (only-found (λ (q : Object). q.name) d.objects name o there.0 is.distinct i e there.1))

-- a content of the type of the slot, where it has one; of the name of another no input and no dynamic property has a slot
pub IsWellFormed-with_content_at : (d : Document) (s : Slot) (new : Content) → IsWellFormed d → ((type : PropType) → type_of d s ≡ Some type → IsContentOf type new) → IsWellFormed (with_content d s new)
IsWellFormed-with_content_at d s new is fits =
    IsWellFormed-with_content d s new is (λ o i e.
    fits-found d o s.name new (all-in IsObject d.objects o is.objects i) (λ r type found typed.
    let row : row_of d s ≡ Some r = ap (option_and_then (λ (q : Object). row_in (rows d q) s.name)) (named-found d s.object o is i e) ∙ found in
    fits type (ap (option_and_then (λ (q : Row). q.prop)) row ∙ typed)))

-- a content of the type of the slot
pub IsWellFormed-with_typed_content : (d : Document) (s : Slot) (type : PropType) (new : Content) → IsWellFormed d → type_of d s ≡ Some type → IsContentOf type new → IsWellFormed (with_content d s new)
IsWellFormed-with_typed_content d s type new is typed fits =
    IsWellFormed-with_content_at d s new is (λ u e. let same : type ≡ u = cc (typed, e) in subst (λ (t : PropType). IsContentOf t new) same fits)
