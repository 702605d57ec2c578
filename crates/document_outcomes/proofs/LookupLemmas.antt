-- Look-ups in lists of rows that are joined, mapped, or go along with a list of typed slots.
use Rattle.std.proofs.Common.{◌≡◌, Bool, true, false, cond, List, [], ◌∷◌, ◌++◌, map, Some, None, refl, sym, ◌∙◌, subst}
use Rattle.std.specs.Prelude.{Option, find}
use Rattle.std.specs.List.{flat_map}
use Rattle.std.specs.Option.{option_map, option_or}
use Rattle.object_paths.specs.declared.slot_name.SlotName.{SlotName}
use Rattle.object_paths.specs.Slots.{same_slot_name}
use Rattle.property_types.specs.declared.prop_type.PropType.{PropType}
use Rattle.document_model.specs.declared.content.Content.{Content}
use Rattle.document_model.specs.Document.{Object, Property}
use Rattle.document_model.specs.Slots.{Row, row_in, rows_with, rows_in_order, dynamic_rows}
use Rattle.document_model.specs.TypedSlots.{property_slots, dynamic_slots}
use Rattle.document_outcomes.proofs.SlotTests.{name_equal}

pub find-append : {A : Type 0} (p : A → Bool) (xs ys : List A) → find p (xs ++ ys) ≡ option_or (find p xs) (find p ys)
find-append p [] ys = refl
find-append {A} p (x ∷ xs) ys =
    elim (p x) as (λ b. cond b (Some x) (find p (xs ++ ys)) ≡ option_or (cond b (Some x) (find p xs)) (find p ys)) [
      | true ↦ refl
      | false ↦ find-append p xs ys
    ]

pub find-map : {A B : Type 0} (p : B → Bool) (f : A → B) (xs : List A) → find p (map f xs) ≡ option_map f (find (λ x. p (f x)) xs)
find-map p f [] = refl
find-map {A} {B} p f (x ∷ xs) =
    elim (p (f x)) as (λ b. cond b (Some (f x)) (find p (map f xs)) ≡ option_map f (cond b (Some x) (find (λ y. p (f y)) xs))) [
      | true ↦ refl
      | false ↦ find-map p f xs
    ]

pub find-passes : {A : Type 0} (p : A → Bool) (xs : List A) (x : A) → find p xs ≡ Some x → p x ≡ true
find-passes p [] x h = absurd (cc)
find-passes {A} p (y ∷ ys) x h =
    elim (p y) as (λ b. p y ≡ b → cond b (Some y) (find p ys) ≡ Some x → p x ≡ true) [
      | true ↦ λ e g. let same : y ≡ x = cc in subst (λ (z : A). p z ≡ true) same e
      | false ↦ λ e g. find-passes p ys x g
    ] refl h

-- the row that is found has the name
pub row_in-name : (rs : List Row) (name : SlotName) (r : Row) → row_in rs name ≡ Some r → r.name ≡ name
row_in-name rs name r h = (name_equal r.name name).0 (find-passes (λ (q : Row). same_slot_name q.name name) rs r h)

-- the first typed slot of that name
abbrev pub slot_named : List (SlotName × PropType) → SlotName → Option (SlotName × PropType)
slot_named slots name = find (λ (slot : SlotName × PropType). same_slot_name slot.0 name) slots

-- rows with the names and types of slots
abbrev pub AreTyped : List Row → List (SlotName × PropType) → Type 0
AreTyped [] [] = Unit {0}
AreTyped [] (slot ∷ slots) = ⊥
AreTyped (r ∷ rs) [] = ⊥
AreTyped (r ∷ rs) (slot ∷ slots) = (r.name ≡ slot.0) × (r.prop ≡ Some slot.1) × AreTyped rs slots

pub AreTyped-append : (rs rs' : List Row) (ss ss' : List (SlotName × PropType)) → AreTyped rs ss → AreTyped rs' ss' → AreTyped (rs ++ rs') (ss ++ ss')
AreTyped-append [] rs' [] ss' h h' = h'
AreTyped-append [] rs' (s ∷ ss) ss' h h' = absurd h
AreTyped-append (r ∷ rs) rs' [] ss' h h' = absurd h
AreTyped-append (r ∷ rs) rs' (s ∷ ss) ss' h h' = (h.0, h.1, AreTyped-append rs rs' ss ss' h.2 h')

-- what a look-up in the slots finds is the type of what a look-up in the rows finds
pub record Found (rs : List Row) (name : SlotName) (type : PropType) : Type 0 where
  pub row : Row
  pub here : row_in rs name ≡ Some row
  pub typed : row.prop ≡ Some type

pub typed-found : (rs : List Row) (ss : List (SlotName × PropType)) (name : SlotName) (slot : SlotName × PropType) → AreTyped rs ss → slot_named ss name ≡ Some slot → Found rs name slot.1
typed-found [] [] name slot h e = absurd (cc)
typed-found [] (s ∷ ss) name slot h e = absurd h
typed-found (r ∷ rs) [] name slot h e = absurd h
typed-found (r ∷ rs) (s ∷ ss) name slot h e =
    elim (same_slot_name s.0 name)
    as (λ b. same_slot_name s.0 name ≡ b → cond b (Some s) (slot_named ss name) ≡ Some slot → Found (r ∷ rs) name slot.1) [
      | true ↦ λ t g.
          let same : s ≡ slot = cc in
          let passes : same_slot_name r.name name ≡ true = subst (λ (n : SlotName). same_slot_name n name ≡ true) (sym h.0) t in
          record { row = r; here = rw passes refl; typed = h.1 ∙ (λ i. Some (same i).1) }
      | false ↦ λ t g.
          let fails : same_slot_name r.name name ≡ false = subst (λ (n : SlotName). same_slot_name n name ≡ false) (sym h.0) t in
          let later = typed-found rs ss name slot h.2 g in
          record { row = later.row; here = rw fails later.here; typed = later.typed }
    ] refl e

pub typed-none : (rs : List Row) (ss : List (SlotName × PropType)) (name : SlotName) → AreTyped rs ss → slot_named ss name ≡ None → row_in rs name ≡ None
typed-none [] [] name h e = refl
typed-none [] (s ∷ ss) name h e = absurd h
typed-none (r ∷ rs) [] name h e = absurd h
typed-none (r ∷ rs) (s ∷ ss) name h e =
    elim (same_slot_name s.0 name)
    as (λ b. same_slot_name s.0 name ≡ b → cond b (Some s) (slot_named ss name) ≡ None → row_in (r ∷ rs) name ≡ None) [
      | true ↦ λ t g. absurd (cc)
      | false ↦ λ t g.
          let fails : same_slot_name r.name name ≡ false = subst (λ (n : SlotName). same_slot_name n name ≡ false) (sym h.0) t in
          rw fails (typed-none rs ss name h.2 g)
    ] refl e

pub rows_with-typed : (slots : List (SlotName × PropType)) (contents : List (SlotName × Content)) → AreTyped (rows_with slots contents) slots
rows_with-typed [] contents = tt
rows_with-typed (slot ∷ slots) contents = (refl, refl, rows_with-typed slots contents)

rows_in_order-typed : (slots : List (SlotName × PropType)) (contents : List Content) → AreTyped (rows_in_order slots contents) slots
rows_in_order-typed [] contents = tt
rows_in_order-typed (slot ∷ slots) [] = (refl, refl, rows_in_order-typed slots [])
rows_in_order-typed (slot ∷ slots) (content ∷ contents) = (refl, refl, rows_in_order-typed slots contents)

properties-typed :
    (ps : List Property)
    → AreTyped (flat_map (λ (p : Property). rows_in_order (property_slots p.name p.prop) p.contents) ps) (dynamic_slots ps)
properties-typed [] = tt
properties-typed (p ∷ ps) =
    AreTyped-append (rows_in_order (property_slots p.name p.prop) p.contents) _ (property_slots p.name p.prop) (dynamic_slots ps)
    (rows_in_order-typed (property_slots p.name p.prop) p.contents) (properties-typed ps)

pub dynamic-typed : (o : Object) → AreTyped (dynamic_rows o) (dynamic_slots o.dynamics)
dynamic-typed o = properties-typed o.dynamics

-- a look-up in rows that are joined
pub found-left : (xs ys : List Row) (name : SlotName) (type : PropType) → Found xs name type → Found (xs ++ ys) name type
found-left xs ys name type f =
    record { row = f.row; here = find-append (λ (q : Row). same_slot_name q.name name) xs ys ∙ rw f.here refl; typed = f.typed }

pub found-right : (xs ys : List Row) (name : SlotName) (type : PropType) → row_in xs name ≡ None → Found ys name type → Found (xs ++ ys) name type
found-right xs ys name type none f =
    record { row = f.row; here = find-append (λ (q : Row). same_slot_name q.name name) xs ys ∙ rw none f.here; typed = f.typed }
