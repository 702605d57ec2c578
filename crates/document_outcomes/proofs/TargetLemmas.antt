-- What a link mirrors stands in its target, with the same type.
use Rattle.std.proofs.Common.{◌≡◌, inl, inr, ℕ, ◌≤◌, Bool, true, false, cond, List, [], ◌∷◌, ◌++◌, map, length, Some, None, refl, sym, ◌∙◌, ap, subst, codes}
use Rattle.std.specs.Prelude.{Option, unwrap_or}
use Rattle.std.specs.Cmp.Lexicographic.{bytes_decides}
use Rattle.std.specs.Option.{option_or}
use Rattle.fc_base.specs.Graph.{IsIn}
use Rattle.object_paths.specs.declared.slot_name.Component as c
use Rattle.object_paths.specs.declared.slot_name.SlotName.{SlotName}
use Rattle.object_paths.specs.declared.slot_name.SlotName.TheVariants.{Plain, Component, Marked}
use Rattle.object_paths.specs.Slots.{Slot, same_slot_name, same_text}
use Rattle.property_types.specs.declared.prop_type.PropType.{PropType}
use Rattle.property_types.specs.declared.prop_type.PropType.TheVariants as prop
use Rattle.property_types.specs.Plans.{Slots}
use Rattle.document_model.specs.declared.kind.ObjectKind.{ObjectKind}
use Rattle.document_model.specs.declared.kind.ObjectKind.TheVariants.{VarSet, Sheet, Link, Feature, Foreign}
use Rattle.document_model.specs.Document.{Document, Object, Property, object_named}
use Rattle.document_model.specs.Ends.{end_from, end_along, end_of}
use Rattle.document_model.specs.Slots.{Row, Rule, inherit, content_at, row_in, rows, rows_with, rows_by, rows_behind, dynamic_rows, cell_rows, outcome_rows, outcome_rows_of, mirrored_row, slot_of, type_of}
use Rattle.document_model.specs.TypedSlots.{components, type_of_component, placement_slots, property_slots, dynamic_slots, unplaced_slots, plan_slots, link_slots, mirrored_by, mirrored_slots}
use Rattle.document_model.specs.Dependencies.{existing}
use Rattle.document_model.proofs.Members.{from_map, from_flat_map, from_find}
use Rattle.document_outcomes.proofs.InheritLemmas.{end_along-more, next_of, mirrored-row}
use Rattle.document_outcomes.proofs.LookupLemmas.{find-append, find-map, find-passes, row_in-name, slot_named, AreTyped-append, Found, typed-found, typed-none, rows_with-typed, dynamic-typed, found-left, found-right}
use Rattle.document_outcomes.proofs.RowLemmas.{IsWritten, mirrored-rule}
use Rattle.document_outcomes.proofs.SlotTests.{name_equal}

-- the components of a type that is no component's
abbrev pub HasPartType : SlotName × PropType → Type 0
HasPartType (Plain name, type) = Unit {0}
HasPartType (Component name k, type) = type ≡ type_of_component k
HasPartType (Marked p, type) = Unit {0}

placement-parts : (name : List ℕ) (slot : SlotName × PropType) → IsIn slot (placement_slots name) → HasPartType slot
placement-parts name slot i =
    let m = from_map (λ (k : c.Component). (Component name k, type_of_component k)) components slot i in
    subst (λ (q : SlotName × PropType). HasPartType q) (sym m.2) refl

one-part : (name : List ℕ) (type : PropType) (slot : SlotName × PropType) → IsIn slot ((Plain name, type) ∷ []) → HasPartType slot
one-part name type slot (inl e) = subst (λ (q : SlotName × PropType). HasPartType q) (sym e) tt
one-part name type slot (inr i) = absurd i

property-parts : (name : List ℕ) (type : PropType) (slot : SlotName × PropType) → IsIn slot (property_slots name type) → HasPartType slot
property-parts name prop.Placement slot i = placement-parts name slot i
property-parts name type slot i = one-part name type slot i

dynamic-parts : (ps : List Property) (slot : SlotName × PropType) → IsIn slot (dynamic_slots ps) → HasPartType slot
dynamic-parts ps slot i =
    let m = from_flat_map (λ (p : Property). property_slots p.name p.prop) ps slot i in
    property-parts (m.0).name (m.0).prop slot m.2

-- two slots of one name that is a component's have one type
same-part : (a b : SlotName × PropType) (name : List ℕ) (k : c.Component) → HasPartType a → HasPartType b → a.0 ≡ Component name k → b.0 ≡ Component name k → a.1 ≡ b.1
same-part (Plain m, t) b name k p q e f = absurd (cc)
same-part (Marked m, t) b name k p q e f = absurd (cc)
same-part (Component m j, t) (Plain n, u) name k p q e f = absurd (cc)
same-part (Component m j, t) (Marked n, u) name k p q e f = absurd (cc)
same-part (Component m j, t) (Component n l, u) name k p q e f = let same : j ≡ l = cc in p ∙ ap type_of_component same ∙ sym q

named-is : (slots : List (SlotName × PropType)) (name : SlotName) (slot : SlotName × PropType) → slot_named slots name ≡ Some slot → slot.0 ≡ name
named-is slots name slot h = (name_equal slot.0 name).0 (find-passes (λ (q : SlotName × PropType). same_slot_name q.0 name) slots slot h)

-- the parts of a plan's Placement, where it is placed
abbrev pub part_slots : Slots → List (SlotName × PropType)
part_slots plan = cond plan.placed (placement_slots (codes "Placement")) []

part_slots-parts : (b : Bool) (slot : SlotName × PropType) → IsIn slot (cond b (placement_slots (codes "Placement")) []) → HasPartType slot × ((k : c.Component) × (slot.0 ≡ Component (codes "Placement") k))
part_slots-parts true slot i =
    let m = from_map (λ (k : c.Component). (Component (codes "Placement") k, type_of_component k)) components slot i in
    (placement-parts (codes "Placement") slot i, (m.0, ap (λ (q : SlotName × PropType). q.0) m.2))
part_slots-parts false slot i = absurd i

retyped : (rs : List Row) (name : SlotName) (a b : PropType) → a ≡ b → Found rs name a → Found rs name b
retyped rs name a b same f = subst (λ (t : PropType). Found rs name t) same f

module _ (plan : Slots) (o : Object) (name : SlotName) (slot : SlotName × PropType) where
  -- the rows of a feature whose contents stand in the document
  abbrev written_rows : List Row
  written_rows = rows_with (plan_slots plan) o.inputs ++ dynamic_rows o

  abbrev written_slots : List (SlotName × PropType)
  written_slots = plan_slots plan ++ dynamic_slots o.dynamics

  joined : slot_named written_slots name ≡ option_or (option_or (slot_named (unplaced_slots plan.inputs) name) (slot_named (part_slots plan) name)) (slot_named (dynamic_slots o.dynamics) name)
  joined =
      find-append (λ (q : SlotName × PropType). same_slot_name q.0 name) (plan_slots plan) (dynamic_slots o.dynamics)
      ∙ ap (λ (x : Option (SlotName × PropType)). option_or x (slot_named (dynamic_slots o.dynamics) name))
      (find-append (λ (q : SlotName × PropType). same_slot_name q.0 name) (unplaced_slots plan.inputs) (part_slots plan))

  typed : (first : SlotName × PropType) → slot_named written_slots name ≡ Some first → Found written_rows name first.1
  typed first h =
      typed-found written_rows written_slots name first
      (AreTyped-append (rows_with (plan_slots plan) o.inputs) (dynamic_rows o) (plan_slots plan) (dynamic_slots o.dynamics)
      (rows_with-typed (plan_slots plan) o.inputs) (dynamic-typed o)) h

  -- a dynamic slot, which the parts of the Placement may stand before
  in_dynamics :
      (before : Option (SlotName × PropType)) → slot_named (unplaced_slots plan.inputs) name ≡ None → slot_named (part_slots plan) name ≡ before
      → slot_named (dynamic_slots o.dynamics) name ≡ Some slot → Found written_rows name slot.1
  in_dynamics None none parts found = typed slot (joined ∙ rw (none, parts) found)
  in_dynamics (Some part) none parts found =
      let here = from_find (λ (q : SlotName × PropType). same_slot_name q.0 name) (part_slots plan) part parts in
      let is_part = part_slots-parts plan.placed part here in
      let at = named-is (part_slots plan) name part parts in
      let there = named-is (dynamic_slots o.dynamics) name slot found in
      let slot_part = dynamic-parts o.dynamics slot (from_find (λ (q : SlotName × PropType). same_slot_name q.0 name) (dynamic_slots o.dynamics) slot found) in
      retyped written_rows name part.1 slot.1
      (same-part part slot (codes "Placement") (is_part.1).0 is_part.0 slot_part (is_part.1).1 (there ∙ sym at ∙ (is_part.1).1))
      (typed part (joined ∙ rw (none, parts) refl))

  in_plan :
      (input : Option (SlotName × PropType)) → slot_named (unplaced_slots plan.inputs) name ≡ input
      → option_or input (slot_named (dynamic_slots o.dynamics) name) ≡ Some slot → Found written_rows name slot.1
  in_plan None inputs found = in_dynamics (slot_named (part_slots plan) name) inputs refl found
  in_plan (Some first) inputs found = let same : first ≡ slot = cc in typed slot (joined ∙ rw inputs (λ i. Some (same i)))

  in_feature : slot_named (unplaced_slots plan.inputs ++ dynamic_slots o.dynamics) name ≡ Some slot → Found written_rows name slot.1
  in_feature h =
      in_plan (slot_named (unplaced_slots plan.inputs) name) refl
      (sym (find-append (λ (q : SlotName × PropType). same_slot_name q.0 name) (unplaced_slots plan.inputs) (dynamic_slots o.dynamics)) ∙ h)

-- an object that is its own end mirrors what it has
mirrored-here : (next e : Object) (kind : ObjectKind) (name : SlotName) (slot : SlotName × PropType) → next.kind ≡ kind → next ≡ e
    → slot_named (mirrored_slots e) name ≡ Some slot → slot_named (mirrored_by next kind) name ≡ Some slot
mirrored-here next e kind name slot same is found =
    subst (λ (k : ObjectKind). slot_named (mirrored_by next k) name ≡ Some slot) same
    (subst (λ (q : Object). slot_named (mirrored_slots q) name ≡ Some slot) (sym is) found)

module _ (d : Document) where
  -- what an object that is its own end has for links to mirror
  in_end : (o : Object) (kind : ObjectKind) (name : SlotName) (slot : SlotName × PropType) → slot_named (mirrored_by o kind) name ≡ Some slot → Found (rows_by d o kind) name slot.1
  in_end o VarSet name slot h = typed-found (dynamic_rows o) (dynamic_slots o.dynamics) name slot (dynamic-typed o) h
  in_end o Sheet name slot h =
      found-left (dynamic_rows o) (cell_rows o) name slot.1 (typed-found (dynamic_rows o) (dynamic_slots o.dynamics) name slot (dynamic-typed o) h)
  in_end o Link name slot h = absurd (cc)
  in_end o (Feature plan) name slot h =
      found-left (rows_with (plan_slots plan) o.inputs ++ dynamic_rows o) (outcome_rows plan) name slot.1 (in_feature plan o name slot h)
  in_end o (Foreign type) name slot h = absurd (cc)

  -- and what a link mirrors itself
  in_link : (o e : Object) (name : SlotName) (slot : SlotName × PropType) → slot_named link_slots name ≡ None → end_of d o ≡ Some e
      → slot_named (mirrored_slots e) name ≡ Some slot → Found (rows_by d o Link) name slot.1
  in_link o e name slot outside end found =
      found-right (rows_with link_slots o.inputs) (rows_behind o (end_of d o)) name slot.1
      (typed-none (rows_with link_slots o.inputs) link_slots name (rows_with-typed link_slots o.inputs) outside)
      (subst (λ (q : Option Object). Found (rows_behind o q) name slot.1) (sym end)
      (found-left (map (mirrored_row o) (mirrored_slots e)) (outcome_rows_of e.kind) name slot.1
      (record {
        row = mirrored_row o slot;
        here = find-map (λ (q : Row). same_slot_name q.name name) (mirrored_row o) (mirrored_slots e) ∙ rw found refl;
        typed = refl;
      })))

  in_next :
      (next e : Object) (kind : ObjectKind) (left : ℕ) (name : SlotName) (slot : SlotName × PropType)
      → next.kind ≡ kind → left ≤ length d.objects → end_from (end_along d left) next kind ≡ Some e
      → slot_named link_slots name ≡ None → slot_named (mirrored_slots e) name ≡ Some slot → Found (rows_by d next kind) name slot.1
  in_next next e Link left name slot same room end outside found =
      in_link next e name slot outside
      (subst (λ (k : ObjectKind). end_from (end_along d (length d.objects)) next k ≡ Some e) (sym same)
      (end_along-more d left (length d.objects) next.target e room end)) found
  in_next next e VarSet left name slot same room end outside found =
      in_end next VarSet name slot (mirrored-here next e VarSet name slot same (cc) found)
  in_next next e Sheet left name slot same room end outside found =
      in_end next Sheet name slot (mirrored-here next e Sheet name slot same (cc) found)
  in_next next e (Feature plan) left name slot same room end outside found =
      in_end next (Feature plan) name slot (mirrored-here next e (Feature plan) name slot same (cc) found)
  in_next next e (Foreign type) left name slot same room end outside found =
      in_end next (Foreign type) name slot (mirrored-here next e (Foreign type) name slot same (cc) found)

  pub object-found : (name : List ℕ) (o : Object) → object_named d name ≡ Some o → o.name ≡ name
  object-found name o h = (bytes_decides o.name name).0 (find-passes (λ (q : Object). same_text q.name name) d.objects o h)

  -- a slot by the name of its object and of a row of it is there
  pub existing-found :
      (o : Object) (object : List ℕ) (name : SlotName) (type : PropType) → object_named d object ≡ Some o
      → Found (rows d o) name type → existing d (record { object = object; name = name }) ≡ Some (record { object = object; name = name })
  existing-found o object name type found f =
      let there : existing d (record { object = object; name = name }) ≡ Some (slot_of o (f.row).name) = rw (found, f.here) refl in
      there ∙ (λ i. Some (record { object = object-found object o found i; name = row_in-name (rows d o) name f.row f.here i }))

  -- and it has the row's type
  pub existing-type :
      (o : Object) (object : List ℕ) (name : SlotName) (type : PropType) (q : Slot) → object_named d object ≡ Some o
      → Found (rows d o) name type → existing d (record { object = object; name = name }) ≡ Some q → type_of d q ≡ Some type
  existing-type o object name type q found f exists =
      let there = existing-found o object name type found f in
      let same : q ≡ record { object = object; name = name } = cc in
      let base : type_of d (record { object = object; name = name }) ≡ Some type = rw (found, f.here) f.typed in
      subst (λ (x : Slot). type_of d x ≡ Some type) (sym same) base

  -- the slot that an inherited row of a link leads to
  record Source (r : Row) (t : Slot) : Type 0 where
    next : Object
    object : List ℕ
    name : SlotName
    type : PropType
    named : object_named d object ≡ Some next
    found : Found (rows d next) name type
    asked : t ≡ record { object = object; name = name }
    typed : r.prop ≡ Some type

  source : (o : Object) (name : SlotName) (r : Row) (t : Slot) → o.kind ≡ Link → row_in (rows_by d o Link) name ≡ Some r → r.rule ≡ inherit t → Source r t
  source o name r t link here rule =
      let mirrored = mirrored-row d o name r t rule here in
      let next = next_of d o mirrored.e link mirrored.end in
      let rule_of_row : r.rule ≡ (mirrored_row o mirrored.slot).rule = ap (λ (x : Row). x.rule) mirrored.row in
      let t_is : t ≡ record { object = unwrap_or o.target []; name = (mirrored.slot).0 } =
      elim (mirrored-rule o mirrored.slot (content_at (mirrored.slot).0 o.overrides)) [
        | inl w ↦
            let bad : IsWritten (inherit t) = subst (λ (x : Rule). IsWritten x) (sym rule_of_row ∙ rule) w in
            absurd bad
        | inr e ↦
            let same : inherit t ≡ inherit (record { object = unwrap_or o.target []; name = (mirrored.slot).0 }) = sym rule ∙ rule_of_row ∙ e in
            cc
      ] in
      let one_name : (mirrored.slot).0 ≡ name = named-is (mirrored_slots mirrored.e) name mirrored.slot mirrored.found in
      record {
        next = next.next;
        object = next.name;
        name = name;
        type = (mirrored.slot).1;
        named = next.found;
        found =
            in_next next.next mirrored.e (next.next).kind next.left name mirrored.slot refl next.fewer next.end mirrored.outside mirrored.found;
        asked = t_is ∙ (λ i. record { object = unwrap_or (next.target i) []; name = one_name i });
        typed = ap (λ (x : Row). x.prop) mirrored.row;
      }

  -- it is there
  pub inherited-existing :
      (o : Object) (name : SlotName) (r : Row) (t : Slot) → o.kind ≡ Link → row_in (rows_by d o Link) name ≡ Some r
      → r.rule ≡ inherit t → existing d t ≡ Some t
  inherited-existing o name r t link here rule =
      let from = source o name r t link here rule in
      subst (λ (x : Slot). existing d x ≡ Some x) (sym from.asked) (existing-found from.next from.object from.name from.type from.named from.found)

  -- and has the row's type
  pub inherited-type :
      (o : Object) (name : SlotName) (r : Row) (t q : Slot) → o.kind ≡ Link → row_in (rows_by d o Link) name ≡ Some r
      → r.rule ≡ inherit t → existing d t ≡ Some q → type_of d q ≡ r.prop
  inherited-type o name r t q link here rule exists =
      let from = source o name r t link here rule in
      existing-type from.next from.object from.name from.type q from.named from.found
      (subst (λ (x : Slot). existing d x ≡ Some q) from.asked exists)
      ∙ sym from.typed
