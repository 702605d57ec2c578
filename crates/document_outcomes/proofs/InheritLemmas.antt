-- A slot that a link inherits has the type of the target's slot of the same name.
use Rattle.std.proofs.Common.{◌≡◌, inl, inr, ℕ, zero, suc, ◌≤◌, List, map, length, Some, None, refl, sym, ◌∙◌, ap, subst, arith}
use Rattle.std.specs.Prelude.{Option}
use Rattle.std.specs.Option.{option_and_then}
use Rattle.fc_base.specs.Graph.{IsIn}
use Rattle.object_paths.specs.declared.slot_name.SlotName.{SlotName}
use Rattle.object_paths.specs.Slots.{Slot, same_slot_name}
use Rattle.property_types.specs.declared.prop_type.PropType.{PropType}
use Rattle.property_types.specs.Plans.{Slots}
use Rattle.document_model.specs.declared.kind.ObjectKind.{ObjectKind}
use Rattle.document_model.specs.declared.kind.ObjectKind.TheVariants.{VarSet, Sheet, Link, Feature, Foreign}
use Rattle.document_model.specs.Document.{Document, Object, object_named}
use Rattle.document_model.specs.Ends.{end_from, end_along, end_of}
use Rattle.document_model.specs.Slots.{Rule, inherit, Row, row_in, rows_with, rows_by, rows_behind, outcome_rows, outcome_rows_of, mirrored_row}
use Rattle.document_model.specs.TypedSlots.{link_slots, mirrored_slots}
use Rattle.document_model.proofs.Members.{and_then_some, from_find}
use Rattle.document_outcomes.proofs.LookupLemmas.{find-append, find-map, slot_named, typed-found, typed-none, rows_with-typed}
use Rattle.document_outcomes.proofs.RowLemmas.{IsWritten, rows_with-written, outcome-row}

end_from-same :
    (f g : Option (List ℕ) → Option Object) (o : Object) (kind : ObjectKind) (e : Object)
    → (f o.target ≡ Some e → g o.target ≡ Some e) → end_from f o kind ≡ Some e → end_from g o kind ≡ Some e
end_from-same f g o VarSet e on h = h
end_from-same f g o Sheet e on h = h
end_from-same f g o Link e on h = on h
end_from-same f g o (Feature plan) e on h = h
end_from-same f g o (Foreign type) e on h = h

module _ (d : Document) where
  -- a longer search along targets finds the same end
  pub end_along-more : (n m : ℕ) (target : Option (List ℕ)) (e : Object) → n ≤ m → end_along d n target ≡ Some e → end_along d m target ≡ Some e
  end_along-more zero m target e room h = absurd (cc)
  end_along-more (suc n) zero target e room h = absurd (omega arith)
  end_along-more (suc n) (suc m) target e room h =
      let at = and_then_some (λ (name : List ℕ). option_and_then (λ (o : Object). end_from (end_along d n) o o.kind) (object_named d name)) target e h in
      let here = and_then_some (λ (o : Object). end_from (end_along d n) o o.kind) (object_named d at.0) e at.2 in
      rw (at.1, here.1)
      (end_from-same (end_along d n) (end_along d m) here.0 (here.0).kind e (end_along-more n m (here.0).target e (omega (arith, room))) here.2)

  -- what a link's search meets first
  pub record Next (o e : Object) : Type 0 where
    pub name : List ℕ
    pub target : o.target ≡ Some name
    pub next : Object
    pub found : object_named d name ≡ Some next
    pub left : ℕ
    pub fewer : left ≤ length d.objects
    pub end : end_from (end_along d left) next next.kind ≡ Some e

  next_along : (o e : Object) (n : ℕ) → n ≤ length d.objects → end_along d n o.target ≡ Some e → Next o e
  next_along o e zero room h = absurd (cc)
  next_along o e (suc n) room h =
      let at = and_then_some (λ (name : List ℕ). option_and_then (λ (q : Object). end_from (end_along d n) q q.kind) (object_named d name)) o.target e h in
      let here = and_then_some (λ (q : Object). end_from (end_along d n) q q.kind) (object_named d at.0) e at.2 in
      record { name = at.0; target = at.1; next = here.0; found = here.1; left = n; fewer = omega (arith, room); end = here.2 }

  pub next_of : (o e : Object) → o.kind ≡ Link → end_of d o ≡ Some e → Next o e
  next_of o e same h =
      next_along o e (length d.objects) (omega arith)
      (subst (λ (k : ObjectKind). end_from (end_along d (length d.objects)) o k ≡ Some e) same h)

  -- an inherited row of a link, by the slot of the end that it mirrors
  pub record Mirrored (o : Object) (name : SlotName) (r : Row) : Type 0 where
    pub outside : slot_named link_slots name ≡ None
    pub e : Object
    pub end : end_of d o ≡ Some e
    pub slot : SlotName × PropType
    pub found : slot_named (mirrored_slots e) name ≡ Some slot
    pub row : r ≡ mirrored_row o slot

  pub no_inherit-output : (plan : Slots) (r : Row) (t : Slot) → IsIn r (outcome_rows plan) → r.rule ≡ inherit t → ⊥
  no_inherit-output plan r t i h =
      elim (outcome-row plan r i) [
        | inl out ↦ let e = ap (λ (q : Row). q.rule) out.row in cc
        | inr part ↦ let e = ap (λ (q : Row). q.rule) part.row in cc
      ]

  no_inherit : (kind : ObjectKind) (r : Row) (t : Slot) → IsIn r (outcome_rows_of kind) → r.rule ≡ inherit t → ⊥
  no_inherit VarSet r t i h = i
  no_inherit Sheet r t i h = i
  no_inherit Link r t i h = i
  no_inherit (Feature plan) r t i h = no_inherit-output plan r t i h
  no_inherit (Foreign type) r t i h = i

  module _ (o : Object) (name : SlotName) (r : Row) (t : Slot) (rule : r.rule ≡ inherit t) where
    at_end :
        (e : Object) (slot : Option (SlotName × PropType)) → slot_named link_slots name ≡ None → end_of d o ≡ Some e
        → slot_named (mirrored_slots e) name ≡ slot → row_in (rows_behind o (Some e)) name ≡ Some r → Mirrored o name r
    at_end e (Some slot) outside end found h =
        let joined = find-append (λ (q : Row). same_slot_name q.name name) (map (mirrored_row o) (mirrored_slots e)) (outcome_rows_of e.kind) in
        let mapped = find-map (λ (q : Row). same_slot_name q.name name) (mirrored_row o) (mirrored_slots e) in
        let first : row_in (map (mirrored_row o) (mirrored_slots e)) name ≡ Some (mirrored_row o slot) = mapped ∙ rw found refl in
        let whole : row_in (rows_behind o (Some e)) name ≡ Some (mirrored_row o slot) = joined ∙ rw first refl in
        record { outside = outside; e = e; end = end; slot = slot; found = found; row = cc }
    at_end e None outside end found h =
        let joined = find-append (λ (q : Row). same_slot_name q.name name) (map (mirrored_row o) (mirrored_slots e)) (outcome_rows_of e.kind) in
        let mapped = find-map (λ (q : Row). same_slot_name q.name name) (mirrored_row o) (mirrored_slots e) in
        let first : row_in (map (mirrored_row o) (mirrored_slots e)) name ≡ None = mapped ∙ rw found refl in
        let whole : row_in (rows_behind o (Some e)) name ≡ row_in (outcome_rows_of e.kind) name = joined ∙ rw first refl in
        absurd (no_inherit e.kind r t (from_find (λ (q : Row). same_slot_name q.name name) (outcome_rows_of e.kind) r (sym whole ∙ h)) rule)

    behind : (found : Option Object) → slot_named link_slots name ≡ None → end_of d o ≡ found → row_in (rows_behind o found) name ≡ Some r → Mirrored o name r
    behind None outside end h = absurd (cc)
    behind (Some e) outside end h = at_end e (slot_named (mirrored_slots e) name) outside end refl h

    in_link : (own_slot : Option (SlotName × PropType)) → slot_named link_slots name ≡ own_slot → row_in (rows_by d o Link) name ≡ Some r → Mirrored o name r
    in_link (Some slot) found h =
        let f = typed-found (rows_with link_slots o.inputs) link_slots name slot (rows_with-typed link_slots o.inputs) found in
        let joined = find-append (λ (q : Row). same_slot_name q.name name) (rows_with link_slots o.inputs) (rows_behind o (end_of d o)) in
        let whole : row_in (rows_by d o Link) name ≡ Some f.row = joined ∙ rw f.here refl in
        let same : f.row ≡ r = cc in
        let written : IsWritten (f.row).rule =
        rows_with-written link_slots o.inputs f.row (from_find (λ (q : Row). same_slot_name q.name name) (rows_with link_slots o.inputs) f.row f.here) in
        let bad : IsWritten (inherit t) = subst (λ (q : Rule). IsWritten q) (ap (λ (q : Row). q.rule) same ∙ rule) written in
        absurd bad
    in_link None found h =
        let none = typed-none (rows_with link_slots o.inputs) link_slots name (rows_with-typed link_slots o.inputs) found in
        let joined = find-append (λ (q : Row). same_slot_name q.name name) (rows_with link_slots o.inputs) (rows_behind o (end_of d o)) in
        let whole : row_in (rows_by d o Link) name ≡ row_in (rows_behind o (end_of d o)) name = joined ∙ rw none refl in
        behind (end_of d o) found refl (sym whole ∙ h)

    pub mirrored-row : row_in (rows_by d o Link) name ≡ Some r → Mirrored o name r
    mirrored-row h = in_link (slot_named link_slots name) refl h
