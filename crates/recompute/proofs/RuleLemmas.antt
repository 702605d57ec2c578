-- What the rule of a slot of a VarSet gives.
use Rattle.std.proofs.Common.{◌≡◌, inl, inr, ℕ, List, [], ◌∷◌, Some, None, refl, sym, ◌∙◌, ap, subst}
use Rattle.std.specs.Prelude.{◌≢◌, Option, Ok, Err}
use Rattle.std.specs.Option.{option_and_then, option_map_or}
use Rattle.fc_base.specs.Graph.{IsIn}
use Rattle.object_paths.specs.declared.slot_name.Component as c
use Rattle.object_paths.specs.declared.slot_name.Component.TheVariants.{X, Y, Z, Turn}
use Rattle.object_paths.specs.declared.slot_name.SlotName.{SlotName}
use Rattle.object_paths.specs.declared.slot_name.SlotName.TheVariants.{Component}
use Rattle.object_paths.specs.Slots.{Slot, same_text, same_slot_name}
use Rattle.property_types.specs.declared.prop_type.PropType.{PropType}
use Rattle.property_types.specs.declared.prop_type.PropType.TheVariants as prop
use Rattle.property_types.specs.declared.value.Value.{Value}
use Rattle.property_types.specs.declared.value.ValueFault.TheVariants.{Range}
use Rattle.property_types.specs.Values.{Outcome}
use Rattle.expr_eval.specs.Outcomes.{outcome_of}
use Rattle.expr_tree.specs.Tree.{Tree}
use Rattle.document_model.specs.declared.content.Content.{Content}
use Rattle.document_model.specs.Document.{Document, Object, Property, object_named}
use Rattle.document_model.specs.Slots.{Rule, own, bound, inherit, global, output, Row, rows, rows_by, rows_in_order, dynamic_rows, row_in, row_of, type_of, rule_of}
use Rattle.document_model.specs.TypedSlots.{components, type_of_component, property_slots}
use Rattle.document_model.proofs.Members.{and_then_some, map_some, from_find, from_map, from_flat_map}
use Rattle.document_outcomes.specs.Full.{Meanings, reading, fitted, outcome_by_rule, local}
use Rattle.document_outcomes.proofs.RowLemmas.{IsWritten, dynamic-written}
use Rattle.doc_tables.specs.Accessors.{tree_by}
use Rattle.doc_tables.specs.VarSets.{IsVarSet, HoldsVarSets}
use Rattle.doc_tables.proofs.VarSetLemmas.{of_all}

-- the type of a slot of a property is none of four parts
typed : (name : List ℕ) (type : PropType) (slot : SlotName × PropType) → IsIn slot (property_slots name type) → slot.1 ≡ prop.Placement → ⊥
typed name prop.Placement slot i e =
    let m = from_map (λ (k : c.Component). (Component name k, type_of_component k)) components slot i in
    component m.0 (sym (ap (λ (q : SlotName × PropType). q.1) m.2) ∙ e)
  where
    component : (k : c.Component) → type_of_component k ≡ prop.Placement → ⊥
    component X h = cc
    component Y h = cc
    component Z h = cc
    component Turn h = cc
typed name _ slot (inl h) e = let no = sym (ap (λ (q : SlotName × PropType). q.1) h) ∙ e in cc
typed name _ slot (inr h) e = absurd h

rows-typed :
    (slots : List (SlotName × PropType)) (contents : List Content) (r : Row)
    → ((slot : SlotName × PropType) → IsIn slot slots → slot.1 ≡ prop.Placement → ⊥)
    → IsIn r (rows_in_order slots contents) → r.prop ≡ Some prop.Placement → ⊥
rows-typed [] contents r none i = absurd i
rows-typed (slot ∷ slots) [] r none (inl e) = λ h. none slot (inl refl) (let k : Some slot.1 ≡ Some prop.Placement = sym (ap (λ (q : Row). q.prop) e) ∙ h in cc)
rows-typed (slot ∷ slots) [] r none (inr i) = rows-typed slots [] r (λ q j. none q (inr j)) i
rows-typed (slot ∷ slots) (content ∷ contents) r none (inl e) = λ h. none slot (inl refl) (let k : Some slot.1 ≡ Some prop.Placement = sym (ap (λ (q : Row). q.prop) e) ∙ h in cc)
rows-typed (slot ∷ slots) (content ∷ contents) r none (inr i) = rows-typed slots contents r (λ q j. none q (inr j)) i

module _ (d : Document) (holds : HoldsVarSets d) where
  -- the rows of an object are those of its properties
  var_set-rows : (o : Object) → IsIn o d.objects → rows d o ≡ dynamic_rows o
  var_set-rows o here =
      let set : IsVarSet o = of_all IsVarSet d.objects o holds.objects here in
      ap (rows_by d o) (ap (λ (q : Object). q.kind) set.object)

  -- what is found as the row of a slot is a row of a property
  row-dynamic : (s : Slot) (r : Row) → row_of d s ≡ Some r → (o : Object) × IsIn r (dynamic_rows o)
  row-dynamic s r h =
      let m = and_then_some (λ (o : Object). row_in (rows d o) s.name) (object_named d s.object) r h in
      let o : Object = m.0 in
      let here : IsIn o d.objects = from_find (λ (q : Object). same_text q.name s.object) d.objects o m.1 in
      let among : IsIn r (rows d o) = from_find (λ (q : Row). same_slot_name q.name s.name) (rows d o) r m.2 in
      (o, subst (λ (all : List Row). IsIn r all) (var_set-rows o here) among)

  -- no slot has the type of four parts
  pub type-not_placement : (s : Slot) → type_of d s ≢ Some prop.Placement
  type-not_placement s h =
      let m = and_then_some (λ (r : Row). r.prop) (row_of d s) prop.Placement h in
      let r : Row = m.0 in
      let f = row-dynamic s r m.1 in
      let p = from_flat_map (λ (p : Property). rows_in_order (property_slots p.name p.prop) p.contents) (f.0).dynamics r f.1 in
      let q : Property = p.0 in
      rows-typed (property_slots q.name q.prop) q.contents r (typed q.name q.prop) p.2 m.2

  -- a rule is an own value or an expression
  pub rule-written : (s : Slot) (rule : Rule) → rule_of d s ≡ Some rule → IsWritten rule
  rule-written s rule h =
      let m = map_some (λ (r : Row). r.rule) (row_of d s) rule h in
      let f = row-dynamic s m.0 m.1 in
      subst IsWritten (sym m.2) (dynamic-written f.0 m.0 f.1)

-- a slot with a rule has an object
pub object-found : (d : Document) (s : Slot) (rule : Rule) → rule_of d s ≡ Some rule → (o : Object) × (object_named d s.object ≡ Some o)
object-found d s rule h =
    let r = map_some (λ (q : Row). q.rule) (row_of d s) rule h in
    let o = and_then_some (λ (o : Object). row_in (rows d o) s.name) (object_named d s.object) r.0 r.1 in
    (o.0, o.1)

-- a rule with an expression is that expression
pub bound-rule : (rule : Option Rule) (e : Tree) → option_and_then tree_by rule ≡ Some e → rule ≡ Some (bound e)
bound-rule None e h = absurd (cc)
bound-rule (Some (own u)) e h = absurd (cc)
bound-rule (Some (bound f)) e h = let same : f ≡ e = cc in ap (λ (q : Tree). Some (bound q)) same
bound-rule (Some (inherit u)) e h = absurd (cc)
bound-rule (Some (global k)) e h = absurd (cc)
bound-rule (Some (output k)) e h = absurd (cc)

module _ (m : Meanings) (d : Document) (s : Slot) (w : Slot → Outcome) where
  local-by : (rule : Rule) (h : rule_of d s ≡ Some rule) → (o : Object) × (object_named d s.object ≡ Some o) × (local m d s w ≡ outcome_by_rule m d s o w (Some rule))
  unfolding local
  local-by rule h =
      let o = object-found d s rule h in (
        o.0,
        o.1,
        ap (λ (q : Option Object). option_map_or (λ o. outcome_by_rule m d s o w (rule_of d s)) q (Err Range)) o.1
            ∙ ap (outcome_by_rule m d s o.0 w) h,
      )

  pub local-own : (v : Value) → rule_of d s ≡ Some (own v) → local m d s w ≡ Ok v
  local-own v h = let f = local-by (own v) h in f.2

  pub local-bound :
      (e : Tree) → rule_of d s ≡ Some (bound e)
      → (o : Object) × (object_named d s.object ≡ Some o) × (local m d s w ≡ fitted (type_of d s) (outcome_of (reading d o e w) 0 e))
  local-bound e h = local-by (bound e) h

  pub local-none : rule_of d s ≡ None → local m d s w ≡ Err Range
  unfolding local
  local-none h =
      elim (object_named d s.object) as (λ (q : Option Object). option_map_or (λ o. outcome_by_rule m d s o w (rule_of d s)) q (Err Range) ≡ Err Range) [
        | None ↦ refl
        | Some o ↦ ap (outcome_by_rule m d s o w) h
      ]
