-- The rules of the rows of an object: written in the document, inherited, or worked out by a feature.
use Rattle.std.proofs.Common.{◌≡◌, ◌⊎◌, inl, inr, ℕ, zero, suc, ◌+◌, Bool, true, false, cond, List, [], ◌∷◌, ◌++◌, map, Some, None, refl, sym, subst, arith, codes}
use Rattle.std.specs.Prelude.{Option, unwrap_or, slice_get}
use Rattle.std.specs.Option.{option_map_or}
use Rattle.fc_base.specs.Graph.{IsIn}
use Rattle.object_paths.specs.declared.slot_name.Component as c
use Rattle.object_paths.specs.declared.slot_name.SlotName.{SlotName}
use Rattle.object_paths.specs.declared.slot_name.SlotName.TheVariants.{Plain, Component, Marked}
use Rattle.property_types.specs.declared.plan.OutputPlan.{OutputPlan}
use Rattle.property_types.specs.declared.prop_type.PropType.{PropType}
use Rattle.property_types.specs.Plans.{Slots}
use Rattle.document_model.specs.declared.content.Content.{Content}
use Rattle.document_model.specs.declared.content.Content.TheVariants.{Own, Bound}
use Rattle.document_model.specs.declared.kind.ObjectKind.{ObjectKind}
use Rattle.document_model.specs.declared.kind.ObjectKind.TheVariants.{VarSet, Sheet, Link, Feature, Foreign}
use Rattle.document_model.specs.Document.{Document, Object, Property}
use Rattle.document_model.specs.Ends.{end_of, plan_behind}
use Rattle.document_model.specs.Slots.{Rule, own, bound, inherit, global, output, Row, rule_of_content, content_at, row_with, rows_with, rows_in_order, dynamic_rows, cell_row, cell_rows, output_rows, global_rows, outcome_rows, outcome_rows_of, mirrored_row, rows_behind, rows_by}
use Rattle.document_model.specs.TypedSlots.{components, type_of_component, property_slots, plan_slots, link_slots, mirrored_slots}
use Rattle.document_model.proofs.Members.{map_some, from_map, from_append, from_flat_map, from_filter_map}

-- an own value or an expression
abbrev pub IsWritten : Rule → Type 0
IsWritten (own v) = Unit {0}
IsWritten (bound e) = Unit {0}
IsWritten (inherit s) = ⊥
IsWritten (global k) = ⊥
IsWritten (output k) = ⊥

content-written : (content : Content) → IsWritten (rule_of_content content)
content-written (Own v) = tt
content-written (Bound e) = tt

row_with-written : (content : Option Content) (slot : SlotName × PropType) → IsWritten (row_with content slot).rule
row_with-written None slot = tt
row_with-written (Some content) slot = content-written content

pub rows_with-written : (slots : List (SlotName × PropType)) (contents : List (SlotName × Content)) (r : Row) → IsIn r (rows_with slots contents) → IsWritten r.rule
rows_with-written slots contents r i =
    let m = from_map (λ (slot : SlotName × PropType). row_with (content_at slot.0 contents) slot) slots r i in
    subst (λ (q : Row). IsWritten q.rule) (sym m.2) (row_with-written (content_at (m.0).0 contents) m.0)

rows_in_order-written : (slots : List (SlotName × PropType)) (contents : List Content) (r : Row) → IsIn r (rows_in_order slots contents) → IsWritten r.rule
rows_in_order-written [] contents r i = absurd i
rows_in_order-written (slot ∷ slots) [] r (inl e) = subst (λ (q : Row). IsWritten q.rule) (sym e) (row_with-written None slot)
rows_in_order-written (slot ∷ slots) [] r (inr i) = rows_in_order-written slots [] r i
rows_in_order-written (slot ∷ slots) (content ∷ contents) r (inl e) =
    subst (λ (q : Row). IsWritten q.rule) (sym e) (row_with-written (Some content) slot)
rows_in_order-written (slot ∷ slots) (content ∷ contents) r (inr i) = rows_in_order-written slots contents r i

pub dynamic-written : (o : Object) (r : Row) → IsIn r (dynamic_rows o) → IsWritten r.rule
dynamic-written o r i =
    let m = from_flat_map (λ (p : Property). rows_in_order (property_slots p.name p.prop) p.contents) o.dynamics r i in
    rows_in_order-written (property_slots (m.0).name (m.0).prop) (m.0).contents r m.2

pub cells-written : (o : Object) (r : Row) → IsIn r (cell_rows o) → IsWritten r.rule
cells-written o r i =
    let m = from_filter_map cell_row o.cells r i in
    let found =
    map_some (λ (content : Content). record { name = Marked (m.0).0; prop = None; rule = rule_of_content content }) (m.0).1.content r m.2 in
    subst (λ (q : Row). IsWritten q.rule) (sym found.2) (content-written found.0)

-- a row of the outputs that are numbered from a number on
pub record IsOutput (first : ℕ) (outputs : List OutputPlan) (r : Row) : Type 0 where
  pub place : ℕ
  pub number : ℕ
  pub counted : number ≡ first + place
  pub out : OutputPlan
  pub found : slice_get outputs place ≡ Some out
  pub row : r ≡ record { name = Plain out.name; prop = Some out.prop; rule = output number }

output-row : (first : ℕ) (outputs : List OutputPlan) (r : Row) → IsIn r (output_rows first outputs) → IsOutput first outputs r
output-row first [] r i = absurd i
output-row first (p ∷ ps) r (inl e) = record { place = zero; number = first; counted = omega arith; out = p; found = refl; row = e }
output-row first (p ∷ ps) r (inr i) =
    let later = output-row (suc first) ps r i in
    record { place = suc later.place; number = later.number; counted = omega (arith, later.counted); out = later.out; found = later.found; row = later.row }

from_cond : {A : Type 0} (b : Bool) (xs : List A) (x : A) → IsIn x (cond b xs []) → (b ≡ true) × IsIn x xs
from_cond true xs x i = (refl, i)
from_cond false xs x i = absurd i

-- a part of a plan's global placement
pub record IsPart (plan : Slots) (r : Row) : Type 0 where
  pub placed : plan.placed ≡ true
  pub part : c.Component
  pub row : r ≡ record { name = Component (codes "Global") part; prop = Some (type_of_component part); rule = global part }

pub outcome-row : (plan : Slots) (r : Row) → IsIn r (outcome_rows plan) → IsOutput 0 plan.outputs r ⊎ IsPart plan r
outcome-row plan r i =
    elim (from_append (output_rows 0 plan.outputs) (cond plan.placed global_rows []) r i) [
      | inl j ↦ inl (output-row 0 plan.outputs r j)
      | inr j ↦
          let placed = from_cond plan.placed global_rows r j in
          let m = from_map (λ (k : c.Component). record { name = Component (codes "Global") k; prop = Some (type_of_component k); rule = global k }) components r placed.1 in
          inr (record { placed = placed.0; part = m.0; row = m.2 })
    ]

-- what a feature works out for an object
pub record IsWorkedOut (d : Document) (o : Object) (r : Row) : Type 0 where
  pub plan : Slots
  pub behind : plan_behind d o ≡ Some plan
  pub one : IsOutput 0 plan.outputs r ⊎ IsPart plan r

-- a mirrored row is written or inherited
pub mirrored-rule : (link : Object) (slot : SlotName × PropType) (content : Option Content)
    → IsWritten (option_map_or rule_of_content content (inherit (record { object = unwrap_or link.target []; name = slot.0 })))
    ⊎ (option_map_or rule_of_content content (inherit (record { object = unwrap_or link.target []; name = slot.0 })) ≡ inherit (record { object = unwrap_or link.target []; name = slot.0 }))
mirrored-rule link slot None = inr refl
mirrored-rule link slot (Some content) = inl (content-written content)

-- an inherited row, with the slot that it mirrors
pub record IsInherited (d : Document) (o : Object) (r : Row) : Type 0 where
  pub rule : r.rule ≡ inherit (record { object = unwrap_or o.target []; name = r.name })

abbrev pub RowKind : Document → Object → Row → Type 0
RowKind d o r = IsWritten r.rule ⊎ IsInherited d o r ⊎ IsWorkedOut d o r

module _ (d : Document) (o : Object) where
  of_end : (e : Object) (r : Row) (kind : ObjectKind) → end_of d o ≡ Some e → e.kind ≡ kind → IsIn r (outcome_rows_of kind) → RowKind d o r
  of_end e r VarSet h same i = absurd i
  of_end e r Sheet h same i = absurd i
  of_end e r Link h same i = absurd i
  of_end e r (Feature plan) h same i = inr (inr (record {
    plan = plan;
    behind = rw (h, same) refl;
    one = outcome-row plan r i;
  }))
  of_end e r (Foreign type) h same i = absurd i

  of_behind : (r : Row) (found : Option Object) → end_of d o ≡ found → IsIn r (rows_behind o found) → RowKind d o r
  of_behind r None h i = absurd i
  of_behind r (Some e) h i =
      elim (from_append (map (mirrored_row o) (mirrored_slots e)) (outcome_rows_of e.kind) r i) [
        | inl j ↦
            let m = from_map (mirrored_row o) (mirrored_slots e) r j in
            subst (λ (q : Row). RowKind d o q) (sym m.2)
            (elim (mirrored-rule o m.0 (content_at (m.0).0 o.overrides)) [ inl w ↦ inl w | inr e ↦ inr (inl (record { rule = e })) ])
        | inr j ↦ of_end e r e.kind h refl j
      ]

  pub row-kind : (r : Row) (kind : ObjectKind) → o.kind ≡ kind → IsIn r (rows_by d o kind) → RowKind d o r
  row-kind r VarSet same i = inl (dynamic-written o r i)
  row-kind r Sheet same i =
      elim (from_append (dynamic_rows o) (cell_rows o) r i) [ inl j ↦ inl (dynamic-written o r j) | inr j ↦ inl (cells-written o r j) ]
  row-kind r Link same i =
      elim (from_append (rows_with link_slots o.inputs) (rows_behind o (end_of d o)) r i) [
        | inl j ↦ inl (rows_with-written link_slots o.inputs r j)
        | inr j ↦ of_behind r (end_of d o) refl j
      ]
  row-kind r (Feature plan) same i =
      elim (from_append (rows_with (plan_slots plan) o.inputs ++ dynamic_rows o) (outcome_rows plan) r i) [
        | inl j ↦ elim (from_append (rows_with (plan_slots plan) o.inputs) (dynamic_rows o) r j) [
          | inl k ↦ inl (rows_with-written (plan_slots plan) o.inputs r k)
          | inr k ↦ inl (dynamic-written o r k)
        ]
        | inr j ↦ inr (inr (record { plan = plan; behind = rw same refl; one = outcome-row plan r j }))
      ]
  row-kind r (Foreign type) same i = absurd i
