-- The rows of the objects of a document in which a thing is renamed.
use Rattle.std.proofs.Common.{◌≡◌, inl, inr, ℕ, suc, true, false, cond, List, [], ◌∷◌, ◌++◌, map, Some, None, refl, sym, ap, ◌∙◌, codes}
use Rattle.std.specs.Prelude.{Option}
use Rattle.std.specs.List.{find}
use Rattle.std.specs.Option.{option_map}
use Rattle.std.proofs.lemmas.List.{map-append}
use Rattle.fc_base.specs.Graph.{IsIn}
use Rattle.fc_base.specs.Places.{Place}
use Rattle.object_paths.specs.declared.slot_name.Component as part
use Rattle.object_paths.specs.declared.slot_name.SlotName.{SlotName}
use Rattle.object_paths.specs.declared.slot_name.SlotName.TheVariants.{Plain, Component, Marked}
use Rattle.object_paths.specs.Slots.{same_slot_name}
use Rattle.property_types.specs.declared.plan.OutputPlan.{OutputPlan}
use Rattle.property_types.specs.declared.prop_type.PropType.{PropType}
use Rattle.property_types.specs.Plans.{Slots}
use Rattle.document_model.specs.declared.content.Content.{Content}
use Rattle.document_model.specs.declared.content.Content.TheVariants.{Own, Bound}
use Rattle.document_model.specs.Document.{Document, Object, Property}
use Rattle.document_model.specs.Renamed.{Thing, object, property, cell, moved, moved_slot, renamed, renamed_object, renamed_content, renamed_cell_content, renamed_entry, renamed_property, renamed_cell}
use Rattle.document_model.specs.Slots.{Row, global, output, content_at, row_with, rows_with, rows_in_order, rule_of_content, dynamic_rows, cell_row, cell_rows, output_rows, global_rows, outcome_rows}
use Rattle.document_model.specs.TypedSlots.{components, type_of_component, property_slots}
use Rattle.document_outcomes.proofs.CarriedLemmas.{new_row}
use Rattle.document_outcomes.proofs.ChangedLists.{filter_map-changed, find-changed, flat_map-changed, map-alike, map-twice}

-- the new name of a slot of the object of that name
abbrev pub under_new : Document → Thing → List ℕ → List ℕ → SlotName → SlotName
under_new d thing new at name = (moved_slot d thing new (record { object = at; name = name })).name

-- a part of the placement in the document
abbrev global_row : part.Component → Row
global_row k = record { name = Component (codes "Global") k; prop = Some (type_of_component k); rule = global k }

-- cells keep their names
pub marked-kept : (d : Document) (thing : Thing) (new at : List ℕ) (p : Place) → under_new d thing new at (Marked p) ≡ Marked p
marked-kept d (object name) new at p = refl
marked-kept d (property owner name) new at p = refl
marked-kept d (cell sheet place) new at p = refl

module _ (d : Document) (thing : Thing) (new : List ℕ) (Fresh : List ℕ → SlotName → Type 0) where
  -- a row and a typed slot under their new names
  abbrev pub row_to : Object → Row → Row
  row_to o r = new_row d (renamed d thing new) (renamed_object d thing new) (under_new d thing new) (λ q. moved d q thing new) Fresh o r

  abbrev pub typed_to : Object → SlotName × PropType → SlotName × PropType
  typed_to o slot = (under_new d thing new o.name slot.0, slot.1)

  pub row_with-new : (o : Object) (content : Option Content) (slot : SlotName × PropType) → row_with (option_map (renamed_content d o thing new) content) (typed_to o slot) ≡ row_to o (row_with content slot)
  row_with-new o None slot = refl
  row_with-new o (Some (Own v)) slot = refl
  row_with-new o (Some (Bound e)) slot = refl

  in_order-new :
      (o : Object) (slots : List (SlotName × PropType)) (contents : List Content)
      → rows_in_order (map (typed_to o) slots) (map (renamed_content d o thing new) contents) ≡ map (row_to o) (rows_in_order slots contents)
  in_order-new o [] contents = refl
  in_order-new o (slot ∷ slots) [] = λ i. row_with-new o None slot i ∷ in_order-new o slots [] i
  in_order-new o (slot ∷ slots) (content ∷ contents) = λ i. row_with-new o (Some content) slot i ∷ in_order-new o slots contents i

  -- the slots of a property are those that it had, under their new names
  abbrev pub SlotsFollow : Object → Property → Type 0
  SlotsFollow o p = property_slots (renamed_property d o thing new p).name p.prop ≡ map (typed_to o) (property_slots p.name p.prop)

  pub dynamic-new :
      (o : Object) → ((p : Property) → IsIn p o.dynamics → SlotsFollow o p)
      → dynamic_rows (renamed_object d thing new o) ≡ map (row_to o) (dynamic_rows o)
  dynamic-new o follow =
      flat_map-changed (renamed_property d o thing new) (λ (p : Property). rows_in_order (property_slots p.name p.prop) p.contents)
      (λ (p : Property). rows_in_order (property_slots p.name p.prop) p.contents) (row_to o) o.dynamics
      (λ p j.
      ap (λ (slots : List (SlotName × PropType)). rows_in_order slots (map (renamed_content d o thing new) p.contents)) (follow p j)
      ∙ in_order-new o (property_slots p.name p.prop) p.contents)

  cell-new :
      (o : Object) (p : Place) (content : Option Content)
      → option_map (λ (x : Content). record { name = Marked p; prop = None; rule = rule_of_content x }) (renamed_cell_content d o thing new content)
      ≡ option_map (row_to o) (option_map (λ (x : Content). record { name = Marked p; prop = None; rule = rule_of_content x }) content)
  cell-new o p None = refl
  cell-new o p (Some (Own v)) = λ i. Some (record { name = sym (marked-kept d thing new o.name p) i; prop = None; rule = rule_of_content (Own v) })
  cell-new o p (Some (Bound e)) = λ i.
      Some (record { name = sym (marked-kept d thing new o.name p) i; prop = None; rule = rule_of_content (renamed_content d o thing new (Bound e)) })

  pub cells-new : (o : Object) → cell_rows (renamed_object d thing new o) ≡ map (row_to o) (cell_rows o)
  cells-new o = filter_map-changed (renamed_cell d o thing new) cell_row cell_row (row_to o) o.cells (λ e j. cell-new o e.0 e.1.content)

  pub content_at-new :
      (o : Object) (n : SlotName) (entries : List (SlotName × Content))
      → content_at n (map (renamed_entry d o thing new) entries) ≡ option_map (renamed_content d o thing new) (content_at n entries)
  content_at-new o n entries =
      ap (option_map (λ (e : SlotName × Content). e.1))
      (find-changed (renamed_entry d o thing new) (λ (e : SlotName × Content). same_slot_name e.0 n) (λ (e : SlotName × Content). same_slot_name e.0 n) entries (λ e j. refl))
      ∙ elim (find (λ (e : SlotName × Content). same_slot_name e.0 n) entries)
      as (λ found. option_map (λ (e : SlotName × Content). e.1) (option_map (renamed_entry d o thing new) found)
      ≡ option_map (renamed_content d o thing new) (option_map (λ (e : SlotName × Content). e.1) found)) [ None ↦ refl | Some e ↦ refl ]

  -- inputs, outputs and global placements keep their names
  pub inputs-new :
      (o : Object) (slots : List (SlotName × PropType)) → ((slot : SlotName × PropType) → IsIn slot slots → under_new d thing new o.name slot.0 ≡ slot.0)
      → rows_with slots (map (renamed_entry d o thing new) o.inputs) ≡ map (row_to o) (rows_with slots o.inputs)
  inputs-new o slots keep =
      map-alike (λ (slot : SlotName × PropType). row_with (content_at slot.0 (map (renamed_entry d o thing new) o.inputs)) slot)
      (λ (slot : SlotName × PropType). row_to o (row_with (content_at slot.0 o.inputs) slot)) slots
      (λ slot j.
      ap (λ (content : Option Content). row_with content slot) (content_at-new o slot.0 o.inputs)
      ∙ ap (λ (n : SlotName). row_with (option_map (renamed_content d o thing new) (content_at slot.0 o.inputs)) (n, slot.1)) (sym (keep slot j))
      ∙ row_with-new o (content_at slot.0 o.inputs) slot)
      ∙ sym (map-twice (λ (slot : SlotName × PropType). row_with (content_at slot.0 o.inputs) slot) (row_to o) slots)

  outputs-new :
      (o : Object) (k : ℕ) (outs : List OutputPlan) → ((p : OutputPlan) → IsIn p outs → under_new d thing new o.name (Plain p.name) ≡ Plain p.name)
      → output_rows k outs ≡ map (row_to o) (output_rows k outs)
  outputs-new o k [] keep = refl
  outputs-new o k (p ∷ ps) keep = λ i.
      record { name = sym (keep p (inl refl)) i; prop = Some p.prop; rule = output k }
      ∷ outputs-new o (suc k) ps (λ q j. keep q (inr j)) i

  global-new : (o : Object) → ((k : part.Component) → under_new d thing new o.name (Component (codes "Global") k) ≡ Component (codes "Global") k) → global_rows ≡ map (row_to o) global_rows
  global-new o keep =
      map-alike (λ (k : part.Component). global_row k) (λ (k : part.Component). row_to o (global_row k)) components (λ k j i. record (global_row k) { name = sym (keep k) i })
      ∙ sym (map-twice (λ (k : part.Component). global_row k) (row_to o) components)

  pub outcome-new :
      (o : Object) (plan : Slots) → ((p : OutputPlan) → IsIn p plan.outputs → under_new d thing new o.name (Plain p.name) ≡ Plain p.name)
      → ((k : part.Component) → under_new d thing new o.name (Component (codes "Global") k) ≡ Component (codes "Global") k)
      → outcome_rows plan ≡ map (row_to o) (outcome_rows plan)
  outcome-new o plan outputs globals =
      (λ i. outputs-new o 0 plan.outputs outputs i ++ cond plan.placed (global-new o globals i) [])
      ∙ elim plan.placed
      as (λ b. map (row_to o) (output_rows 0 plan.outputs) ++ cond b (map (row_to o) global_rows) [] ≡ map (row_to o) (output_rows 0 plan.outputs ++ cond b global_rows [])) [
        | true ↦ sym (map-append (row_to o) (output_rows 0 plan.outputs) global_rows)
        | false ↦ sym (map-append (row_to o) (output_rows 0 plan.outputs) [])
      ]
