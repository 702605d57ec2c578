-- The slots of a document, in their order, with their types and rules.
use Rattle.std.specs.Prelude.{ℕ, suc, List, [], ◌∷◌, ◌++◌, map, Option, Some, None, unwrap_or, if◌then◌else◌, codes}
use Rattle.std.specs.List.{find, flat_map, filter_map}
use Rattle.std.specs.Option.{option_map, option_and_then, option_map_or}
use Rattle.fc_base.specs.Places.{Place}
use Rattle.object_paths.specs.declared.slot_name.Component as c
use Rattle.object_paths.specs.declared.slot_name.SlotName.{SlotName}
use Rattle.object_paths.specs.declared.slot_name.SlotName.TheVariants.{Plain, Component, Marked}
use Rattle.object_paths.specs.Slots.{Slot, same_slot_name}
use Rattle.property_types.specs.declared.plan.OutputPlan.{OutputPlan}
use Rattle.property_types.specs.declared.prop_type.PropType.{PropType}
use Rattle.property_types.specs.declared.value.Value.{Value}
use Rattle.property_types.specs.Plans.{Slots}
use Rattle.property_types.specs.Types.{zero_value}
use Rattle.expr_tree.specs.Tree.{Tree}
use Rattle.document_model.specs.declared.content.Content.{Content}
use Rattle.document_model.specs.declared.content.Content.TheVariants.{Own, Bound}
use Rattle.document_model.specs.declared.kind.ObjectKind.{ObjectKind}
use Rattle.document_model.specs.declared.kind.ObjectKind.TheVariants.{VarSet, Sheet, Link, Feature, Foreign}
use Rattle.document_model.specs.Document.{Document, Object, Cell, object_named}
use Rattle.document_model.specs.Ends.{end_of}
use Rattle.document_model.specs.TypedSlots.{components, type_of_component, property_slots, plan_slots, link_slots, mirrored_slots}

-- What gives a slot its outcome: a value of its own; an expression; the slot of the same name of a
-- link's target; a part of a placement as it stands in the document; or an output of a feature.
pub data Rule : Type 0 where
  own : Value → Rule
  bound : Tree → Rule
  inherit : Slot → Rule
  global : c.Component → Rule
  output : ℕ → Rule

-- A slot of an object: its name, its type, none for a cell, and its rule.
pub record Row : Type 0 where
  pub name : SlotName
  pub prop : Option PropType
  pub rule : Rule

-- the rule of what stands in a slot
abbrev pub rule_of_content : Content → Rule
rule_of_content (Own v) = own v
rule_of_content (Bound e) = bound e

-- the content of that name
abbrev pub content_at : SlotName → List (SlotName × Content) → Option Content
content_at name contents = option_map (λ (e : SlotName × Content). e.1) (find (λ e. same_slot_name e.0 name) contents)

-- a slot with what stands in it, zero where nothing does
abbrev pub row_with : Option Content → SlotName × PropType → Row
row_with content slot = record { name = slot.0; prop = Some slot.1; rule = option_map_or rule_of_content content (own (zero_value slot.1)) }

-- slots with the contents of their names
abbrev pub rows_with : List (SlotName × PropType) → List (SlotName × Content) → List Row
rows_with slots contents = map (λ slot. row_with (content_at slot.0 contents) slot) slots

-- slots with contents in the same order
abbrev pub rows_in_order : List (SlotName × PropType) → List Content → List Row
rows_in_order [] contents = []
rows_in_order (slot ∷ slots) [] = row_with None slot ∷ rows_in_order slots []
rows_in_order (slot ∷ slots) (content ∷ contents) = row_with (Some content) slot ∷ rows_in_order slots contents

-- the slots of the dynamic properties
abbrev pub dynamic_rows : Object → List Row
dynamic_rows o = flat_map (λ p. rows_in_order (property_slots p.name p.prop) p.contents) o.dynamics

-- the slot of a cell, where it is filled
abbrev pub cell_row : Place × Cell → Option Row
cell_row e = option_map (λ content. record { name = Marked e.0; prop = None; rule = rule_of_content content }) e.1.content

-- the slots of the filled cells
abbrev pub cell_rows : Object → List Row
cell_rows o = filter_map cell_row o.cells

-- the outputs of a plan, numbered from a number on
abbrev pub output_rows : ℕ → List OutputPlan → List Row
output_rows k [] = []
output_rows k (p ∷ ps) = record { name = Plain p.name; prop = Some p.prop; rule = output k } ∷ output_rows (suc k) ps

-- the placement in the document
abbrev pub global_rows : List Row
global_rows = map (λ k. record { name = Component (codes "Global") k; prop = Some (type_of_component k); rule = global k }) components

-- what a feature works out: its outputs, and the global placement of a placed one
abbrev pub outcome_rows : Slots → List Row
outcome_rows plan = output_rows 0 plan.outputs ++ (if plan.placed then global_rows else [])

-- a mirrored slot: overridden, or as the target has it
abbrev pub mirrored_row : Object → SlotName × PropType → Row
mirrored_row link slot = record {
  name = slot.0;
  prop = Some slot.1;
  rule =
      option_map_or rule_of_content (content_at slot.0 link.overrides)
      (inherit (record { object = unwrap_or link.target []; name = slot.0 }));
}

-- what a feature at the end of a link works out for the link
abbrev pub outcome_rows_of : ObjectKind → List Row
outcome_rows_of VarSet = []
outcome_rows_of Sheet = []
outcome_rows_of Link = []
outcome_rows_of (Feature plan) = outcome_rows plan
outcome_rows_of (Foreign type) = []

-- the slots that a link has by its end
abbrev pub rows_behind : Object → Option Object → List Row
rows_behind link None = []
rows_behind link (Some e) = map (mirrored_row link) (mirrored_slots e) ++ outcome_rows_of e.kind

-- the slots of an object in their order, by its kind
abbrev pub rows_by : Document → Object → ObjectKind → List Row
rows_by d o VarSet = dynamic_rows o
rows_by d o Sheet = dynamic_rows o ++ cell_rows o
rows_by d o Link = rows_with link_slots o.inputs ++ rows_behind o (end_of d o)
rows_by d o (Feature plan) = rows_with (plan_slots plan) o.inputs ++ dynamic_rows o ++ outcome_rows plan
rows_by d o (Foreign type) = []

abbrev pub rows : Document → Object → List Row
rows d o = rows_by d o o.kind

-- a slot of an object, by its name there
abbrev pub slot_of : Object → SlotName → Slot
slot_of o name = record { object = o.name; name = name }

-- the slots of a document: object by object, each in the order of its rows
abbrev pub slots : Document → List Slot
slots d = flat_map (λ o. map (λ r. slot_of o r.name) (rows d o)) d.objects

-- the row of that name
abbrev pub row_in : List Row → SlotName → Option Row
row_in all name = find (λ r. same_slot_name r.name name) all

-- the row of a slot
abbrev pub row_of : Document → Slot → Option Row
row_of d s = option_and_then (λ o. row_in (rows d o) s.name) (object_named d s.object)

-- the type of a slot; a cell has none
abbrev pub type_of : Document → Slot → Option PropType
type_of d s = option_and_then (λ (r : Row). r.prop) (row_of d s)

-- the rule of a slot
abbrev pub rule_of : Document → Slot → Option Rule
rule_of d s = option_map (λ (r : Row). r.rule) (row_of d s)
