-- Private: only contracts inside this crate cite this.
-- The faults of each kind, object by object and slot by slot.
use Rattle.std.specs.Prelude.{ℕ, Bool, false, is_none, List, [], Option, Some, None, if◌then◌else◌}
use Rattle.std.specs.List.{list_any}
use Rattle.std.specs.Option.{option_and_then, option_map_or}
use Rattle.fc_base.specs.declared.ids.SlotId.{SlotId}
use Rattle.object_paths.specs.Slots.{Slot}
use Rattle.expr_grammar.specs.Large.{is_too_large}
use Rattle.expr_tree.specs.Tree.{Tree}
use Rattle.document_model.specs.Document.{Document, Object}
use Rattle.document_model.specs.Slots.{rule_of, type_of}
use Rattle.doc_tables.specs.Accessors.{slots_reached, tree_by}
use Rattle.doc_tables.specs.Numbered.{Numbered, slot_at}
use Rattle.document_outcomes.specs.Cycles.{is_cyclic}
use Rattle.document_outcomes.specs.Faults.{Fault, object_fault, slot_fault, has_taken_label, is_outside, sort_fault}
use Rattle.document_outcomes.specs.RefusalNumbers.{label_taken, out_of_range, unknown_reference, cycle}
use Rattle.document_outcomes.specs.Sorts.{sort}

-- the fault of a slot that breaks a rule
abbrev pub fault_if : ℕ → (Slot → Bool) → Slot → Option Fault
fault_if number is_broken s = if is_broken s then Some (slot_fault number s) else None

-- the fault of the slot of a number
abbrev pub fault_at : Numbered → (Slot → Option Fault) → SlotId → Option Fault
fault_at t fault id = option_and_then fault (slot_at t id.0)

-- the fault of an object whose label an earlier one has
abbrev pub label_fault : Document → Object → Option Fault
label_fault d o = if has_taken_label d o then Some (object_fault label_taken o) else None

-- the expression of a slot
abbrev pub tree_of : Document → Slot → Option Tree
tree_of d s = option_and_then tree_by (rule_of d s)

-- a slot whose expression is too large
abbrev pub has_large_tree : Document → Slot → Bool
has_large_tree d s = option_map_or is_too_large (tree_of d s) false

-- a slot with a reference that names no slot
abbrev pub has_unknown_reference : Document → Slot → Bool
has_unknown_reference d s = list_any is_none (option_map_or (slots_reached d s) (tree_of d s) [])

abbrev pub unknown_fault : Document → Slot → Option Fault
unknown_fault d = fault_if unknown_reference (has_unknown_reference d)

abbrev pub cycle_fault : Document → Slot → Option Fault
cycle_fault d = fault_if cycle (is_cyclic d)

abbrev pub fault_of_sort : Document → Slot → Option Fault
fault_of_sort d s = sort_fault s (sort d s)

-- a slot whose own value is outside its type
abbrev pub has_value_outside : Document → Slot → Bool
has_value_outside d s = is_outside (type_of d s) (rule_of d s)

abbrev pub range_fault : Document → Slot → Option Fault
range_fault d = fault_if out_of_range (has_value_outside d)
