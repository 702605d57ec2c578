-- The first fault of a document.
use Rattle.std.specs.Prelude.{◌≡◌, ℕ, Bool, false, not, ◌||◌, List, [], ◌∷◌, find, Option, Some, None, is_some, Ok, Err, if◌then◌else◌}
use Rattle.std.specs.List.{list_any}
use Rattle.std.specs.Option.{option_map, option_or, option_map_or}
use Rattle.std.specs.Result.{is_ok}
use Rattle.object_paths.specs.declared.slot_name.SlotName.{SlotName}
use Rattle.object_paths.specs.declared.path.Owner.TheVariants.{ByName}
use Rattle.object_paths.specs.PathTexts.{path_text}
use Rattle.object_paths.specs.Slots.{Slot, same_text, same_slot_name}
use Rattle.property_types.specs.declared.prop_type.PropType.{PropType}
use Rattle.property_types.specs.Fits.{fit}
use Rattle.expr_tree.specs.References.{Reference, to_path, to_area, references}
use Rattle.expr_eval.specs.declared.sort_cause.SortCause.{SortCause}
use Rattle.expr_eval.specs.declared.sort_cause.SortCause.TheVariants.{UnitMismatch, KindMismatch, ExponentRange}
use Rattle.expr_eval.specs.SortRows.{SortOutcome}
use Rattle.document_model.specs.declared.content.Content.{Content}
use Rattle.document_model.specs.Document.{Document, Object, object_named, object_labelled}
use Rattle.document_model.specs.Ends.{end_of, has_bounds}
use Rattle.document_model.specs.Resolution.{resolve}
use Rattle.document_model.specs.Slots.{Rule, own, bound, inherit, global, output, Row, rows, slots, slot_of, type_of, rule_of}
use Rattle.document_model.specs.TypedSlots.{mirrored_slots}
use Rattle.document_model.specs.Kinds.{is_sheet}
use Rattle.document_outcomes.specs.Cycles.{is_cyclic, leads_back}
use Rattle.document_outcomes.specs.Limits.{has_too_many, has_too_large}
use Rattle.document_outcomes.specs.RefusalNumbers.{label_taken, out_of_range, unknown_reference, cycle, unit_mismatch, kind_mismatch, exponent_range, link_kind, too_many}
use Rattle.document_outcomes.specs.Sorts.{sort}

-- A fault of a document: its number, and what has it.
pub record Fault : Type 0 where
  pub number : ℕ
  pub subject : List ℕ

-- a fault of an object, and of a slot, which is named by its path from outside
abbrev pub object_fault : ℕ → Object → Fault
object_fault number o = record { number = number; subject = o.name }

abbrev pub slot_fault : ℕ → Slot → Fault
slot_fault number s = record { number = number; subject = path_text (record { owner = ByName s.object; slot = s.name }) }

-- what the first of a list has that has something
abbrev pub first_some : {A B : Type 0} → (A → Option B) → List A → Option B
first_some f [] = None
first_some f (x ∷ xs) = option_or (f x) (first_some f xs)

-- 29: the document passes a limit
abbrev pub limit_faults : Document → Option Fault
limit_faults d = if has_too_many d || has_too_large d then Some (record { number = too_many; subject = [] }) else None

-- an object whose label an earlier one has
abbrev pub has_taken_label : Document → Object → Bool
has_taken_label d o = option_map_or (λ (first : Object). not (same_text first.name o.name)) (object_labelled d o.label) false

-- 6: a label that an earlier object has
abbrev pub label_faults : Document → Option Fault
label_faults d = option_map (object_fault label_taken) (find (has_taken_label d) d.objects)

-- an object that is there and has no bounds
abbrev pub lacks_bounds : Document → List ℕ → Bool
lacks_bounds d name = option_map_or (λ (m : Object). not (has_bounds d m)) (object_named d name) false

-- 23: a link whose targets lead back to it, or a compound with a member that has no bounds
abbrev pub link_faults : Document → Option Fault
link_faults d = option_map (object_fault link_kind) (find (λ (o : Object). leads_back d o || list_any (lacks_bounds d) o.members) d.objects)

-- no object has the name
abbrev pub is_missing : Document → List ℕ → Bool
is_missing d name = not (is_some (object_named d name))

-- an object with a target or a member that is not there
abbrev pub lacks_object : Document → Object → Bool
lacks_object d o = option_map_or (is_missing d) o.target false || list_any (is_missing d) o.members

-- a slot that a link mirrors from its end
abbrev pub is_mirrored : Document → Object → SlotName → Bool
is_mirrored d link name =
    option_map_or (λ (e : Object). list_any (λ (slot : SlotName × PropType). same_slot_name slot.0 name) (mirrored_slots e)) (end_of d link) false

-- the first override of an object whose slot is no mirrored one
abbrev pub stray_override : Document → Object → Option (SlotName × Content)
stray_override d o = find (λ (e : SlotName × Content). not (is_mirrored d o e.0)) o.overrides

-- a path that names no slot, or an area in an expression that belongs to no sheet
abbrev pub is_unknown : Document → Object → Reference → Bool
is_unknown d o (to_path p) = not (is_some (resolve d o p))
is_unknown d o (to_area area) = not (is_sheet o.kind)

-- an expression with such a reference
abbrev pub has_unknown : Document → Object → Rule → Bool
has_unknown d o (own v) = false
has_unknown d o (bound e) = list_any (is_unknown d o) (references e)
has_unknown d o (inherit s) = false
has_unknown d o (global k) = false
has_unknown d o (output k) = false

-- 12 in one object: the object itself, then an override, then a slot
abbrev pub reference_fault : Document → Object → Option Fault
reference_fault d o =
    option_or (if lacks_object d o then Some (object_fault unknown_reference o) else None)
    (option_or (option_map (λ (e : SlotName × Content). slot_fault unknown_reference (slot_of o e.0)) (stray_override d o))
    (option_map (λ (r : Row). slot_fault unknown_reference (slot_of o r.name)) (find (λ (r : Row). has_unknown d o r.rule) (rows d o))))

-- 12: a reference to something that is not there
abbrev pub reference_faults : Document → Option Fault
reference_faults d = first_some (reference_fault d) d.objects

-- 14: a slot that depends on itself
abbrev pub cycle_faults : Document → Option Fault
cycle_faults d = option_map (slot_fault cycle) (find (is_cyclic d) (slots d))

-- the numbers of the causes why a slot has no sort
abbrev pub number_of_cause : SortCause → ℕ
number_of_cause UnitMismatch = unit_mismatch
number_of_cause KindMismatch = kind_mismatch
number_of_cause ExponentRange = exponent_range

abbrev pub sort_fault : Slot → SortOutcome → Option Fault
sort_fault s (Ok found) = None
sort_fault s (Err cause) = Some (slot_fault (number_of_cause cause) s)

-- 15 to 17: a slot that has no sort
abbrev pub sort_faults : Document → Option Fault
sort_faults d = first_some (λ s. sort_fault s (sort d s)) (slots d)

-- an own value outside the type of its slot
abbrev pub is_outside : Option PropType → Option Rule → Bool
is_outside (Some type) (Some (own v)) = not (is_ok (fit type v))
is_outside _ _ = false

-- 10: an own value outside its type
abbrev pub range_faults : Document → Option Fault
range_faults d = option_map (slot_fault out_of_range) (find (λ s. is_outside (type_of d s) (rule_of d s)) (slots d))

-- the first fault of a document within its limits: the kinds in this order, and within a kind the
-- first in the document
unfoldable pub fault_within_limits : Document → Option Fault
fault_within_limits d =
    option_or (label_faults d) (option_or (link_faults d) (option_or (reference_faults d)
    (option_or (cycle_faults d) (option_or (sort_faults d) (range_faults d)))))

-- the first fault of a document
unfoldable pub first_fault : Document → Option Fault
first_fault d = option_or (limit_faults d) (fault_within_limits d)

-- a document without a fault
abbrev pub IsValid : Document → Type 0
IsValid d = first_fault d ≡ None
