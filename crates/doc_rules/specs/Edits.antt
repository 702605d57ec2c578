-- What an edit makes of a document.
use Rattle.std.specs.Prelude.{◌≡◌, ℕ, Bool, true, false, not, [], ◌∷◌, List, Option, Some, None, Result, Ok, Err, IsTrue, codes, if◌then◌else◌}
use Rattle.fc_base.specs.declared.ids.SlotId.{SlotId}
use Rattle.object_paths.specs.Slots.{Slot, same_text}
use Rattle.property_types.specs.declared.prop_type.PropType.TheVariants.{Placement}
use Rattle.property_types.specs.Plans.{Slots}
use Rattle.property_types.specs.Reserved.{is_among}
use Rattle.property_types.specs.Types.{type_name_of}
use Rattle.property_types.specs.Values.{Outcome}
use Rattle.expr_grammar.specs.Parse.{expression_in, closed_expression_in}
use Rattle.expr_eval.specs.Firsts.{on_one}
use Rattle.document_model.specs.Document.{Document}
use Rattle.document_outcomes.specs.Full.{Meanings, full}
use Rattle.document_outcomes.specs.RefusalNumbers.{not_built}
use Rattle.doc_tables.specs.Numbered.{Numbered, Keeps, slot_at}
use Rattle.doc_rules.specs.declared.edit.Edit.{Edit}
use Rattle.doc_rules.specs.declared.edit.Edit.TheVariants.{New, Delete, Add, DropProperty, SetValue, Bind, Unbind}
use Rattle.doc_rules.specs.declared.edit_fault.EditFault.{EditFault}
use Rattle.doc_rules.specs.declared.edit_fault.EditFault.TheVariants.{Refused, Memory}
use Rattle.doc_rules.specs.declared.refusal.Refusal.{Refusal}
pub use Rattle.doc_rules.specs.Accepted.{Accepted, fault_told, refusal_of_fault}
use Rattle.doc_rules.specs.Commanded.{object_of, property_commanded, refused, slot_commanded}
use Rattle.doc_rules.specs.ObjectEdits.{deleted, with_new}
use Rattle.doc_rules.specs.PropertyEdits.{dropped, with_added}
use Rattle.doc_rules.specs.Refusals.{is_refusal_number}
use Rattle.doc_rules.specs.SlotEdits.{bound_to, set_to, unbound}

-- the types of objects that are not built
abbrev pub unbuilt_types : List (List ℕ)
unbuilt_types = codes "Spreadsheet::Sheet" ∷ codes "App::Link" ∷ []

-- an edit that is built; properties with more slots than one are not
abbrev pub is_built : Edit → Bool
is_built (New type name) = not (is_among type unbuilt_types)
is_built (Add owner type name) = not (same_text type (type_name_of Placement))
is_built _ = true

-- The document behind an edit that is built, or the first reason why it is refused: that a name or a
-- path of it names nothing comes first, and a fault of the edited document last. A slot that may not be
-- changed would be refused as soon as its path is followed; there is none today.
abbrev pub made : List Slots → Meanings → Bool → Document → Edit → Result Accepted Refusal
made plans m clean d (New type name) = with_new plans d type name
made plans m clean d (Delete name) = on_one (deleted d) (object_of d name)
made plans m clean d (Add owner type name) = on_one (with_added d type name) (object_of d owner)
made plans m clean d (DropProperty path) = on_one (dropped d) (property_commanded d path)
made plans m clean d (SetValue path text) = on_one (λ s. set_to d s (closed_expression_in text)) (slot_commanded d path)
made plans m clean d (Bind path text) = on_one (λ s. bound_to d s (expression_in text)) (slot_commanded d path)
made plans m clean d (Unbind path) = on_one (unbound m clean d) (slot_commanded d path)
made plans m clean d _ = Err (refused not_built)

-- The document behind an edit, or the first reason why it is refused: before all else that it is not
-- built.
-- Beside the document an edit may look at three things: the plans of the features at hand, which tell
-- the kind of a new object; and for an edit that takes the outcome of a slot for its value, what
-- features and placements give, and whether the document is clean, that is, recomputed since its last
-- edit. Such an edit is refused with NotRecomputed where it is not.
unfoldable pub edited : List Slots → Meanings → Bool → Document → Edit → Result Accepted Refusal
edited plans m clean d e = if is_built e then made plans m clean d e else Err (refused not_built)

-- ---- what a call is handed

-- of each slot in use the full outcome is kept by its number
abbrev pub HasFullOutcomes : Meanings → Numbered → (SlotId → Option Outcome) → Type 0
HasFullOutcomes m t kept = (id : SlotId) (s : Slot) → slot_at t id.0 ≡ Some s → kept id ≡ Some (full m t.document s)

-- ---- how calls tell it

-- an answer, or a refusal; want of memory says nothing of it
abbrev pub Answers : {A : Type 0} → Result A Refusal → Result A EditFault → Type 0
Answers (Ok x) (Ok told) = told ≡ x
Answers (Ok x) (Err (Refused told)) = ⊥
Answers (Err r) (Ok told) = ⊥
Answers (Err r) (Err (Refused told)) = told ≡ r
Answers found (Err (Memory e)) = Unit {0}

-- the tables of the edited document, in which what stays keeps its number, or the refusal
abbrev pub Becomes : Numbered → Result Accepted Refusal → Result Numbered EditFault → Type 0
Becomes before (Ok a) (Ok after) = (after.document ≡ a.document) × Keeps before after
Becomes before (Ok a) (Err (Refused told)) = ⊥
Becomes before (Err r) (Ok after) = ⊥
Becomes before (Err r) (Err (Refused told)) = told ≡ r
Becomes before found (Err (Memory e)) = Unit {0}

-- The edited document stands in the tables, and the count is told; or the edit is refused, or there
-- was no memory, and the tables are as they were.
abbrev pub MeetsEdit : Numbered → Numbered → Result Accepted Refusal → Result ℕ EditFault → Type 0
MeetsEdit before after (Ok a) (Ok count) = (after.document ≡ a.document) × Keeps before after × (count ≡ a.references)
MeetsEdit before after (Ok a) (Err (Refused told)) = ⊥
MeetsEdit before after (Err r) (Ok count) = ⊥
MeetsEdit before after (Err r) (Err (Refused told)) = (told ≡ r) × (after ≡ before)
MeetsEdit before after found (Err (Memory e)) = after ≡ before

-- the refusal has one of the numbers of refusals
abbrev pub IsNamed : Refusal → Type 0
IsNamed r = IsTrue (is_refusal_number r.number)
