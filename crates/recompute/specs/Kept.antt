-- What is kept from one recompute to the next: outcomes by the numbers of slots, and what features gave.
use Rattle.std.specs.Prelude.{◌≡◌, ℕ, List, [], map, Option, Some, Err, unwrap_or, count_by}
use Rattle.std.specs.Option.{option_and_then, option_map, option_map_or}
use Rattle.std.specs.Result.{is_err}
use Rattle.fc_base.specs.Graph.{IsIn}
use Rattle.fc_base.specs.declared.ids.SlotId.{SlotId}
use Rattle.object_paths.specs.Slots.{Slot}
use Rattle.property_types.specs.declared.value.ValueFault.TheVariants.{Range}
use Rattle.property_types.specs.Values.{Outcome}
use Rattle.expr_eval.specs.Outcomes.{Reading}
use Rattle.document_model.specs.Document.{Document, object_named}
use Rattle.document_model.specs.Ends.{plan_behind}
use Rattle.document_model.specs.Slots.{slots}
use Rattle.document_outcomes.specs.Called.{Entry, input_lists}
use Rattle.document_outcomes.specs.Full.{Meanings, full, local}
use Rattle.doc_tables.specs.Numbered.{Numbered, at_number, slot_at, number_of}

-- An input list of the last recompute, and the outputs that its feature gave.
pub record Given : Type 0 where
  pub entry : Entry
  pub outputs : List Outcome

-- The outcomes by the numbers of slots, none where none is kept, and the input lists of the last
-- recompute with what was given.
pub record Kept : Type 0 where
  pub outcomes : List (Option Outcome)
  pub last : List Given

-- nothing is kept
abbrev pub nothing_kept : Kept
nothing_kept = record { outcomes = []; last = [] }

-- the input lists alone
abbrev pub entries : List Given → List Entry
entries last = map (λ g. g.entry) last

-- Each slot has its full outcome, and nothing is kept for a number that is not in use.
abbrev pub AreFull : Meanings → Numbered → List (Option Outcome) → Type 0
AreFull m t values = (n : ℕ) → at_number values n ≡ option_map (full m t.document) (slot_at t n)

-- what the feature behind the object of an entry gives on its values
abbrev pub outputs_of : Meanings → Document → Entry → List Outcome
outputs_of m d e = option_map_or (λ plan. m.gives plan e.inputs) (option_and_then (plan_behind d) (object_named d e.object)) []

-- These are the input lists of the document, each with what its feature gives.
pub record AreLast (m : Meanings) (d : Document) (last : List Given) : Type 0 where
  pub entries : entries last ≡ input_lists m d
  pub outputs : (g : Given) → IsIn g last → g.outputs ≡ outputs_of m d g.entry

-- how many slots have a fault for an outcome
abbrev pub faults_of : Meanings → Document → ℕ
faults_of m d = count_by (λ s. is_err (full m d s)) (slots d)

-- what is kept for a number; a fault where nothing is
abbrev pub kept_at : List (Option Outcome) → ℕ → Outcome
kept_at values n = unwrap_or (at_number values n) (Err Range)

-- what is kept for a slot; a fault where nothing is
abbrev pub kept_for : Numbered → List (Option Outcome) → Slot → Outcome
kept_for t values s = option_map_or (kept_at values) (number_of t s) (Err Range)

-- what the references of an expression have, each given by the number of the slot that it names
abbrev pub reading_kept : List (Option Outcome) → List (Option SlotId) → Outcome → Reading
reading_kept values reached unknown = record {
  at = λ k. option_map_or (λ (id : SlotId). unwrap_or (at_number values id.0) unknown) (at_number reached k) unknown;
  inside = λ k. [];
}

-- this is what the rule of the slot of a number gives for what is kept
abbrev pub IsGiven : Meanings → Numbered → List (Option Outcome) → ℕ → Outcome → Type 0
IsGiven m t values n given = (s : Slot) → slot_at t n ≡ Some s → given ≡ local m t.document s (kept_for t values)
