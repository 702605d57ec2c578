-- What a script means: a machine that runs command by command on whole documents, and works
-- everything out from the document alone.
use Rattle.std.specs.Prelude.{ℕ, List, [], ◌∷◌, map, length, Bool, true, false, if◌then◌else◌, Option, None, Some, Result, Ok, Err}
use Rattle.std.specs.Result.{is_err}
use Rattle.object_paths.specs.declared.path.Path.{Path}
use Rattle.object_paths.specs.Slots.{Slot}
use Rattle.property_types.specs.Plans.{Slots}
use Rattle.expr_grammar.specs.Printed.{printed}
use Rattle.expr_eval.specs.Firsts.{on_one}
use Rattle.document_model.specs.Counts.{nodes_of_document}
use Rattle.document_model.specs.Document.{Document}
use Rattle.document_model.specs.Slots.{Rule, rule_of, own, bound, inherit, global, output}
use Rattle.document_outcomes.specs.Called.{Entry, called, input_lists}
use Rattle.document_outcomes.specs.Full.{Meanings, full}
use Rattle.document_outcomes.specs.RefusalNumbers.{not_recomputed, not_built}
use Rattle.recompute.specs.Kept.{faults_of}
use Rattle.doc_rules.specs.declared.refusal.Refusal.{Refusal}
use Rattle.doc_rules.specs.Commanded.{refused, slot_commanded}
use Rattle.doc_rules.specs.Edits.{Accepted, edited}
use Rattle.doc_rules.specs.declared.edit.Edit.{Edit}
use Rattle.fcdoc_core.specs.declared.command.Command.{Command}
use Rattle.fcdoc_core.specs.declared.command.Command.TheVariants as command
use Rattle.fcdoc_core.specs.declared.reply.Reply.{Reply}
use Rattle.fcdoc_core.specs.declared.reply.Reply.TheVariants as reply
use Rattle.fcdoc_core.specs.Commands.{command_of}

-- What the machine keeps from command to command: the document, the entries of the features at the
-- last recompute, and whether there was no edit since.
pub record State : Type 0 where
  pub now : Document
  pub last : List Entry
  pub clean : Bool

-- What a command does: the state behind it, its answer, and the features that it calls, each by the
-- type of its plan, once for each call.
pub record Stepped : Type 0 where
  pub state : State
  pub answer : Result Reply Refusal
  pub calls : List (List ℕ)

-- What a session is seen as: the plans of the features at hand, and a state of the machine.
pub record SessionView : Type 0 where
  pub plans : List Slots
  pub state : State

-- the session of a state, with no feature at hand
abbrev pub session_of : State → SessionView
session_of s = record { plans = []; state = s }

-- the session in another state, with the features that it had
abbrev pub moved_to : SessionView → State → SessionView
moved_to v s = record v { state = s }

-- the state of a document that was read
abbrev pub first_state : Document → State
first_state d = record { now = d; last = []; clean = false }

-- ---- the commands

-- an answer that changes nothing, and for which no feature is called
abbrev pub asked : State → Result Reply Refusal → Stepped
asked s answer = record { state = s; answer = answer; calls = [] }

-- what is worked out of a slot, 28 where there was an edit since the last recompute
abbrev pub worked_out : Meanings → State → Slot → Result Reply Refusal
worked_out m s slot = if s.clean then Ok (reply.Value (full m s.now slot)) else Err (refused not_recomputed)

-- the value of a slot by its rule: a value of its own at any time
abbrev pub value_by_rule : Meanings → State → Slot → Option Rule → Result Reply Refusal
value_by_rule m s slot None = worked_out m s slot
value_by_rule m s slot (Some (own v)) = Ok (reply.Value (Ok v))
value_by_rule m s slot (Some (bound e)) = worked_out m s slot
value_by_rule m s slot (Some (inherit t)) = worked_out m s slot
value_by_rule m s slot (Some (global k)) = worked_out m s slot
value_by_rule m s slot (Some (output k)) = worked_out m s slot

-- `get`: the value of the slot that the path names
abbrev pub got : Meanings → State → Path → Result Reply Refusal
got m s path = on_one (λ slot. value_by_rule m s slot (rule_of s.now slot)) (slot_commanded s.now path)

-- the printed form of the expression to which a slot is bound
abbrev pub expression_by_rule : Option Rule → Option (List ℕ)
expression_by_rule None = None
expression_by_rule (Some (own v)) = None
expression_by_rule (Some (bound e)) = Some (printed e)
expression_by_rule (Some (inherit t)) = None
expression_by_rule (Some (global k)) = None
expression_by_rule (Some (output k)) = None

-- `expr`: the expression to which the slot is bound that the path names
abbrev pub expression_told : Document → Path → Result Reply Refusal
expression_told d path = on_one (λ slot. Ok (reply.Expression (expression_by_rule (rule_of d slot)))) (slot_commanded d path)

-- the reply to an edit that was made, by how many references were written anew
abbrev pub reply_of_edit : Edit → ℕ → Reply
reply_of_edit edit references = reply.Ok

-- an edit: a refused one changes nothing
abbrev pub edited_to : State → Edit → Result Accepted Refusal → Stepped
edited_to s edit (Ok a) = record { state = record s { now = a.document; clean = false }; answer = Ok (reply_of_edit edit a.references); calls = [] }
edited_to s edit (Err r) = asked s (Err r)

-- `recompute`: the features are called whose input lists are not those of the last recompute; the reply
-- tells how many calls these are, and how many slots have a fault
abbrev pub recomputed : Meanings → State → Stepped
recomputed m s = record {
  state = record { now = s.now; last = input_lists m s.now; clean = true };
  answer = Ok (reply.Recomputed (record { calls = length (called m s.last s.now); faults = faults_of m s.now }));
  calls = map (λ (e : Entry). e.type_name) (called m s.last s.now);
}

-- one command, by the plans of the features at hand, and what features and placements give
abbrev pub step : List Slots → Meanings → State → Command → Stepped
step plans m s (command.Edit edit) = edited_to s edit (edited plans m s.clean s.now edit)
step plans m s (command.Get path) = asked s (got m s path)
step plans m s (command.Expression path) = asked s (expression_told s.now path)
step plans m s command.Recompute = recomputed m s

-- ---- lines

-- a line: one that is no command which is built is refused
abbrev pub step_by : List Slots → Meanings → State → Option Command → Stepped
step_by plans m s None = asked s (Err (refused not_built))
step_by plans m s (Some c) = step plans m s c

abbrev pub step_line : List Slots → Meanings → State → List ℕ → Stepped
step_line plans m s line = step_by plans m s (command_of line)

-- what the lines do, one after another
abbrev pub stepped : List Slots → Meanings → State → List (List ℕ) → List Stepped
stepped plans m s [] = []
stepped plans m s (line ∷ lines) = step_line plans m s line ∷ stepped plans m (step_line plans m s line).state lines

-- the state behind all lines
abbrev pub state_behind : List Slots → Meanings → State → List (List ℕ) → State
state_behind plans m s [] = s
state_behind plans m s (line ∷ lines) = state_behind plans m (step_line plans m s line).state lines

-- a command whose answer is a refusal
abbrev pub is_refused : Stepped → Bool
is_refused t = is_err t.answer

-- ---- the steps of a command

-- the nodes of the expressions that a command may evaluate slot by slot
abbrev pub most_steps : State → Command → ℕ
most_steps s (command.Edit edit) = 0
most_steps s (command.Get path) = 0
most_steps s (command.Expression path) = 0
most_steps s command.Recompute = nodes_of_document s.now
