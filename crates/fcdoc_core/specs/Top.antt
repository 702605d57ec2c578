-- What a whole run writes, and how it ends: the meaning of the program.
use Rattle.std.specs.Prelude.{ℕ, List, [], ◌∷◌, ◌++◌, map, length, nat_le, Option, None, Some, Result, Ok, Err, if◌then◌else◌, codes}
use Rattle.std.specs.List.{flat_map, list_any}
use Rattle.std.specs.FinMap.{get}
use Rattle.fc_base.specs.Devices.{Held}
use Rattle.property_types.specs.Plans.{Slots}
use Rattle.document_outcomes.specs.Full.{Meanings}
use Rattle.fcdoc_core.specs.declared.status.Status.{Status}
use Rattle.fcdoc_core.specs.declared.status.Status.TheVariants.{Done, SomeRefused, Usage, Missing, DocumentRefused, ScriptRefused}
use Rattle.fcdoc_core.specs.Words.{Form, Names, form_of, run}
use Rattle.fcdoc_core.specs.Scripts.{Unreadable, most_bytes, script_of, with_replies}
use Rattle.fcdoc_core.specs.Machine.{State, Stepped, stepped, is_refused}
use Rattle.fcdoc_core.specs.Opening.{Unopened, opened_of}
use Rattle.fcdoc_core.specs.Replies.{answer_text, unopened_text, unreadable_text}

-- A piece of what a run writes, offered before the next is begun: a reply or a line of its own, and the
-- features that are called for it, each by the type of its plan, once for each call.
pub record Piece : Type 0 where
  pub text : List ℕ
  pub calls : List (List ℕ)

-- What a run does: the pieces, one after another; the features that are called behind the last of them,
-- before a document is saved; its status; and the name and bytes that it puts into the store, if any.
pub record Top : Type 0 where
  pub pieces : List Piece
  pub closing : List (List ℕ)
  pub status : Status
  pub put : Option (List ℕ × List ℕ)

-- the text of pieces
abbrev pub text_of : List Piece → List ℕ
text_of pieces = flat_map (λ (p : Piece). p.text) pieces

-- the features that are called for them
abbrev pub calls_for : List Piece → List (List ℕ)
calls_for pieces = flat_map (λ (p : Piece). p.calls) pieces

-- all calls of a run
abbrev pub all_calls : Top → List (List ℕ)
all_calls t = calls_for t.pieces ++ t.closing

-- a run that writes one line, calls nothing and puts nothing
abbrev pub one_piece : Status → List ℕ → Top
one_piece status text = record { pieces = record { text = text; calls = [] } ∷ []; closing = []; status = status; put = None }

abbrev pub usage : Top
usage = one_piece Usage (codes "usage: fcdoc run DOC SCRIPT [--save NAME] | check DOC | make N\n")

abbrev pub missing : List ℕ → Top
missing name = one_piece Missing (codes "missing " ++ (name ++ codes "\n"))

abbrev pub document_refused : Unopened → Top
document_refused cause = one_piece DocumentRefused (unopened_text cause)

abbrev pub document_too_long : Top
document_too_long = one_piece DocumentRefused (codes "document refused TooLong\n")

abbrev pub script_refused : Unreadable → Top
script_refused cause = one_piece ScriptRefused (unreadable_text cause)

abbrev pub script_too_long : Top
script_too_long = one_piece ScriptRefused (codes "script refused TooLong\n")

-- some reply is a refusal, or none is
abbrev pub status_of : List Stepped → Status
status_of steps = if list_any is_refused steps then SomeRefused else Done

-- a command's line, and its calls
abbrev pub piece_of : Stepped → Piece
piece_of t = record { text = answer_text t.answer; calls = t.calls }

-- the replies to the lines of a script
abbrev pub replies_of : List Stepped → Top
replies_of steps = record { pieces = map piece_of steps; closing = []; status = status_of steps; put = None }

-- a document that was opened, and all lines of the script, or why there are none
abbrev pub top_of_lines : List Slots → Meanings → State → Result (List (List ℕ)) Unreadable → Top
top_of_lines plans m s (Err cause) = script_refused cause
top_of_lines plans m s (Ok all) = replies_of (stepped plans m s (with_replies all))

-- a document that was opened, and the bytes of the script
abbrev pub top_of_script : List Slots → Meanings → State → List ℕ → Top
top_of_script plans m s bytes = if nat_le (length bytes) most_bytes then top_of_lines plans m s (script_of bytes) else script_too_long

-- what stands under the script's name, and the document that was opened, or why there is none
abbrev pub top_of_state : List Slots → Meanings → List ℕ → Option (List ℕ) → Result State Unopened → Top
top_of_state plans m script found (Err cause) = document_refused cause
top_of_state plans m script None (Ok s) = missing script
top_of_state plans m script (Some bytes) (Ok s) = top_of_script plans m s bytes

-- what stands under the script's name, and the bytes of the document
abbrev pub top_of_document : List Slots → Meanings → List ℕ → Option (List ℕ) → List ℕ → Top
top_of_document plans m script found bytes = if nat_le (length bytes) most_bytes then top_of_state plans m script found (opened_of bytes) else document_too_long

-- What stands under the names of a form: of its document, and of its script; or nothing.
pub record Files : Type 0 where
  pub document : Option (List ℕ)
  pub script : Option (List ℕ)

-- a script that is run on a document
abbrev pub top_of_names : List Slots → Meanings → Names → Option (List ℕ) → Option (List ℕ) → Top
top_of_names plans m names None script = missing names.document
top_of_names plans m names (Some bytes) script = top_of_document plans m names.script script bytes

-- a run of a form on these files; without a form it is the usage line
abbrev pub top_of_form : List Slots → Meanings → Option Form → Files → Top
top_of_form plans m None files = usage
top_of_form plans m (Some (run names)) files = top_of_names plans m names files.document files.script

-- what a store holds under the names of a form
abbrev pub files_in : Held → Option Form → Files
files_in held None = record { document = None; script = None }
files_in held (Some (run names)) = record { document = get held names.document; script = get held names.script }

-- the meaning of a run of these words on a store that holds this
unfoldable pub top : List Slots → Meanings → List (List ℕ) → Held → Top
top plans m words held = top_of_form plans m (form_of words) (files_in held (form_of words))
