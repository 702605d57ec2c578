-- Opening a document.
use Rattle.std.specs.Prelude.{◌≡◌, ℕ, List, Option, Some, None, Result, Ok, Err}
use Rattle.document_model.specs.Document.{Document}
use Rattle.document_outcomes.specs.Faults.{Fault, first_fault}
use Rattle.doc_rules.specs.Found.{IsFault}
use Rattle.fcdoc_file.specs.Loading.{Unloaded, malformed, not_built, loaded}
use Rattle.fcdoc_core.specs.declared.open_fault.OpenFault.{OpenFault}
use Rattle.fcdoc_core.specs.declared.open_fault.OpenFault.TheVariants.{NotBuilt, Load, Doc, Memory}
use Rattle.fcdoc_core.specs.Machine.{State, SessionView, first_state, session_of}

-- Why a document is not opened: the bytes are the text of none, or the document has a fault.
pub data Unopened : Type 0 where
  unloaded : Unloaded → Unopened
  faulty : Fault → Unopened

abbrev pub opened_by : Document → Option Fault → Result State Unopened
opened_by d None = Ok (first_state d)
opened_by d (Some f) = Err (faulty f)

abbrev pub opened_from : Result Document Unloaded → Result State Unopened
opened_from (Err cause) = Err (unloaded cause)
opened_from (Ok d) = opened_by d (first_fault d)

-- the state of the document that the bytes are the text of, where it is valid
abbrev pub opened_of : List ℕ → Result State Unopened
opened_of bytes = opened_from (loaded bytes)

-- why there is none, as a call tells it
abbrev pub IsUnopened : Unopened → OpenFault → Type 0
IsUnopened (unloaded not_built) NotBuilt = Unit {0}
IsUnopened (unloaded not_built) (Load told) = ⊥
IsUnopened (unloaded not_built) (Doc told) = ⊥
IsUnopened (unloaded not_built) (Memory e) = Unit {0}
IsUnopened (unloaded (malformed f)) NotBuilt = ⊥
IsUnopened (unloaded (malformed f)) (Load told) = told ≡ f
IsUnopened (unloaded (malformed f)) (Doc told) = ⊥
IsUnopened (unloaded (malformed f)) (Memory e) = Unit {0}
IsUnopened (faulty f) NotBuilt = ⊥
IsUnopened (faulty f) (Load told) = ⊥
IsUnopened (faulty f) (Doc told) = IsFault f told
IsUnopened (faulty f) (Memory e) = Unit {0}

-- the session of the state, with no feature at hand, or why there is none, as a call tells it; want of
-- memory says nothing of the bytes
abbrev pub Opens : Result State Unopened → Result SessionView OpenFault → Type 0
Opens (Ok s) (Ok told) = told ≡ session_of s
Opens (Err u) (Ok told) = ⊥
Opens (Err u) (Err fault) = IsUnopened u fault
Opens (Ok s) (Err NotBuilt) = ⊥
Opens (Ok s) (Err (Load told)) = ⊥
Opens (Ok s) (Err (Doc told)) = ⊥
Opens (Ok s) (Err (Memory e)) = Unit {0}
