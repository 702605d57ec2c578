-- How a fault of a document is told.
use Rattle.std.specs.Prelude.{◌≡◌, Option, Some, None, Result, Ok, Err}
use Rattle.document_outcomes.specs.Faults.{Fault}
use Rattle.doc_rules.specs.declared.fault.CheckFault.{CheckFault}
use Rattle.doc_rules.specs.declared.fault.CheckFault.TheVariants.{Doc, Memory}
use Rattle.doc_rules.specs.declared.fault.DocFault.{DocFault}

-- a fault as a call tells it
pub record IsFault (f : Fault) (told : DocFault) : Type 0 where
  pub number : f.number ≡ told.number
  pub subject : f.subject ≡ told.subject

-- The fault is told exactly where there is one. Want of memory says nothing of the document.
abbrev pub MeetsFault : Option Fault → Result (Unit {0}) CheckFault → Type 0
MeetsFault found (Err (Memory e)) = Unit {0}
MeetsFault None (Ok done) = Unit {0}
MeetsFault (Some f) (Ok done) = ⊥
MeetsFault None (Err (Doc told)) = ⊥
MeetsFault (Some f) (Err (Doc told)) = IsFault f told
