-- The fault that is told when a document is opened has the number of a refusal.
use Rattle.std.proofs.Common.{◌≡◌, Option, Some, None, Result, Err, IsTrue, refl, subst}
use Rattle.document_model.specs.Document.{Document}
use Rattle.document_outcomes.specs.Faults.{Fault, first_fault}
use Rattle.doc_rules.specs.declared.fault.CheckFault.{CheckFault}
use Rattle.doc_rules.specs.declared.fault.CheckFault.TheVariants.{Doc}
use Rattle.doc_rules.specs.declared.fault.DocFault.{DocFault}
use Rattle.fcdoc_core.specs.declared.open_fault.OpenFault.{OpenFault}
use Rattle.fcdoc_core.specs.declared.open_fault.OpenFault.TheVariants as opening
use Rattle.doc_rules.specs.Found.{MeetsFault}
use Rattle.doc_rules.specs.Refusals.{is_refusal_number}

abbrev pub refused_open : {A : Type 0} → DocFault → Result A OpenFault
refused_open fault = Err (opening.Doc fault)

pub fault-named : ((d : Document) (f : Fault) → first_fault d ≡ Some f → IsTrue (is_refusal_number f.number))
    → (d : Document) (checked : Result (Unit {0}) CheckFault) (told : DocFault) → MeetsFault (first_fault d) checked → checked ≡ Err (Doc told) → IsTrue (is_refusal_number told.number)
fault-named law d checked told meets is = of (first_fault d) refl (subst (MeetsFault (first_fault d)) is meets)
  where
    of : (found : Option Fault) → first_fault d ≡ found → MeetsFault found (Err (Doc told)) → IsTrue (is_refusal_number told.number)
    of None e h = absurd h
    of (Some f) e h = subst (λ n. IsTrue (is_refusal_number n)) h.number (law d f e)

-- one fault told is the other
pub told-once : {A : Type 0} (a b : DocFault) → refused_open {A = A} a ≡ refused_open b → a ≡ b
told-once a b h = cc
