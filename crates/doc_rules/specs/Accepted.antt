-- Edited documents that are accepted, and why an edit is refused.
use Rattle.std.specs.Prelude.{ℕ, Bool, List, [], ◌∷◌, Option, Some, None, Result, Ok, Err, if◌then◌else◌}
use Rattle.document_model.specs.Document.{Document}
use Rattle.document_outcomes.specs.Faults.{Fault, first_fault}
use Rattle.doc_rules.specs.declared.fault.DocFault.{DocFault}
use Rattle.doc_rules.specs.declared.refusal.Refusal.{Refusal}
use Rattle.doc_rules.specs.Commanded.{refused}

-- A document behind an edit, and how many references were written anew.
pub record Accepted : Type 0 where
  pub document : Document
  pub references : ℕ

-- a subject, where it is not empty
abbrev pub subject_told : List ℕ → Option (List ℕ)
subject_told [] = None
subject_told (byte ∷ bytes) = Some (byte ∷ bytes)

-- a fault that the edited document would have
abbrev pub refusal_of_fault : Fault → Refusal
refusal_of_fault f = record { number = f.number; subject = subject_told f.subject; place = None }

-- a fault as it was told
abbrev pub fault_told : DocFault → Fault
fault_told told = record { number = told.number; subject = told.subject }

-- the edited document, unless it has a fault
abbrev pub accepted_by : Document → Option Fault → Result Accepted Refusal
accepted_by d None = Ok (record { document = d; references = 0 })
accepted_by d (Some f) = Err (refusal_of_fault f)

abbrev pub accepted : Document → Result Accepted Refusal
accepted d = accepted_by d (first_fault d)

-- of tests with the numbers of refusals, refused with that of the first test that holds
abbrev pub unless_any : {A : Type 0} → List (Bool × ℕ) → Result A Refusal → Result A Refusal
unless_any [] otherwise = otherwise
unless_any (test ∷ tests) otherwise = if test.0 then Err (refused test.1) else unless_any tests otherwise
