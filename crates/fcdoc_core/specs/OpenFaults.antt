-- The lines for documents that are not opened.
use Rattle.std.specs.Prelude.{ℕ, List, [], IsTrue}
use Rattle.doc_rules.specs.Edits.{fault_told}
use Rattle.doc_rules.specs.Refusals.{is_refusal_number}
use Rattle.fcdoc_core.specs.declared.open_fault.OpenFault.{OpenFault}
use Rattle.fcdoc_core.specs.declared.open_fault.OpenFault.TheVariants.{NotBuilt, Load, Doc, Memory}
use Rattle.fcdoc_file.specs.Loading.{malformed, not_built}
use Rattle.fcdoc_core.specs.Opening.{unloaded, faulty}
use Rattle.fcdoc_core.specs.Replies.{unopened_text}

-- a fault that is told by a line
abbrev pub HasLine : OpenFault → Type 0
HasLine NotBuilt = Unit {0}
HasLine (Load told) = Unit {0}
HasLine (Doc told) = IsTrue (is_refusal_number told.number)
HasLine (Memory e) = ⊥

-- the line of a fault
abbrev pub open_fault_text : OpenFault → List ℕ
open_fault_text NotBuilt = unopened_text (unloaded not_built)
open_fault_text (Load told) = unopened_text (unloaded (malformed told))
open_fault_text (Doc told) = unopened_text (faulty (fault_told told))
open_fault_text (Memory e) = []
