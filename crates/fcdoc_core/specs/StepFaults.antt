-- Why a command was not done, by why its edit was not made.
use Rattle.doc_rules.specs.declared.edit_fault.EditFault.{EditFault}
use Rattle.doc_rules.specs.declared.edit_fault.EditFault.TheVariants as editing
use Rattle.fcdoc_core.specs.declared.step_fault.StepFault.{StepFault}
use Rattle.fcdoc_core.specs.declared.step_fault.StepFault.TheVariants.{Refused, Memory}

abbrev pub step_fault_of : EditFault → StepFault
step_fault_of (editing.Refused r) = Refused r
step_fault_of (editing.Memory e) = Memory e
