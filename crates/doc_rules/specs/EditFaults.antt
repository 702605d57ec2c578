-- Why an edit was not made, by why its expression was not read.
use Rattle.expr_grammar.specs.declared.fault.ParseFault.{ParseFault}
use Rattle.expr_grammar.specs.declared.fault.ParseFault.TheVariants as parsing
use Rattle.doc_rules.specs.declared.edit_fault.EditFault.{EditFault}
use Rattle.doc_rules.specs.declared.edit_fault.EditFault.TheVariants.{Refused, Memory}
use Rattle.doc_rules.specs.SlotEdits.{refusal_of_text}

-- an expression that cannot be read is refused with its place
abbrev pub edit_fault_of : ParseFault → EditFault
edit_fault_of (parsing.Expr f) = Refused (refusal_of_text f)
edit_fault_of (parsing.Memory e) = Memory e
