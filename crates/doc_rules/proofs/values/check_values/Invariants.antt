use Rattle.std.proofs.Common.{◌≡◌, drop}
use Rattle.document_model.specs.Slots.{slots}
use Rattle.document_outcomes.specs.Faults.{first_some}
use Rattle.doc_rules.specs.KindFaults.{range_fault}
use Rattle.doc_rules.proofs.values.check_values.Given as goal

-- no slot so far has a fault
abbrev pub invariant-loop-slot : goal.invariant-loop-slot
invariant-loop-slot l =
    first_some (range_fault l.tables.document) (drop l.slot-index (slots l.tables.document)) ≡ first_some (range_fault l.tables.document) (slots l.tables.document)
