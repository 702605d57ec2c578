use Rattle.std.proofs.Common.{◌≡◌, drop}
use Rattle.document_model.specs.Slots.{slots}
use Rattle.document_outcomes.specs.Faults.{first_some}
use Rattle.doc_rules.specs.KindFaults.{fault_of_sort}
use Rattle.doc_rules.proofs.sorts.check_each_sort.Given as goal

-- no slot so far has a fault
abbrev pub invariant-loop-slot : goal.invariant-loop-slot
invariant-loop-slot l =
    first_some (fault_of_sort l.tables.document) (drop l.slot-index (slots l.tables.document)) ≡ first_some (fault_of_sort l.tables.document) (slots l.tables.document)
