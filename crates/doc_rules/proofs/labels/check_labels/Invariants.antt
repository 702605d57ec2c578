use Rattle.std.proofs.Common.{◌≡◌, drop}
use Rattle.document_outcomes.specs.Faults.{first_some}
use Rattle.doc_rules.specs.KindFaults.{label_fault}
use Rattle.doc_rules.proofs.labels.check_labels.Given as goal

-- no object so far has a fault
abbrev pub invariant-loop-place : goal.invariant-loop-place
invariant-loop-place l =
    first_some (label_fault l.tables.document) (drop l.place l.tables.document.objects) ≡ first_some (label_fault l.tables.document) l.tables.document.objects
