use Rattle.std.proofs.Common.{◌≡◌, drop}
use Rattle.std.specs.List.{list_any}
use Rattle.document_model.specs.Slots.{slots}
use Rattle.doc_rules.specs.KindFaults.{has_large_tree}
use Rattle.doc_rules.proofs.limits.has_too_large.Given as goal

-- no expression so far is too large
abbrev pub invariant-loop-slot : goal.invariant-loop-slot
invariant-loop-slot l =
    list_any (has_large_tree l.tables.document) (drop l.slot-index (slots l.tables.document))
    ≡ list_any (has_large_tree l.tables.document) (slots l.tables.document)
