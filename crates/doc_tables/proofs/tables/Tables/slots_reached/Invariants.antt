use Rattle.std.proofs.Common.{map, take}
use Rattle.expr_tree.specs.ListedReferences.{reference_of}
use Rattle.doc_tables.specs.Accessors.{AreReached}
use Rattle.doc_tables.specs.Entries.{reached_by}
use Rattle.doc_tables.proofs.tables.Tables.slots_reached.Given as goal

abbrev pub invariant-loop-reference : goal.invariant-loop-reference
invariant-loop-reference l =
    AreReached l.self l.found.items (map (λ r. reached_by l.self l.owner.0 (reference_of r)) (take l.reference-index l.all))
