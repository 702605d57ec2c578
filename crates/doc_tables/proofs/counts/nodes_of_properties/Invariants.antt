use Rattle.std.proofs.Common.{◌≡◌, ◌+◌, ◌≤◌, min}
use Rattle.doc_tables.specs.Counted.{nodes_of_properties}
use Rattle.doc_tables.proofs.counts.nodes_of_properties.Given as goal

abbrev pub invariant-loop-entry : goal.invariant-loop-entry
invariant-loop-entry l =
    (l.count ≤ 4294967295)
    × (min (l.count + nodes_of_properties l.entry-iterator) 4294967295 ≡ min (nodes_of_properties l.properties.entries) 4294967295)
