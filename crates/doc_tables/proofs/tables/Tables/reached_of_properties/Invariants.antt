use Rattle.std.proofs.Common.{◌≡◌, ◌+◌, ◌≤◌, min}
use Rattle.doc_tables.specs.Counted.{reached_of_properties}
use Rattle.doc_tables.proofs.tables.Tables.reached_of_properties.Given as goal

abbrev pub invariant-loop-entry : goal.invariant-loop-entry
invariant-loop-entry l =
    (l.count ≤ 18446744073709551615)
    × (min (l.count + reached_of_properties l.self l.owner.0 l.entry-iterator) 18446744073709551615
    ≡ min (reached_of_properties l.self l.owner.0 l.properties.entries) 18446744073709551615)
