use Rattle.std.proofs.Common.{◌≡◌, ◌+◌, ◌≤◌, min}
use Rattle.doc_tables.specs.Reached.{lists_of, dependencies_in_properties}
use Rattle.doc_tables.proofs.reached.dependencies_in_properties.Given as goal

abbrev pub invariant-loop-entry : goal.invariant-loop-entry
invariant-loop-entry l =
    (l.count ≤ 18446744073709551615)
    × (min (l.count + dependencies_in_properties (lists_of l.lists.items) l.entry-iterator) 18446744073709551615 ≡ min (dependencies_in_properties (lists_of l.lists.items) l.properties.entries) 18446744073709551615)
