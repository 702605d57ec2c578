use Rattle.std.proofs.Common.{◌≡◌, ◌+◌, ◌≤◌, min}
use Rattle.doc_tables.specs.Counted.{nodes_of_objects}
use Rattle.doc_tables.proofs.counts.nodes_of_objects.Given as goal

abbrev pub invariant-loop-object : goal.invariant-loop-object
invariant-loop-object l =
    (l.count ≤ 4294967295)
    × (min (l.count + nodes_of_objects l.object-iterator) 4294967295 ≡ min (nodes_of_objects l.objects.entries) 4294967295)
