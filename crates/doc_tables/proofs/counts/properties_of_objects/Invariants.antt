use Rattle.std.proofs.Common.{◌≡◌, ◌+◌, ◌≤◌, min}
use Rattle.doc_tables.specs.Counted.{properties_of_objects}
use Rattle.doc_tables.proofs.counts.properties_of_objects.Given as goal

abbrev pub invariant-loop-object : goal.invariant-loop-object
invariant-loop-object l =
    (l.count ≤ 18446744073709551615)
    × (min (l.count + properties_of_objects l.object-iterator) 18446744073709551615 ≡ min (properties_of_objects l.objects.entries) 18446744073709551615)
