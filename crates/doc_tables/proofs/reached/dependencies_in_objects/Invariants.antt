use Rattle.std.proofs.Common.{◌≡◌, ◌+◌, ◌≤◌, min}
use Rattle.doc_tables.specs.Reached.{lists_of, dependencies_in_objects}
use Rattle.doc_tables.proofs.reached.dependencies_in_objects.Given as goal

abbrev pub invariant-loop-object : goal.invariant-loop-object
invariant-loop-object l =
    (l.count ≤ 18446744073709551615)
    × (min (l.count + dependencies_in_objects (lists_of l.lists.items) l.object-iterator) 18446744073709551615 ≡ min (dependencies_in_objects (lists_of l.lists.items) l.objects.entries) 18446744073709551615)
