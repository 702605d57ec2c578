use Rattle.std.proofs.Common.{◌≡◌, ◌++◌}
use Rattle.std.specs.List.{flat_map}
use Rattle.doc_tables.specs.Entries.{numbers_in}
use Rattle.doc_tables.proofs.slots.numbers_in_order.Given as goal

abbrev pub invariant-loop-object : goal.invariant-loop-object
invariant-loop-object l =
    l.all.items ++ flat_map numbers_in l.object-iterator ≡ flat_map numbers_in l.objects.entries
