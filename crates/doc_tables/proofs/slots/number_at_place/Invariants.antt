use Rattle.std.proofs.Common.{◌≡◌, slice_get}
use Rattle.std.specs.List.{flat_map}
use Rattle.doc_tables.specs.Entries.{numbers_in}
use Rattle.doc_tables.proofs.slots.number_at_place.Given as goal

abbrev pub invariant-loop-object : goal.invariant-loop-object
invariant-loop-object l =
    slice_get (flat_map numbers_in l.object-iterator) l.left ≡ slice_get (flat_map numbers_in l.objects.entries) l.place
