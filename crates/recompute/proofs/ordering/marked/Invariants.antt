use Rattle.std.proofs.Common.{◌≡◌, length}
use Rattle.recompute.proofs.OrderLemmas.{IsMarking}
use Rattle.recompute.proofs.ordering.marked.Given as goal

abbrev pub invariant-loop-slot : goal.invariant-loop-slot
invariant-loop-slot l = record {
  marking : IsMarking l.slots l.slot-index l.marks.items;
  sized : length l.marks.items ≡ l.count;
}
