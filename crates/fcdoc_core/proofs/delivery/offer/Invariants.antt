use Rattle.std.proofs.Common.{◌≡◌, length}
use Rattle.fcdoc_core.proofs.DeliveryLemmas.{SoFar}
use Rattle.fcdoc_core.proofs.delivery.offer.Given as goal

abbrev pub invariant-loop-rest : goal.invariant-loop-rest
invariant-loop-rest g l = record {
  so_far : SoFar l.piece l.rest (g.K.Sink.written l.initial.out) (g.K.Sink.written l.out);
  same_count : g.K.Sink.faults l.out ≡ g.K.Sink.faults l.initial.out;
}

abbrev pub decreases-loop-rest : goal.decreases-loop-rest
decreases-loop-rest g l = length l.rest
