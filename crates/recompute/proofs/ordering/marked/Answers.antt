use Rattle.std.proofs.Common.{◌<◌, length, get_or, arith}
use Rattle.std.proofs.lemmas.List.{length-set}
use Rattle.fc_base.specs.declared.ids.SlotId.{SlotId}
use Rattle.recompute.proofs.KeptLemmas.{IsIn-at}
use Rattle.recompute.proofs.OrderLemmas.{marking-next}
use Rattle.recompute.proofs.ordering.marked.Goals as goal

pub index_mut-requires : goal.index_mut-requires
index_mut-requires c =
    let none : SlotId = record { 0 = 0 } in
    let below = c.requires (get_or c.args.slots.now c.loop-slot.slot-index none) (IsIn-at c.args.slots.now c.loop-slot.slot-index none (omega arith)) in
    omega (arith, c.loop-slot.invariant.sized)

pub loop-slot-preserved : goal.loop-slot-preserved
loop-slot-preserved c =
    let none : SlotId = record { 0 = 0 } in
    let more : c.loop-slot.slot-index < length c.args.slots.now = omega arith in
    let below = c.requires (get_or c.args.slots.now c.loop-slot.slot-index none) (IsIn-at c.args.slots.now c.loop-slot.slot-index none more) in
    record {
      marking = marking-next c.args.slots.now c.loop-slot.slot-index c.loop-slot.marks.items none c.loop-slot.invariant.marking more (omega (arith, c.loop-slot.invariant.sized));
      sized = simp length-set (c.loop-slot.invariant.sized);
    }
