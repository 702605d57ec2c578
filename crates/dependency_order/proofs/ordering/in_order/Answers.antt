use Rattle.std.proofs.Common.{arith}
use Rattle.dependency_order.proofs.WalkLemmas.{all_ordered}
use Rattle.dependency_order.proofs.ordering.in_order.Goals as goal

pub returns : goal.returns
returns c =
    let walk = c.loop-node.walk in
    rw c.into_order.ensures
    (all_ordered c.args.inputs.now walk.marks.items walk.path.items walk.order.items c.loop-node.invariant.under_way
    (λ n lt. c.loop-node.invariant.done n (omega arith)))
