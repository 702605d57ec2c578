use Rattle.dependency_order.specs.Spreads.{IsSpreading, nodes_left}
use Rattle.dependency_order.proofs.reaching.reaches_itself.Given as goal

abbrev pub invariant-loop-from : goal.invariant-loop-from
invariant-loop-from l = IsSpreading l.inputs l.node l.spread.reached.items l.spread.pending.items

abbrev pub decreases-loop-from : goal.decreases-loop-from
decreases-loop-from l = nodes_left l.spread.reached.items l.spread.pending.items
