use Rattle.std.proofs.Common.{take}
use Rattle.fc_base.specs.Graph.{IsIn}
use Rattle.dependency_order.specs.Spreads.{TakesIn}
use Rattle.dependency_order.proofs.reaching.Spread.reach_all.Given as goal

-- the nodes before the index are taken in, and the start is none of them
abbrev pub invariant-loop-node : goal.invariant-loop-node
invariant-loop-node l = record {
  away : IsIn l.start (take l.node-index l.nodes) → ⊥;
  taken :
      TakesIn (take l.node-index l.nodes) l.initial.self.reached.items l.initial.self.pending.items l.self.reached.items l.self.pending.items;
}
