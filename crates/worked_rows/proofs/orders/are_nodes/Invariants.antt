use Rattle.std.proofs.Common.{ℕ, ◌<◌, length}
use Rattle.fc_base.specs.Graph.{IsIn}
use Rattle.dependency_order.specs.Nodes.{inputs_of}
use Rattle.worked_rows.proofs.orders.are_nodes.Given as goal

abbrev pub invariant-loop-node : goal.invariant-loop-node
invariant-loop-node l = (n d : ℕ) → n < l.node → IsIn d (inputs_of l.inputs n) → d < length l.inputs
