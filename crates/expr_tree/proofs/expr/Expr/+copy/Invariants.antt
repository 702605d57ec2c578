use Rattle.std.proofs.Common.{◌≡◌, ◌+◌, ◌*◌, ◌≤◌, take, drop}
use Rattle.expr_tree.specs.NodesAsTrees.{arguments_of}
use Rattle.expr_tree.specs.Nodes.{node_count, argument_nodes}
use Rattle.expr_tree.proofs.expr.Expr.+copy.Given as goal

-- the arguments so far are copied
abbrev pub invariant-copied_arguments-loop-argument : goal.invariant-copied_arguments-loop-argument
invariant-copied_arguments-loop-argument l = record {
  copied : l.copies.items ≡ take l.argument-index l.arguments;
  left : argument_nodes (arguments_of (drop l.argument-index l.arguments)) ≤ argument_nodes (arguments_of l.arguments);
}

-- each call is of a smaller tree, or of parts that are smaller than their tree
abbrev pub decreases-copy : goal.decreases-copy
decreases-copy l = 3 * node_count l.self.now

abbrev pub decreases-copied_pair : goal.decreases-copied_pair
decreases-copied_pair l = 3 * (node_count l.a.now + node_count l.b.now) + 1

abbrev pub decreases-copied_conditional : goal.decreases-copied_conditional
decreases-copied_conditional l = 3 * (node_count l.c.now + node_count l.a.now + node_count l.b.now) + 2

abbrev pub decreases-copied_arguments : goal.decreases-copied_arguments
decreases-copied_arguments l = 3 * argument_nodes (arguments_of l.arguments.now) + 1
