use Rattle.std.proofs.Common.{◌≡◌, ◌+◌, ◌≤◌, min, drop}
use Rattle.expr_tree.specs.Nodes.{argument_nodes}
use Rattle.expr_tree.specs.NodesAsTrees.{arguments_of}
use Rattle.expr_tree.proofs.expr.Expr.+node_count.Given as goal

-- the count so far and the nodes of the other arguments, up to the greatest count
abbrev pub invariant-loop-argument : goal.invariant-loop-argument
invariant-loop-argument l = record {
  counted :
      min (l.count + argument_nodes (arguments_of (drop l.argument-index l.argument-items))) 4294967295
      ≡ min (argument_nodes (arguments_of l.argument-items) + 1) 4294967295;
  small : l.count ≤ 4294967295;
}
