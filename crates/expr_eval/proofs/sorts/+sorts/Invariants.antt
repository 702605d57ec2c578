use Rattle.std.proofs.Common.{◌≡◌, ◌+◌, ◌*◌, ◌≤◌, ◌++◌, drop}
use Rattle.expr_tree.specs.Nodes.{node_count, argument_nodes}
use Rattle.expr_tree.specs.References.{argument_reference_count}
use Rattle.expr_tree.specs.NodesAsTrees.{arguments_of}
use Rattle.expr_eval.specs.Sorts.{item_sorts}
use Rattle.expr_eval.proofs.sorts.+sorts.Given as goal

-- the references so far and those of the other arguments are those of all, and likewise the sorts; the other arguments
-- have at most the nodes of all
abbrev pub invariant-item_sorts-loop-argument : goal.invariant-item_sorts-loop-argument
invariant-item_sorts-loop-argument g l = record {
  counted :
      l.next + argument_reference_count (arguments_of (drop l.argument-index l.arguments))
      ≡ l.initial.next + argument_reference_count (arguments_of l.arguments);
  listed :
      l.items.items ++ item_sorts (g.E.SortEnv.sort_reading l.env) l.next (arguments_of (drop l.argument-index l.arguments))
      ≡ item_sorts (g.E.SortEnv.sort_reading l.env) l.initial.next (arguments_of l.arguments);
  left : argument_nodes (arguments_of (drop l.argument-index l.arguments)) ≤ argument_nodes (arguments_of l.arguments);
}

-- each call is of a smaller tree, or of arguments that are smaller than their tree
abbrev pub decreases-sort_from : goal.decreases-sort_from
decreases-sort_from g l = 2 * node_count l.tree.now

abbrev pub decreases-item_sorts : goal.decreases-item_sorts
decreases-item_sorts g l = 2 * argument_nodes (arguments_of l.arguments.now) + 1
