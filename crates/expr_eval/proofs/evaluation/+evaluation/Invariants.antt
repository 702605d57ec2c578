use Rattle.std.proofs.Common.{◌≡◌, ◌+◌, ◌*◌, ◌≤◌, ◌++◌, drop, min}
use Rattle.expr_tree.specs.Nodes.{node_count, argument_nodes}
use Rattle.expr_tree.specs.References.{argument_reference_count}
use Rattle.expr_tree.specs.NodesAsTrees.{arguments_of}
use Rattle.property_types.specs.declared.value.ValueFault.TheVariants.{OutOfType}
use Rattle.expr_eval.specs.Outcomes.{items_by}
use Rattle.expr_eval.specs.Visited.{visited_arguments}
use Rattle.expr_eval.proofs.evaluation.+evaluation.Given as goal

-- the references so far and those of the other arguments are those of all, and likewise the items;
-- the steps so far and the visits of the other arguments are the steps before and all visits; those so
-- far and the nodes of the other arguments are at most the steps before and all nodes
abbrev pub invariant-item_numbers-loop-argument : goal.invariant-item_numbers-loop-argument
invariant-item_numbers-loop-argument g l = record {
  counted :
      l.next + argument_reference_count (arguments_of (drop l.argument-index l.arguments))
      ≡ l.initial.next + argument_reference_count (arguments_of l.arguments);
  listed :
      l.items.items ++ items_by OutOfType (g.E.OutcomeEnv.reading l.env) l.next (arguments_of (drop l.argument-index l.arguments))
      ≡ items_by OutOfType (g.E.OutcomeEnv.reading l.env) l.initial.next (arguments_of l.arguments);
  stepped :
      min (l.steps + visited_arguments (g.E.OutcomeEnv.reading l.env) l.next (arguments_of (drop l.argument-index l.arguments))) 18446744073709551615
      ≡ min (l.initial.steps + visited_arguments (g.E.OutcomeEnv.reading l.env) l.initial.next (arguments_of l.arguments)) 18446744073709551615;
  at_least : l.initial.steps ≤ l.steps;
  at_most :
      l.steps + argument_nodes (arguments_of (drop l.argument-index l.arguments))
      ≤ l.initial.steps + argument_nodes (arguments_of l.arguments);
  small : l.steps ≤ 18446744073709551615;
  left : argument_nodes (arguments_of (drop l.argument-index l.arguments)) ≤ argument_nodes (arguments_of l.arguments);
}

-- each call is of a smaller tree, or of arguments that are smaller than their tree
abbrev pub decreases-evaluate_from : goal.decreases-evaluate_from
decreases-evaluate_from g l = 3 * node_count l.tree.now

abbrev pub decreases-item_numbers : goal.decreases-item_numbers
decreases-item_numbers g l = 3 * argument_nodes (arguments_of l.arguments.now) + 2

abbrev pub decreases-number : goal.decreases-number
decreases-number g l = 3 * node_count l.tree.now + 1
