use Rattle.std.proofs.Common.{◌≡◌, ◌+◌, ◌*◌, [], ◌++◌, drop, cond, string_bytes}
use Rattle.expr_tree.specs.NodesAsTrees.{arguments_of}
use Rattle.expr_tree.specs.Nodes.{node_count, argument_nodes}
use Rattle.expr_grammar.specs.Printed.{separator_text, printed_arguments}
use Rattle.expr_grammar.proofs.printing.+printing.Given as goal

-- thrice the nodes, and more for what calls the writer of the same tree
abbrev pub decreases-push_tree : goal.decreases-push_tree
decreases-push_tree l = 3 * node_count l.tree.now

abbrev pub decreases-push_in_place : goal.decreases-push_in_place
decreases-push_in_place l = 3 * node_count l.tree.now + 1

abbrev pub decreases-push_function : goal.decreases-push_function
decreases-push_function l = 3 * node_count l.operand.now + 2

abbrev pub decreases-push_modulo : goal.decreases-push_modulo
decreases-push_modulo l = 3 * (node_count l.left.now + node_count l.right.now) + 1

abbrev pub decreases-push_conditional : goal.decreases-push_conditional
decreases-push_conditional l = 3 * (node_count l.condition.now + node_count l.chosen.now + node_count l.other.now) + 2

abbrev pub decreases-push_binary : goal.decreases-push_binary
decreases-push_binary l = 3 * (node_count l.left.now + node_count l.right.now) + 2

abbrev pub decreases-push_comparison : goal.decreases-push_comparison
decreases-push_comparison l = 3 * (node_count l.left.now + node_count l.right.now) + 2

abbrev pub decreases-push_arguments : goal.decreases-push_arguments
decreases-push_arguments l = 3 * argument_nodes (arguments_of l.all.now) + 1

-- what is written and the other arguments are the whole
abbrev pub invariant-push_arguments-loop-argument : goal.invariant-push_arguments-loop-argument
invariant-push_arguments-loop-argument l =
    string_bytes l.out
    ++ (cond l.first [] (separator_text (arguments_of (drop l.argument-index l.all))) ++ printed_arguments (arguments_of (drop l.argument-index l.all)))
    ≡ string_bytes l.initial.out ++ printed_arguments (arguments_of l.all)
