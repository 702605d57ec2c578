use Rattle.std.proofs.Common.{◌≡◌, ◌≤◌, get_or, ap, sym, ◌∙◌, List, arith}
use Rattle.expr_tree.specs.NodesAsTrees.{arguments_of}
use Rattle.expr_tree.specs.Nodes.{node_count, argument_nodes}
use Rattle.expr_tree.specs.declared.expr.Argument.{Argument}
use Rattle.expr_tree.proofs.ArgumentNodes.{nodes_of, argument_nodes-at}
use Rattle.expr_grammar.proofs.printing.+printing.Goals as goal

pub push_arguments-push_tree-requires : goal.push_arguments-push_tree-requires
push_arguments-push_tree-requires t c =
    let all : List Argument = c.args.all.now in
    let few : nodes_of (get_or all c.loop-argument.argument-index c.argument-item.result) ≤ argument_nodes (arguments_of all) =
    argument_nodes-at all c.loop-argument.argument-index c.argument-item.result c.loop-argument-test.true in
    let own : nodes_of (get_or all c.loop-argument.argument-index c.argument-item.result) ≡ node_count c.in-Tree.tree =
    ap nodes_of (sym c.argument-item.is ∙ c.in-Tree.is) in
    (omega arith, tt)
