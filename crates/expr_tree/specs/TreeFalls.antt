-- Each part of a tree has fewer nodes than the tree.
use Rattle.std.specs.Prelude.{◌+◌, ◌≤◌, max, List, [], ◌∷◌}
use Rattle.std.proofs.Common.{arith}
use denote.Param.Weighed.{most}
use Rattle.expr_tree.specs.declared.expr.Node.{Node}
use Rattle.expr_tree.specs.declared.expr.Node.TheVariants as node
use Rattle.expr_tree.specs.declared.expr.Argument.{Argument}
use Rattle.expr_tree.specs.declared.expr.Argument.TheVariants as argument
use Rattle.expr_tree.specs.declared.expr.Expr.TheDeep.{deep-Node, deep-Argument}
use Rattle.expr_tree.specs.Nodes.{node_count, argument_nodes}
use Rattle.expr_tree.specs.NodesAsTrees.{tree_of_node, arguments_of}

-- no argument has more nodes than all of them together
pub most_le-argument_nodes : (all : List Argument) → most deep-Argument all ≤ argument_nodes (arguments_of all) + 1
most_le-argument_nodes [] = omega arith
most_le-argument_nodes (argument.Tree t ∷ more) = omega (arith, most_le-argument_nodes more)
most_le-argument_nodes (argument.Cells area ∷ more) = omega (arith, most_le-argument_nodes more)

-- no part is deeper than the node has nodes
pub falls : (n : Node) → max (deep-Node n) 0 ≤ node_count (tree_of_node n)
falls (node.Literal x u) = omega arith
falls (node.UnitOne u) = omega arith
falls (node.Flag b) = omega arith
falls (node.Text t) = omega arith
falls (node.Path p) = omega arith
falls (node.Negate a) = omega arith
falls (node.Binary op a b) = omega arith
falls (node.Power a n) = omega arith
falls (node.Compare op a b) = omega arith
falls (node.Conditional c a b) = omega arith
falls (node.Function op a) = omega arith
falls (node.Modulo a b) = omega arith
falls (node.Aggregate op all) = omega (arith, most_le-argument_nodes all.items)
