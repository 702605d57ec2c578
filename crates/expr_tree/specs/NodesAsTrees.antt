-- The tree that a node of the code stands for, with its parts as trees.
use Rattle.std.specs.Prelude.{List, [], ◌∷◌}
use Rattle.expr_tree.specs.declared.expr.Node.{Node}
use Rattle.expr_tree.specs.declared.expr.Node.TheVariants as node
use Rattle.expr_tree.specs.declared.expr.Argument.{Argument}
use Rattle.expr_tree.specs.declared.expr.Argument.TheVariants as argument
use Rattle.expr_tree.specs.Tree.{Tree, literal, unit_one, flag, text, path, negate, binary, power, compare, conditional, function, modulo, aggregate, Arguments, no_more, tree, cells}

-- the list of arguments
abbrev pub arguments_of : List Argument → Arguments
arguments_of [] = no_more
arguments_of (argument.Tree t ∷ more) = tree t (arguments_of more)
arguments_of (argument.Cells area ∷ more) = cells area (arguments_of more)

-- one level; a part is its tree
abbrev pub tree_of_node : Node → Tree
tree_of_node (node.Literal x u) = literal x u
tree_of_node (node.UnitOne u) = unit_one u
tree_of_node (node.Flag b) = flag b
tree_of_node (node.Text t) = text t
tree_of_node (node.Path p) = path p
tree_of_node (node.Negate a) = negate a.value
tree_of_node (node.Binary op a b) = binary op a.value b.value
tree_of_node (node.Power a n) = power a.value n
tree_of_node (node.Compare op a b) = compare op a.value b.value
tree_of_node (node.Conditional c a b) = conditional c.value a.value b.value
tree_of_node (node.Function op a) = function op a.value
tree_of_node (node.Modulo a b) = modulo a.value b.value
tree_of_node (node.Aggregate op all) = aggregate op (arguments_of all.items)
