-- An argument has no more nodes than all arguments together.
use Rattle.std.proofs.Common.{ℕ, zero, suc, ◌<◌, ◌≤◌, List, [], ◌∷◌, length, get_or, arith}
use Rattle.expr_tree.specs.declared.expr.Argument.{Argument}
use Rattle.expr_tree.specs.declared.expr.Argument.TheVariants as argument
use Rattle.expr_tree.specs.NodesAsTrees.{arguments_of}
use Rattle.expr_tree.specs.Nodes.{node_count, argument_nodes}

-- the nodes of an argument; an area has none
abbrev pub nodes_of : Argument → ℕ
nodes_of (argument.Tree t) = node_count t
nodes_of (argument.Cells area) = 0

pub argument_nodes-at : (all : List Argument) (i : ℕ) (d : Argument) → i < length all → nodes_of (get_or all i d) ≤ argument_nodes (arguments_of all)
argument_nodes-at [] i d within = absurd (omega arith)
argument_nodes-at (argument.Tree t ∷ more) zero d within = omega arith
argument_nodes-at (argument.Cells area ∷ more) zero d within = omega arith
argument_nodes-at (argument.Tree t ∷ more) (suc i) d within = omega (arith, argument_nodes-at more i d (omega arith))
argument_nodes-at (argument.Cells area ∷ more) (suc i) d within = omega (arith, argument_nodes-at more i d (omega arith))
