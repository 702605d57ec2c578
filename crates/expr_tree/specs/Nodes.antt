-- The nodes of a tree.
use Rattle.std.specs.Prelude.{ℕ, ◌+◌}
use Rattle.expr_tree.specs.Tree.{Tree, literal, unit_one, flag, text, path, negate, binary, power, compare, conditional, function, modulo, aggregate, Arguments, no_more, tree, cells}

-- how many nodes a tree has, and its arguments have together; an area is no node
abbrev mutual
  pub node_count : Tree → ℕ
  node_count (literal x u) = 1
  node_count (unit_one u) = 1
  node_count (flag b) = 1
  node_count (text t) = 1
  node_count (path p) = 1
  node_count (negate a) = node_count a + 1
  node_count (binary op a b) = node_count a + node_count b + 1
  node_count (power a n) = node_count a + 1
  node_count (compare op a b) = node_count a + node_count b + 1
  node_count (conditional c a b) = node_count c + node_count a + node_count b + 1
  node_count (function op a) = node_count a + 1
  node_count (modulo a b) = node_count a + node_count b + 1
  node_count (aggregate op all) = argument_nodes all + 1

  pub argument_nodes : Arguments → ℕ
  argument_nodes no_more = 0
  argument_nodes (tree t more) = node_count t + argument_nodes more
  argument_nodes (cells area more) = argument_nodes more
