use Rattle.std.proofs.Common.{◌≡◌, ◌+◌, ◌*◌, ◌≤◌, min, drop}
use Rattle.expr_tree.specs.Joined.{joined}
use Rattle.expr_tree.specs.NodesAsTrees.{arguments_of}
use Rattle.expr_tree.specs.Nodes.{node_count, argument_nodes}
use Rattle.expr_tree.specs.Numbered.{with_numbered_arguments}
use Rattle.expr_tree.specs.References.{argument_reference_count}
use Rattle.expr_tree.specs.Renaming.{numbers_end, renamed_path, renamed_area}
use Rattle.expr_tree.proofs.expr.Expr.+renamed.Given as goal

-- the arguments so far are behind the change, and the number is that of the next reference
abbrev pub invariant-renamed_arguments-loop-argument : goal.invariant-renamed_arguments-loop-argument
invariant-renamed_arguments-loop-argument l = record {
  arguments :
      with_numbered_arguments (renamed_path l.listed.pairs.now) (renamed_area l.listed.pairs.now) l.fn.number (arguments_of l.arguments)
      ≡ joined l.copies.items (with_numbered_arguments (renamed_path l.listed.pairs.now) (renamed_area l.listed.pairs.now) l.number (arguments_of (drop l.argument-index l.arguments)));
  counted :
      min (l.number + argument_reference_count (arguments_of (drop l.argument-index l.arguments))) (numbers_end l.listed.pairs.now)
      ≡ min (l.fn.number + argument_reference_count (arguments_of l.arguments)) (numbers_end l.listed.pairs.now);
  low : l.number ≤ numbers_end l.listed.pairs.now;
  left : argument_nodes (arguments_of (drop l.argument-index l.arguments)) ≤ argument_nodes (arguments_of l.arguments);
}

-- each call is of a smaller tree, or of parts that are smaller than their tree
abbrev pub decreases-renamed : goal.decreases-renamed
decreases-renamed l = 3 * node_count l.self.now

abbrev pub decreases-renamed_pair : goal.decreases-renamed_pair
decreases-renamed_pair l = 3 * (node_count l.a.now + node_count l.b.now) + 1

abbrev pub decreases-renamed_conditional : goal.decreases-renamed_conditional
decreases-renamed_conditional l = 3 * (node_count l.c.now + node_count l.a.now + node_count l.b.now) + 2

abbrev pub decreases-renamed_arguments : goal.decreases-renamed_arguments
decreases-renamed_arguments l = 3 * argument_nodes (arguments_of l.arguments.now) + 1
