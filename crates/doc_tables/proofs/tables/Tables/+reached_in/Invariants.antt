use Rattle.std.proofs.Common.{◌≡◌, ◌+◌, ◌≤◌, drop, min}
use Rattle.expr_tree.specs.NodesAsTrees.{arguments_of}
use Rattle.expr_tree.specs.References.{argument_references}
use Rattle.doc_tables.specs.Counted.{reached_count}
use Rattle.doc_tables.proofs.tables.Tables.+reached_in.Given as goal

-- those so far and those of the other arguments
abbrev pub invariant-loop-argument : goal.invariant-loop-argument
invariant-loop-argument l =
    (l.count ≤ 18446744073709551615)
    × (min (l.count + reached_count l.self l.owner.0 (argument_references (arguments_of (drop l.argument-index l.argument-items)))) 18446744073709551615
    ≡ min (reached_count l.self l.owner.0 (argument_references (arguments_of l.argument-items))) 18446744073709551615)
