use Rattle.std.proofs.Common.{◌≡◌, ◌++◌, map, drop}
use Rattle.expr_tree.specs.NodesAsTrees.{arguments_of}
use Rattle.expr_tree.specs.ListedReferences.{reference_of}
use Rattle.expr_tree.specs.References.{argument_references}
use Rattle.expr_tree.proofs.reference.+push_references.Given as goal

-- the references so far and those of the other arguments
abbrev pub invariant-loop-argument : goal.invariant-loop-argument
invariant-loop-argument l =
    map reference_of l.out.items ++ argument_references (arguments_of (drop l.argument-index l.argument-items))
    ≡ map reference_of l.fn.out.items ++ argument_references (arguments_of l.argument-items)
