use Rattle.std.proofs.Common.{◌≡◌, ◌+◌, ◌≤◌, drop, min}
use Rattle.expr_tree.specs.References.{argument_reference_count}
use Rattle.expr_tree.specs.NodesAsTrees.{arguments_of}
use Rattle.expr_tree.proofs.reference.+reference_count.Given as goal

-- the count so far and the references of the other arguments, up to the greatest count
abbrev pub invariant-loop-argument : goal.invariant-loop-argument
invariant-loop-argument l = record {
  counted :
      min (l.count + argument_reference_count (arguments_of (drop l.argument-index l.argument-items))) 4294967295
      ≡ min (argument_reference_count (arguments_of l.argument-items)) 4294967295;
  small : l.count ≤ 4294967295;
}
