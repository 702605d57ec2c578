use Rattle.std.proofs.Common.{◌≡◌, ℕ, ◌<◌, []}
use Rattle.dependency_order.specs.declared.walk.Mark.TheVariants.{Done}
use Rattle.dependency_order.specs.Walks.{IsUnderWay, mark_of}
use Rattle.dependency_order.proofs.ordering.in_order.Given as goal

-- all before this node are done
abbrev pub invariant-loop-node : goal.invariant-loop-node
invariant-loop-node l = record {
  under_way : IsUnderWay l.inputs l.walk.marks.items l.walk.path.items l.walk.order.items;
  empty : l.walk.path.items ≡ [];
  done : (n : ℕ) → n < l.node → mark_of l.walk.marks.items n ≡ Done;
}
