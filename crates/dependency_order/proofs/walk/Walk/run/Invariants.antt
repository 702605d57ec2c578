use Rattle.dependency_order.specs.Nodes.{inputs_of}
use Rattle.dependency_order.specs.Walks.{IsUnderWay, NoneIsRenewed, steps_left}
use Rattle.dependency_order.proofs.walk.Walk.run.Given as goal

abbrev pub invariant-loop-frame : goal.invariant-loop-frame
invariant-loop-frame l = record {
  under_way : IsUnderWay l.inputs l.self.marks.items l.self.path.items l.self.order.items;
  started : NoneIsRenewed l.initial.self.marks.items l.self.marks.items;
}

abbrev pub decreases-loop-frame : goal.decreases-loop-frame
decreases-loop-frame l = steps_left (inputs_of l.inputs) l.self.marks.items l.self.path.items
