use Rattle.std.proofs.Common.{◌≡◌, take}
use Rattle.property_types.proofs.plan.copy_outputs.Given as goal

-- the outputs before the index are copied
abbrev pub invariant-loop-output : goal.invariant-loop-output
invariant-loop-output l = l.copies.items ≡ take l.output-index l.outputs
