use Rattle.std.proofs.Common.{◌≡◌, take}
use Rattle.property_types.proofs.plan.copy_inputs.Given as goal

-- the inputs before the index are copied
abbrev pub invariant-loop-input : goal.invariant-loop-input
invariant-loop-input l = l.copies.items ≡ take l.input-index l.inputs
