use Rattle.std.proofs.Common.{◌≡◌, Ok}
use Rattle.quantities.specs.Arithmetic.{repeated}
use Rattle.quantities.proofs.arithmetic.repeated.Given as goal

abbrev pub invariant-loop : goal.invariant-loop
invariant-loop l = repeated l.amount l.counter ≡ Ok l.power
