use Rattle.std.proofs.Common.{arith}
use Rattle.quantities.specs.Arithmetic.{nearest}
use Rattle.quantities.proofs.amount.Amount.round.Goals as goal

pub overflow_mul-nearest : goal.overflow_mul-nearest
unfolding nearest
overflow_mul-nearest c = omega (arith, c.nearest.ensures, c.magnitude.ensures.bounded)
