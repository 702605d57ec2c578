use Rattle.std.proofs.Common.{sym, arith}
use Rattle.quantities.proofs.Nearest.{nearest-down, nearest-up}
use Rattle.quantities.proofs.arithmetic.nearest.Goals as goal

pub returns-then-rest-divisor : goal.returns-then-rest-divisor
returns-then-rest-divisor c = sym (nearest-down c.args.dividend c.args.divisor (omega arith))

pub returns-else-rest-divisor : goal.returns-else-rest-divisor
returns-else-rest-divisor c = sym (nearest-up c.args.dividend c.args.divisor c.requires.divides (omega arith))
