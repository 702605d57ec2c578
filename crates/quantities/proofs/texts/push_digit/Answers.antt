use Rattle.std.proofs.Common.{arith}
use Rattle.quantities.proofs.Digits.{ten_power_pos}
use Rattle.quantities.proofs.texts.push_digit.Goals as goal

pub nonzero_div-digit : goal.nonzero_div-digit
nonzero_div-digit c = omega (arith, ten_power_pos c.args.place)
