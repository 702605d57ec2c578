use Rattle.std.proofs.Common.{arith}
use Rattle.quantities.proofs.TextLemmas.{nine_spelled}
use Rattle.quantities.proofs.amount.Amount.write_nine.Goals as goal

pub returns : goal.returns
returns c =
    nine_spelled c.args.self.now c.is_negative.result c.magnitude-magnitude.result _ _ _ c.is_negative.ensures
    c.magnitude-magnitude.ensures.value c.push_whole.ensures.text (c.push.ensures.ascii (omega arith)) c.push_nine_decimals.ensures
