use Rattle.std.proofs.Common.{arith}
use Rattle.quantities.specs.Texts.{whole_text}
use Rattle.quantities.proofs.TextLemmas.{fraction_spelled, decimal_text-whole}
use Rattle.quantities.proofs.amount.Amount.write_decimal.Goals as goal

pub returns-then-magnitude-ne0 : goal.returns-then-magnitude-ne0
returns-then-magnitude-ne0 c =
    fraction_spelled c.args.self.now c.is_negative.result c.magnitude-magnitude.result _ _ _ c.is_negative.ensures
    c.magnitude-magnitude.ensures.value c.push_whole.ensures.text (c.push.ensures.ascii (omega arith)) c.if-magnitude-ne0.true c.push_needed_decimals.ensures

pub returns-else-magnitude-ne0 : goal.returns-else-magnitude-ne0
unfolding whole_text
returns-else-magnitude-ne0 c =
    let parts = decimal_text-whole c.args.self.now (cc) in cc
