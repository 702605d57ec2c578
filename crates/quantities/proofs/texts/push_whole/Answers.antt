use Rattle.std.proofs.Common.{length, ap, arith}
use Rattle.quantities.proofs.TextLemmas.{length-sign, length-whole}
use Rattle.quantities.proofs.texts.push_whole.Goals as goal

pub push_str-requires : goal.push_str-requires
push_str-requires c =
    (omega arith, omega (arith, ap length c.push_sign.ensures, length-sign c.args.negative, ap length c.format.ensures.text, length-whole c.args.magnitude c.requires.bounded))

pub returns-clause-room : goal.returns-clause-room
returns-clause-room c =
    omega (arith, ap length c.push_sign.ensures, length-sign c.args.negative, ap length c.format.ensures.text, length-whole c.args.magnitude c.requires.bounded, c.push_str.ensures.len)
