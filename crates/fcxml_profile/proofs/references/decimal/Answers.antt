use Rattle.std.specs.Char.{is_ascii_digit}
use Rattle.fcxml_profile.proofs.NumberLemmas.{numbered-read, numbered-none, decimal_digits}
use Rattle.fcxml_profile.proofs.references.decimal.Goals as goal

pub returns-in_err-number : goal.returns-in_err-number
returns-in_err-number c = rw c.from_residual.ensures (numbered-none is_ascii_digit 10 decimal_digits c.args.digits.now c.in_err-number.ensures)

pub returns : goal.returns
returns c = numbered-read is_ascii_digit 10 decimal_digits c.args.digits.now c.in_ok-number.field-0 c.xml_character.result c.in_ok-number.ensures c.xml_character.ensures
