use Rattle.std.specs.Char.{is_ascii_hexdigit}
use Rattle.fcxml_profile.proofs.NumberLemmas.{numbered-read, numbered-none, hexadecimal_digits}
use Rattle.fcxml_profile.proofs.references.hexadecimal.Goals as goal

pub returns-in_err-number : goal.returns-in_err-number
returns-in_err-number c = rw c.from_residual.ensures (numbered-none is_ascii_hexdigit 16 hexadecimal_digits c.args.digits.now c.in_err-number.ensures)

pub returns : goal.returns
returns c = numbered-read is_ascii_hexdigit 16 hexadecimal_digits c.args.digits.now c.in_ok-number.field-0 c.xml_character.result c.in_ok-number.ensures c.xml_character.ensures
