use Rattle.std.proofs.Common.{◌≡◌, ◌≤◌, true, take}
use Rattle.std.specs.Str.{all_ascii_digits}
use Rattle.std.specs.Str.Parse.{digits_value}
use Rattle.fc_base.proofs.address.read_row.Given as goal

abbrev pub invariant-loop-digit : goal.invariant-loop-digit
invariant-loop-digit l =
    (l.row ≡ digits_value 10 (take l.digit-index l.text)) × (all_ascii_digits (take l.digit-index l.text) ≡ true) × (l.row ≤ 16384)
