use Rattle.std.proofs.Common.{◌≡◌, ◌^◌, ◌<◌, drop}
use Rattle.quantities.specs.Digits.{number_after}
use Rattle.quantities.proofs.texts.number_of_digits.Given as goal

abbrev pub invariant-loop-byte : goal.invariant-loop-byte
invariant-loop-byte l =
    (number_after l.number (drop l.byte-index l.text) ≡ number_after 0 l.text) × (l.number < 10 ^ l.byte-index)
