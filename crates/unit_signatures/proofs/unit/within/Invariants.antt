use Rattle.std.proofs.Common.{◌≡◌, true, length, take}
use Rattle.std.specs.List.{list_all}
use Rattle.unit_signatures.specs.Units.{is_exponent}
use Rattle.unit_signatures.proofs.unit.within.Given as goal

abbrev pub invariant-loop-i : goal.invariant-loop-i
invariant-loop-i l =
    (length l.narrow ≡ 8) × (take l.i l.narrow ≡ take l.i l.exponents) × (list_all is_exponent (take l.i l.exponents) ≡ true)
