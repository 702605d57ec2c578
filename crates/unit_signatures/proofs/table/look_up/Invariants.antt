use Rattle.std.proofs.Common.{◌≡◌, drop, map}
use Rattle.unit_signatures.specs.Rows.{row_of}
use Rattle.unit_signatures.specs.Table.{look_up}
use Rattle.unit_signatures.proofs.table.look_up.Given as goal

-- what the rows that are left give is what all give
abbrev pub invariant-loop-named : goal.invariant-loop-named
invariant-loop-named l = look_up l.name (map row_of (drop l.named-index l.units)) ≡ look_up l.name (map row_of l.units)
