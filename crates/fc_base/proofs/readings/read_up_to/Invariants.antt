use Rattle.std.proofs.Common.{◌≤◌, length}
use Rattle.std.specs.Io.KnownBytes.{Consumes}
use Rattle.fc_base.proofs.readings.read_up_to.Given as goal

-- what came is what the reader gave, and it is within the limit
abbrev pub invariant-loop : goal.invariant-loop
invariant-loop g l = record {
  consumed : Consumes (g.R.Read.remaining l.fn.reader) (g.R.Read.remaining l.reader) l.bytes.items;
  within : length l.bytes.items ≤ l.limit;
}
