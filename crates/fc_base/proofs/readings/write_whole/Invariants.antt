use Rattle.std.proofs.Common.{◌≡◌, ℕ, List, ◌++◌}
use Rattle.std.specs.Io.KnownBytes.{Appends}
use Rattle.fc_base.proofs.readings.write_whole.Given as goal

-- the writer took what stands before the rest
abbrev pub invariant-loop : goal.invariant-loop
invariant-loop g l = (front : List ℕ) × (l.bytes ≡ front ++ l.rest) × Appends (g.W.Write.contents l.fn.writer) (g.W.Write.contents l.writer) front
