use Rattle.std.proofs.Common.{length, map, string_bytes}
use Rattle.fcdoc_core.proofs.ScriptLemmas.{ReadSoFar}
use Rattle.fcdoc_core.proofs.script.Script.read.Given as goal

abbrev pub invariant-loop-line : goal.invariant-loop-line
invariant-loop-line l = ReadSoFar l.bytes l.rest l.number (map string_bytes l.lines.items)

abbrev pub decreases-loop-line : goal.decreases-loop-line
decreases-loop-line l = length l.rest
