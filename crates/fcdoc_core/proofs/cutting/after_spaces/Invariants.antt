use Rattle.std.proofs.Common.{◌≡◌, length}
use denote.Shadow.{shadow}
use denote.Text.{Utf8}
use Rattle.fcdoc_core.specs.Commands.{after_spaces}
use Rattle.fcdoc_core.proofs.cutting.after_spaces.Given as goal

abbrev pub invariant-loop-shorter : goal.invariant-loop-shorter
invariant-loop-shorter l = (after_spaces l.rest ≡ after_spaces l.text) × shadow (Utf8 l.rest)

abbrev pub decreases-loop-shorter : goal.decreases-loop-shorter
decreases-loop-shorter l = length l.rest
