use Rattle.std.proofs.Common.{◌≡◌, length, reverse}
use denote.Shadow.{shadow}
use denote.Text.{Utf8}
use Rattle.fcdoc_core.specs.Commands.{after_spaces}
use Rattle.fcdoc_core.proofs.cutting.before_spaces.Given as goal

abbrev pub invariant-loop-shorter : goal.invariant-loop-shorter
invariant-loop-shorter l = (reverse (after_spaces (reverse l.front)) ≡ reverse (after_spaces (reverse l.text))) × shadow (Utf8 l.front)

abbrev pub decreases-loop-shorter : goal.decreases-loop-shorter
decreases-loop-shorter l = length l.front
