use Rattle.std.proofs.Common.{◌≡◌, length, reverse}
use denote.Shadow.{shadow}
use denote.Text.{Utf8}
use Rattle.object_paths.specs.PathParts.{after_blanks}
use Rattle.object_paths.proofs.blanks.before_blanks.Given as goal

abbrev pub invariant-loop-shorter : goal.invariant-loop-shorter
invariant-loop-shorter l = (reverse (after_blanks (reverse l.front)) ≡ reverse (after_blanks (reverse l.text))) × shadow (Utf8 l.front)

abbrev pub decreases-loop-shorter : goal.decreases-loop-shorter
decreases-loop-shorter l = length l.front
