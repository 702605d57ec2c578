use Rattle.std.proofs.Common.{◌≡◌, length}
use denote.Shadow.{shadow}
use denote.Text.{Utf8}
use Rattle.object_paths.specs.PathParts.{after_blanks}
use Rattle.object_paths.proofs.blanks.after_blanks.Given as goal

abbrev pub invariant-loop-shorter : goal.invariant-loop-shorter
invariant-loop-shorter l = (after_blanks l.rest ≡ after_blanks l.text) × shadow (Utf8 l.rest)

abbrev pub decreases-loop-shorter : goal.decreases-loop-shorter
decreases-loop-shorter l = length l.rest
