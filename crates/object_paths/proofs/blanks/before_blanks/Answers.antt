use Rattle.std.proofs.Common.{sym, ◌∙◌}
use Rattle.object_paths.proofs.BlankLemmas.{before_blanks-done}
use Rattle.object_paths.proofs.blanks.before_blanks.Goals as goal

pub returns-in-None : goal.returns-in-None
returns-in-None c = sym (before_blanks-done c.loop-shorter.front.now c.in-None.ensures) ∙ c.loop-shorter.invariant.0
