use Rattle.std.proofs.Common.{sym, ◌∙◌}
use Rattle.object_paths.proofs.BlankLemmas.{after_blanks-done}
use Rattle.object_paths.proofs.blanks.after_blanks.Goals as goal

pub returns-in-None : goal.returns-in-None
returns-in-None c = sym (after_blanks-done c.loop-shorter.rest.now c.in-None.ensures) ∙ c.loop-shorter.invariant.0
