use Rattle.std.proofs.Common.{None, arith, sym, ◌∙◌}
use Rattle.std.proofs.lemmas.Str.Pattern.{strip_prefix_char}
use Rattle.fcdoc_core.proofs.CuttingLemmas.{after_spaces-done}
use Rattle.fcdoc_core.proofs.cutting.after_spaces.Goals as goal

pub returns : goal.returns
returns c = sym (after_spaces-done c.loop-shorter.rest.now (strip_prefix_char 32 c.loop-shorter.rest.now None c.in_default.ensures.cases (omega arith))) ∙ c.loop-shorter.invariant.0
