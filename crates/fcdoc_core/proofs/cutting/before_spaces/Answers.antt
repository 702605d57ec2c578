use Rattle.std.proofs.Common.{None, arith, sym, ◌∙◌}
use Rattle.std.proofs.lemmas.Str.Pattern.{strip_suffix_char}
use Rattle.fcdoc_core.proofs.CuttingLemmas.{before_spaces-done}
use Rattle.fcdoc_core.proofs.cutting.before_spaces.Goals as goal

pub returns : goal.returns
returns c = sym (before_spaces-done c.loop-shorter.front.now (strip_suffix_char 32 c.loop-shorter.front.now None c.in_default.ensures.cases (omega arith))) ∙ c.loop-shorter.invariant.0
