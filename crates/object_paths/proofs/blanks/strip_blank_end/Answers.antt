use Rattle.std.proofs.Common.{None, arith}
use Rattle.std.proofs.lemmas.Str.Pattern.{strip_suffix_char}
use Rattle.object_paths.proofs.BlankLemmas.{end_or_tab}
use Rattle.object_paths.proofs.blanks.strip_blank_end.Goals as goal

pub returns-in-None : goal.returns-in-None
returns-in-None c =
    end_or_tab c.args.text.now c.strip_suffix-in-None.result
    (strip_suffix_char 32 c.args.text.now None c.in-None.ensures.cases (omega arith))
    (strip_suffix_char 9 c.args.text.now c.strip_suffix-in-None.result c.strip_suffix-in-None.ensures.cases (omega arith))
