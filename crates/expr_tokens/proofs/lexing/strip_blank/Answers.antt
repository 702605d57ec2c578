use Rattle.std.proofs.Common.{None, arith}
use Rattle.std.proofs.lemmas.Str.Pattern.{strip_prefix_char}
use Rattle.object_paths.proofs.BlankLemmas.{front_or_tab}
use Rattle.expr_tokens.proofs.lexing.strip_blank.Goals as goal

pub returns-in-None : goal.returns-in-None
returns-in-None c =
    front_or_tab c.args.text.now c.strip_prefix-in-None.result
    (strip_prefix_char 32 c.args.text.now None c.in-None.ensures.cases (omega arith))
    (strip_prefix_char 9 c.args.text.now c.strip_prefix-in-None.result c.strip_prefix-in-None.ensures.cases (omega arith))
