use Rattle.std.proofs.Common.{◌∙◌, rules, tests, take}
use Rattle.std.proofs.lemmas.Iterator.{YieldsList-from_slice, YieldsList-from_take}
use Rattle.std.proofs.lemmas.Iterator.Consumers.{count_from_yields_List}
use Rattle.std.proofs.lemmas.Iterator.Search.{YieldsList-from_take_while}
use Rattle.std.proofs.lemmas.List.Folds.{length-prefix_len}
use Rattle.std.specs.Char.{is_ascii_digit}
use Rattle.expr_tokens.proofs.DigitLemmas.{digits-longest}
use Rattle.expr_tokens.proofs.lexing.numeral.digit_count.Goals as goal

pub returns-clause-longest : goal.returns-clause-longest
returns-clause-longest c =
    count_from_yields_List c.take_while.result c.count.result c.count.ensures.ran
    (YieldsList-from_take_while _ is_ascii_digit (YieldsList-from_take c.args.most (YieldsList-from_slice c.args.text.now (cc)) (cc)) (cc) (cc) (λ x b q k. search (rules, tests)))
    ∙ length-prefix_len is_ascii_digit (take c.args.most c.args.text.now)
    ∙ digits-longest c.args.most c.args.text.now
