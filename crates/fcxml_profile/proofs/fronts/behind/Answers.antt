use Rattle.std.proofs.Common.{sym, ap, ◌∙◌, ◌++◌}
use Rattle.fcxml_profile.proofs.FrontLemmas.{behind-first, behind-none}
use Rattle.fcxml_profile.proofs.fronts.behind.Goals as goal

pub returns-in-Some : goal.returns-in-Some
returns-in-Some c =
    let found = c.in-Some.ensures.cases in
    sym (behind-first c.args.literal.now c.args.text.now c.in-Some.rest.now found.0 found.2.0 (found.2.1.split ∙ ap (λ t. c.args.literal.now ++ t) (sym found.4)))

pub returns-in-None : goal.returns-in-None
returns-in-None c = sym (behind-none c.args.literal.now c.args.text.now c.in-None.ensures.cases)
