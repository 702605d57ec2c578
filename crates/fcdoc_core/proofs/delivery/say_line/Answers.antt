use Rattle.std.proofs.lemmas.Result.{err_from_is_err_and}
use Rattle.fcdoc_core.proofs.RepliesLemmas.{one-spoken, one-stopped}
use Rattle.fcdoc_core.proofs.delivery.say_line.Goals as goal

pub returns-in_err-say : goal.returns-in_err-say
returns-in_err-say g c =
    let p = err_from_is_err_and c.from_residual.result c.from_residual.ensures.1 in
    rw (p.1, p.2) (one-stopped {X = Unit {0}} c.args.status c.args.text.now (λ _. Unit {0}) c.in_err-say.field-0.0 _ _ _ _ c.in_err-say.ensures)

pub returns : goal.returns
returns g c = one-spoken {X = Unit {0}} c.args.status c.args.text.now (λ _. Unit {0}) tt _ _ _ _ c.in_ok-say.ensures
