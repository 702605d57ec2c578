use Rattle.std.proofs.Common.{ℕ, List, ◌++◌, ◌∙◌, codes, subst}
use Rattle.std.proofs.lemmas.Result.{err_from_is_err_and}
use Rattle.fcdoc_core.specs.declared.status.Status.TheVariants.{Missing}
use Rattle.fcdoc_core.specs.Plans.{Speaks}
use Rattle.fcdoc_core.specs.Top.{one_piece}
use Rattle.fcdoc_core.proofs.RepliesLemmas.{nothing-spoken}
use Rattle.fcdoc_core.proofs.delivery.say_missing.Goals as goal

pub returns-in_err-text : goal.returns-in_err-text
returns-in_err-text g c =
    let p = err_from_is_err_and c.from_residual.result c.from_residual.ensures.1 in
    rw (p.1, p.2) (nothing-spoken Missing (codes "missing " ++ (c.args.name.now ++ codes "\n")) (g.K.Sink.written c.args.out.now) (g.K.Sink.faults c.args.out.now))

pub returns : goal.returns
returns g c =
    subst (λ (t : List ℕ). Speaks (one_piece Missing t) c.say_line.result (g.K.Sink.written c.args.out.now) (g.K.Sink.written c.say_line.new.out) (g.K.Sink.faults c.args.out.now) (g.K.Sink.faults c.say_line.new.out))
    (c.as_bytes.ensures.value ∙ c.in_ok-text.ensures.ok) c.say_line.ensures
