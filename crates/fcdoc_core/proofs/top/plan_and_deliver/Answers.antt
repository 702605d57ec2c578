use Rattle.std.proofs.Common.{Err, subst}
use Rattle.fcdoc_core.specs.declared.plan.Plan.{Plan}
use Rattle.fcdoc_core.specs.declared.stop.Stop.{Stop}
use Rattle.fcdoc_core.specs.Plans.{CountsStop}
use Rattle.fcdoc_core.proofs.HeadlineLemmas.{ends-written, ends-sink, ends-memory, ends-fetch, ends-planless}
use Rattle.fcdoc_core.proofs.top.plan_and_deliver.Goals as goal

pub returns-in-Ok-deliver-clause-ends : goal.returns-in-Ok-deliver-clause-ends
returns-in-Ok-deliver-clause-ends g c =
    ends-written _ _ _ _ _ _ _ _ _ c.in-Ok.ensures.holds c.in-Ok.plan c.in-Ok-deliver.status c.in-Ok.ensures.means c.in-Ok-deliver.ensures.ended c.in-Ok.ensures.count c.in-Ok-deliver.ensures.spoken

pub returns-in-Err-Store-clause-ends : goal.returns-in-Err-Store-clause-ends
returns-in-Err-Store-clause-ends g c =
    ends-fetch _ _ _ _ _ _ _ c.in-Err-Store.ensures.holds
    (subst (λ (s : Stop). CountsStop {X = Plan} (Err s) (g.S.Store.faults c.args.store.now) (g.S.Store.faults c.plan_of_words.new.store)) c.in-Err-Store.field-0-is c.in-Err-Store.ensures.count)

pub returns-in-Err-Memory-clause-ends : goal.returns-in-Err-Memory-clause-ends
returns-in-Err-Memory-clause-ends g c =
    ends-planless _ _ _ _ _ _ _ c.in-Err-Memory.ensures.holds
    (subst (λ (s : Stop). CountsStop {X = Plan} (Err s) (g.S.Store.faults c.args.store.now) (g.S.Store.faults c.plan_of_words.new.store)) c.in-Err-Memory.field-0-is c.in-Err-Memory.ensures.count)
