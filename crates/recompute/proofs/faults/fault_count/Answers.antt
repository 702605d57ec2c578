use Rattle.std.proofs.Common.{◌∙◌, ap, List}
use Rattle.std.specs.Prelude.{count_by}
use Rattle.std.specs.Result.{is_err}
use Rattle.fc_base.specs.declared.ids.SlotId.{SlotId}
use Rattle.recompute.specs.Kept.{kept_at}
use Rattle.recompute.proofs.FullLemmas.{faults-listed}
use Rattle.recompute.proofs.faults.fault_count.Goals as goal

pub returns : goal.returns
returns c =
    c.faults_among.ensures ∙ ap (λ (ids : List SlotId). count_by (λ (id : SlotId). is_err (kept_at c.args.outcomes.now id.0)) ids) c.deref.ensures.value
    ∙ faults-listed c.args.tables.now c.is_numbered.ensures c.args.outcomes.now c.in_ok-slots.slots.items c.in_ok-slots.ensures
