use Rattle.std.proofs.Common.{List, Bool, ℕ, ◌<◌, sym, subst}
use Rattle.std.specs.Prelude.{Vec}
use Rattle.fc_base.specs.declared.ids.SlotId.{SlotId}
use Rattle.fc_base.specs.Graph.{IsIn}
use Rattle.recompute.specs.Order.{MarksAll, TellsUse}
use Rattle.recompute.proofs.OrderLemmas.{listed-below, marks-tell}
use Rattle.recompute.proofs.ReadingLemmas.{on_ok}
use Rattle.recompute.proofs.ordering.used_numbers.Goals as goal

pub marked-requires : goal.marked-requires
marked-requires c = λ id i.
    subst (λ (k : ℕ). id.0 < k) (sym c.slot_limit.ensures)
    (listed-below c.args.tables.now c.is_numbered.ensures c.in_ok-slots.slots.items c.in_ok-slots.ensures id (subst (λ (q : List SlotId). IsIn id q) c.deref.ensures.value i))

pub returns : goal.returns
returns c =
    on_ok (λ (v : Vec Bool _). MarksAll c.deref.result.now v.items) (λ (v : Vec Bool _). TellsUse c.args.tables.now v.items) c.marked.result
    (λ v marked. marks-tell c.args.tables.now c.is_numbered.ensures c.in_ok-slots.slots.items v.items c.in_ok-slots.ensures
    (subst (λ (q : List SlotId). MarksAll q v.items) c.deref.ensures.value marked))
    c.marked.ensures
