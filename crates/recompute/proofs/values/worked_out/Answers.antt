use Rattle.std.proofs.Common.{◌≡◌, ◌++◌, length, take, drop, sym, subst, arith}
use Rattle.std.proofs.lemmas.Grind.{common_steps}
use Rattle.document_outcomes.specs.Typed.{no_features}
use Rattle.recompute.specs.Kept.{AreFull}
use Rattle.recompute.specs.Order.{OrdersNumbers}
use Rattle.recompute.proofs.CountLemmas.{nodes-le, evaluated-all}
use Rattle.recompute.proofs.values.worked_out.Goals as goal

pub returns-in_err-work_out-clause-at_most : goal.returns-in_err-work_out-clause-at_most
returns-in_err-work_out-clause-at_most g c =
    let most = c.work_out.ensures.at_most in
    let ordered : OrdersNumbers c.args.tables.now c.deref.result.now = subst (OrdersNumbers c.args.tables.now) (sym c.deref.ensures.value) c.in_ok-order.ensures in
    let nodes = nodes-le c.args.tables.now c.is_numbered.ensures c.deref.result.now ordered in
    omega arith

pub returns-clause-at_most : goal.returns-clause-at_most
returns-clause-at_most g c =
    let most = c.work_out.ensures.at_most in
    let ordered : OrdersNumbers c.args.tables.now c.deref.result.now = subst (OrdersNumbers c.args.tables.now) (sym c.deref.ensures.value) c.in_ok-order.ensures in
    let nodes = nodes-le c.args.tables.now c.is_numbered.ensures c.deref.result.now ordered in
    omega arith

pub returns-clause-evaluated : goal.returns-clause-evaluated
returns-clause-evaluated g c = λ before.
    let ordered : OrdersNumbers c.args.tables.now c.deref.result.now = subst (OrdersNumbers c.args.tables.now) (sym c.deref.ensures.value) c.in_ok-order.ensures in
    evaluated-all c.args.tables.now c.is_numbered.ensures c.deref.result.now ordered no_features c.has_distinct_slots.ensures before _ _
    c.in_ok-work_out.ensures.steps

pub returns-clause-outcomes : goal.returns-clause-outcomes
returns-clause-outcomes g c =
    let back : take c.in_ok-outcomes.outcomes.len (c.work_out.new.outcomes ++ drop (length c.work_out.new.outcomes) c.in_ok-outcomes.outcomes.items) ≡ c.work_out.new.outcomes = grind (arith, common_steps) in
    subst (AreFull no_features c.args.tables.now) (sym back) c.in_ok-work_out.ensures.outcomes
