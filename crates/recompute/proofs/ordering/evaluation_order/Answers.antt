use Rattle.std.proofs.Common.{◌≡◌, ◌<◌, ◌^◌, List, ℕ, map, length, sym, subst, arith, Global, false}
use Rattle.std.specs.Prelude.{Vec, Option, filter, slice_index_or}
use Rattle.doc_tables.specs.DependencyLists.{AreDependencyLists}
use Rattle.dependency_order.specs.Nodes.{IsOrderOf, OrdersAll}
use Rattle.recompute.specs.Order.{OrdersNumbers, TellsUse}
use Rattle.recompute.proofs.OrderLemmas.{lists-nodes, lists-acyclic, used-ordered}
use Rattle.recompute.proofs.ReadingLemmas.{on_ok}
use Rattle.recompute.proofs.ordering.evaluation_order.Goals as goal

pub in_order-requires : goal.in_order-requires
in_order-requires c =
    let listed = subst (λ (q : List (Vec ℕ Global)). AreDependencyLists c.args.tables.now (map (λ (v : Vec ℕ Global). v.items) q)) (sym c.deref.ensures.value) c.in_ok-lists.ensures in
    let few : length c.args.tables.now.slots < 2 ^ 32 = omega (arith, c.slot_limit-limit.ensures) in
    record { nodes = lists-nodes c.args.tables.now c.is_numbered.ensures c.deref.result.now listed few }

pub unreachable-requires : goal.unreachable-requires
unreachable-requires c =
    let listed = subst (λ (q : List (Vec ℕ Global)). AreDependencyLists c.args.tables.now (map (λ (v : Vec ℕ Global). v.items) q)) (sym c.deref.ensures.value) c.in_ok-lists.ensures in
    lists-acyclic c.args.tables.now c.is_numbered.ensures c.deref.result.now listed c.requires
    (subst (λ (o : Option (Vec ℕ Global)). IsOrderOf c.deref.result.now o) c.in-None.is (c.in_ok-order.ensures))

pub returns : goal.returns
returns c =
    let listed = subst (λ (q : List (Vec ℕ Global)). AreDependencyLists c.args.tables.now (map (λ (v : Vec ℕ Global). v.items) q)) (sym c.deref.ensures.value) c.in_ok-lists.ensures in
    let ordered : OrdersAll c.deref.result.now c.in-Some.order.items = subst (λ (o : Option (Vec ℕ Global)). IsOrderOf c.deref.result.now o) c.in-Some.is (c.in_ok-order.ensures) in
    on_ok (λ (v : Vec ℕ Global). v.items ≡ filter (λ n. slice_index_or c.deref-in-Some-2.result.now n false) c.deref-in-Some.result.now)
    (λ (v : Vec ℕ Global). OrdersNumbers c.args.tables.now v.items) c.only_marked.result
    (λ v e. subst (OrdersNumbers c.args.tables.now) (sym e)
    (used-ordered c.args.tables.now c.is_numbered.ensures c.deref.result.now listed c.deref-in-Some-2.result.now c.deref-in-Some.result.now
    (subst (TellsUse c.args.tables.now) (sym c.deref-in-Some-2.ensures.value) c.in_ok-used.ensures)
    (subst (OrdersAll c.deref.result.now) (sym c.deref-in-Some.ensures.value) ordered)))
    c.only_marked.ensures
