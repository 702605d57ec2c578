use Rattle.std.proofs.Common.{ℕ, take, get_or, inl, inr, sym, subst, arith}
use Rattle.std.proofs.lemmas.List.{take_more}
use Rattle.fc_base.specs.Graph.{IsIn}
use Rattle.dependency_order.proofs.ListLemmas.{IsIn-at, IsIn-push}
use Rattle.dependency_order.proofs.SpreadLemmas.{takes_more}
use Rattle.dependency_order.proofs.reaching.Spread.reach_all.Goals as goal

pub returns-then-node-start : goal.returns-then-node-start
returns-then-node-start c =
    subst (λ (k : ℕ). IsIn k c.args.nodes.now) c.if-node-start.true (IsIn-at c.args.nodes.now c.loop-node.node-index 0 (omega arith))

pub reach-requires : goal.reach-requires
reach-requires c =
    omega (arith, c.requires _ (IsIn-at c.args.nodes.now c.loop-node.node-index 0 (omega arith)), c.loop-node.invariant.taken.sized)

pub loop-node-preserved : goal.loop-node-preserved
loop-node-preserved c =
    let xs = c.args.nodes.now in
    let i = c.loop-node.node-index in
    let before = c.loop-node.invariant in
    rw (take_more xs i 0 (omega arith))
    (record {
      away = λ j. elim (IsIn-push (take i xs) c.args.start (get_or xs i 0) j) [ inl k ↦ before.away k | inr e ↦ c.if-node-start.false (sym e) ];
      taken = takes_more (take i xs) (get_or xs i 0) _ _ _ _ _ _ before.taken c.in_ok-reach.ensures;
    })
