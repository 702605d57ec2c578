use Rattle.std.proofs.Common.{◌≡◌, [], ℕ, List, true, false, refl, sym, subst, arith}
use Rattle.std.proofs.lemmas.Grind.{common_steps}
use Rattle.fc_base.specs.Graph.{IsIn}
use Rattle.dependency_order.specs.Nodes.{inputs_of}
use Rattle.dependency_order.specs.Spreads.{IsSpreading}
use Rattle.dependency_order.proofs.ListLemmas.{IsIn-last}
use Rattle.dependency_order.proofs.SpreadLemmas.{spread_starts, spreads, no_way_back}
use Rattle.dependency_order.proofs.reaching.reaches_itself.Goals as goal

pub loop-from-init : goal.loop-from-init
loop-from-init c =
    rw (c.in_ok-spread.ensures.reached, c.in_ok-spread.ensures.pending) (spread_starts c.args.inputs.now c.args.node c.requires.node)

pub inputs_at-requires : goal.inputs_at-requires
inputs_at-requires c =
    c.loop-from.invariant.nodes c.in-Some.from (subst (λ (p : List ℕ). IsIn c.in-Some.from p) (sym c.in-Some.ensures.items) (IsIn-last _ c.in-Some.from))

pub reach_all-requires : goal.reach_all-requires
reach_all-requires c = λ n i.
    let j : IsIn n (inputs_of c.args.inputs.now c.in-Some.from) = subst (λ (p : List ℕ). IsIn n p) c.inputs_at.ensures i in
    omega (arith, c.requires.nodes.inside c.in-Some.from n j, c.loop-from.invariant.sized)

pub returns-then-branch : goal.returns-then-branch
returns-then-branch c =
    let back = rw c.if-branch.true at c.in_ok-reach_all.ensures in
    let here : IsIn c.in-Some.from c.loop-from.spread.pending.items = subst (λ (p : List ℕ). IsIn c.in-Some.from p) (sym c.in-Some.ensures.items) (IsIn-last _ c.in-Some.from) in (
      λ _. c.loop-from.invariant.from_start c.in-Some.from c.args.node here (subst (λ (p : List ℕ). IsIn c.args.node p) c.inputs_at.ensures back),
      λ _. refl,
    )

pub loop-from-preserved : goal.loop-from-preserved
loop-from-preserved c =
    let (away, taken) = rw (c.if-branch.false, c.inputs_at.ensures) at c.in_ok-reach_all.ensures in
    spreads c.args.inputs.now c.args.node c.loop-from.spread.reached.items _ c.in-Some.from _ _ c.requires.nodes
    (subst (λ (p : List ℕ). IsSpreading c.args.inputs.now c.args.node c.loop-from.spread.reached.items p) c.in-Some.ensures.items c.loop-from.invariant)
    taken away

pub returns : goal.returns
returns c =
    let empty : c.loop-from.spread.pending.items ≡ [] = grind (arith, common_steps) in (
      λ f. absurd (let e : false ≡ true = f in cc),
      λ r. absurd (no_way_back c.args.inputs.now c.args.node c.loop-from.spread.reached.items
          (subst (λ (p : List ℕ). IsSpreading c.args.inputs.now c.args.node c.loop-from.spread.reached.items p) empty c.loop-from.invariant) r),
    )
