use Rattle.std.proofs.Common.{ℕ, List, length, refl, inl, inr, sym, subst, arith}
use Rattle.std.proofs.lemmas.Bool.{cases_lt, cases_eq}
use Rattle.fc_base.specs.Graph.{IsIn}
use Rattle.dependency_order.specs.Nodes.{inputs_of}
use Rattle.dependency_order.proofs.NodeLemmas.{inputs_of_past}
use Rattle.worked_rows.proofs.orders.are_nodes.Goals as goal

pub loop-node-preserved : goal.loop-node-preserved
loop-node-preserved c = λ n d lt i.
    elim (cases_eq n c.loop-node.node) [
      | inl same ↦ c.if-not-all_below.ensures refl d
          (subst (λ (xs : List ℕ). IsIn d xs) (sym c.inputs_at.ensures) (subst (λ (k : ℕ). IsIn d (inputs_of c.args.inputs.now k)) same i))
      | inr ne ↦ c.loop-node.invariant n d (omega arith) i
    ]

pub returns : goal.returns
returns c = λ _. record {
  few = omega arith;
  inside = λ n d i. elim (cases_lt n (length c.args.inputs.now)) [
    | inl lt ↦ c.loop-node.invariant n d (omega arith) i
    | inr ge ↦ absurd (subst (λ (xs : List ℕ). IsIn d xs) (inputs_of_past c.args.inputs.now n ge) i)
  ];
}
