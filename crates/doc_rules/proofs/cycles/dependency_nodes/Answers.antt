use Rattle.std.proofs.Common.{◌<◌, ◌^◌, length, arith}
use Rattle.std.proofs.lemmas.Result.{IfOk-weaker}
use Rattle.doc_rules.proofs.CycleNumbers.{listed-nodes}
use Rattle.doc_rules.proofs.cycles.dependency_nodes.Goals as goal

pub returns-clause-nodes : goal.returns-clause-nodes
returns-clause-nodes c =
    let few : length c.args.tables.now.slots < 2 ^ 32 = omega arith in
    IfOk-weaker c.dependency_lists.result _ _ (λ lists listed. listed-nodes c.args.tables.now lists.items listed few) c.dependency_lists.ensures
