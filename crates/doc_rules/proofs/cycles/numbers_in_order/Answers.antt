use Rattle.std.proofs.lemmas.Result.{IfOk-weaker}
use Rattle.doc_rules.proofs.CycleNumbers.{order-told}
use Rattle.doc_rules.proofs.cycles.numbers_in_order.Goals as goal

pub returns : goal.returns
returns c =
    IfOk-weaker c.in_order.result _ _
    (λ found told. order-told c.args.tables.now c.args.lists.now c.requires.listed c.is_numbered.ensures found told)
    c.in_order.ensures
