use Rattle.std.proofs.lemmas.Result.{IfOk-weaker}
use Rattle.doc_tables.specs.Numbered.{slot_at}
use Rattle.doc_rules.proofs.FirstLemmas.{some-in}
use Rattle.doc_rules.proofs.CycleNumbers.{cyclic-told}
use Rattle.doc_rules.proofs.cycles.is_cyclic.Goals as goal

pub returns : goal.returns
returns c =
    let s = some-in (slot_at c.args.tables.now c.args.slot.0) c.requires.live in
    IfOk-weaker c.reaches_itself.result _ _
    (λ found told. cyclic-told c.args.tables.now c.args.lists.now c.requires.listed c.is_numbered.ensures c.args.slot.0 s.0 found s.1 told)
    c.reaches_itself.ensures
