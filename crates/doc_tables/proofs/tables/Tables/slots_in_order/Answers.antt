use Rattle.std.proofs.Common.{sym, subst, List}
use Rattle.std.proofs.lemmas.Result.{IfOk-weaker}
use Rattle.fc_base.specs.declared.ids.SlotId.{SlotId}
use Rattle.document_model.specs.Slots.{slots}
use Rattle.doc_tables.specs.Accessors.{AreNumbersOf}
use Rattle.doc_tables.proofs.HeldLemmas.{numbers-held}
use Rattle.doc_tables.proofs.tables.Tables.slots_in_order.Goals as goal

pub returns : goal.returns
returns c =
    let v = c.args.self.now in
    IfOk-weaker c.numbers_in_order.result _ _
    (λ all e. subst (λ (ids : List SlotId). AreNumbersOf v ids (slots v.document)) (sym e) (numbers-held v c.self.inside c.self.invariant c.self.view_is))
    c.numbers_in_order.ensures
