use Rattle.std.proofs.Common.{List, Option, sym, subst, ◌∙◌}
use Rattle.std.proofs.lemmas.Result.{IfOk-weaker}
use Rattle.fc_base.specs.declared.ids.SlotId.{SlotId}
use Rattle.doc_tables.specs.Accessors.{AreReached, reached_at}
use Rattle.doc_tables.proofs.ReachedLemmas.{reached-known}
use Rattle.doc_tables.proofs.tables.Tables.references_of.Goals as goal

pub returns-in-Some : goal.returns-in-Some
returns-in-Some c =
    let v = c.args.self.now in
    let n = c.args.slot.0 in
    IfOk-weaker c.copy_references.result _ _
    (λ all e. subst (λ (ids : List (Option SlotId)). AreReached v ids (reached_at v n)) (sym (e ∙ c.list_at.ensures))
    (reached-known v c.self.inside c.self.invariant c.self.view_is c.in-Some.lists c.in-Some.is n c.requires))
    c.copy_references.ensures
