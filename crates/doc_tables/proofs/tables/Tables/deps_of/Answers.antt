use Rattle.std.proofs.Common.{List, sym, subst, ap, ◌∙◌}
use Rattle.std.proofs.lemmas.Result.{IfOk-weaker}
use Rattle.fc_base.specs.declared.ids.SlotId.{SlotId}
use Rattle.doc_tables.specs.Accessors.{AreNumbersOf, deps_at}
use Rattle.doc_tables.specs.Entries.{present}
use Rattle.doc_tables.proofs.DependencyLemmas.{deps-read}
use Rattle.doc_tables.proofs.tables.Tables.deps_of.Goals as goal

pub returns : goal.returns
returns c =
    let v = c.args.self.now in
    let n = c.args.slot.0 in
    IfOk-weaker c.present.result _ _
    (λ all e. subst (λ (ids : List SlotId). AreNumbersOf v ids (deps_at v n)) (sym (e ∙ ap (present {A = SlotId}) c.deref.ensures.value))
    (deps-read v c.self.inside c.self.invariant c.self.view_is n c.requires c.in_ok-found.found.items (c.in_ok-found.ensures)))
    c.present.ensures
