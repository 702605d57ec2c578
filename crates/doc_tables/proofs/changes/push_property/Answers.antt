use Rattle.std.proofs.Common.{List, map, ap, ◌∙◌}
use Rattle.std.proofs.lemmas.Result.{on_ok_weaker, on_err_weaker}
use Rattle.doc_tables.specs.Shown.{shown, with_entry}
use Rattle.doc_tables.proofs.HeldLemmas.{Named}
use Rattle.doc_tables.proofs.ShownLemmas.{set-shown, change-none}
use Rattle.doc_tables.proofs.changes.push_property.Goals as goal

pub returns-clause-added : goal.returns-clause-added
returns-clause-added c =
    let old = c.index_mut-object.result.now in
    on_ok_weaker c.insert_property.result
    (λ added. set-shown (with_entry (c.args.name, c.args.entry)) c.args.objects.now.entries c.args.place old _ c.index_mut-object.ensures.value
    (λ k. ap (λ (l : List Named). (k, old.label, l, old.number.0)) added))
    c.insert_property.ensures.added

pub returns-clause-unchanged : goal.returns-clause-unchanged
returns-clause-unchanged c =
    let old = c.index_mut-object.result.now in
    let objects = c.args.objects.now.entries in
    on_err_weaker c.insert_property.result
    (λ kept. set-shown (λ s. s) objects c.args.place old (record { number = old.number; label = old.label; properties = c.insert_property.new.properties }) c.index_mut-object.ensures.value
    (λ k. ap (λ (l : List Named). (k, old.label, l, old.number.0)) kept)
    ∙ change-none c.args.place (map shown objects))
    c.insert_property.ensures.unchanged
