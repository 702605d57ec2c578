use Rattle.std.proofs.Common.{List, ap}
use Rattle.doc_tables.specs.Shown.{object_with}
use Rattle.doc_tables.proofs.HeldLemmas.{Named}
use Rattle.doc_tables.proofs.ShownLemmas.{set-shown, set-entry}
use Rattle.doc_tables.proofs.changes.put_content.Goals as goal

pub returns : goal.returns
returns c =
    let old = c.index_mut-object.result.now in
    let entry = c.index_mut-entry.result.now in
    set-shown (object_with c.args.content c.args.place.property) c.args.objects.now.entries c.args.place.object old _ c.index_mut-object.ensures.value
    (λ k. ap (λ (l : List Named). (k, old.label, l, old.number.0)) (set-entry c.args.content old.properties.entries c.args.place.property entry c.index_mut-entry.ensures.value))
