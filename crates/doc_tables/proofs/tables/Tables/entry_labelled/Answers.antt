use Rattle.std.proofs.Common.{List, Option, Some, ℕ, subst}
use Rattle.fc_base.specs.declared.ids.ObjectId.{ObjectId}
use Rattle.document_model.specs.Document.{object_labelled}
use Rattle.doc_tables.specs.Accessors.{IsNumberOfObject}
use Rattle.doc_tables.proofs.PlaceLemmas.{labelled-entry}
use Rattle.doc_tables.proofs.tables.Tables.entry_labelled.Goals as goal

pub returns-in-Some : goal.returns-in-Some
returns-in-Some c =
    let v = c.args.self.now in
    labelled-entry v c.finds_all.ensures c.args.label.now c.in-Some.object c.entry_of_object.result.now
    (subst (λ (text : List ℕ). IsNumberOfObject v (Some c.in-Some.object) (object_labelled v.document text)) c.as_str.ensures.text
    (subst (λ (id : Option ObjectId). IsNumberOfObject v id (object_labelled v.document c.as_str.result.now)) c.in-Some.is c.object_labelled.ensures))
    c.entry_of_object.ensures
