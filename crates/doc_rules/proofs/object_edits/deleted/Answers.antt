use Rattle.document_model.specs.Edited.{without_object}
use Rattle.doc_rules.proofs.object_edits.deleted.Goals as goal

pub returns : goal.returns
returns c = λ o at. c.accepted.ensures c.args.tables.now (without_object c.args.tables.now.document o.name) (c.in_ok-edited.ensures o.name at)
