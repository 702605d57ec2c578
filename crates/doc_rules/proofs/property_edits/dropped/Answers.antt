use Rattle.document_model.specs.Edited.{without_property}
use Rattle.doc_rules.specs.Commanded.{property_commanded}
use Rattle.doc_rules.proofs.BecomesLemmas.{becomes-dropped}
use Rattle.doc_rules.proofs.NameLemmas.{property-has}
use Rattle.doc_rules.proofs.property_edits.dropped.Goals as goal

pub without_property-requires-clause-there : goal.without_property-requires-clause-there
without_property-requires-clause-there c =
    property-has c.args.tables.now c.finds_all.ensures c.args.path.now c.in-Ok.owner c.in-Plain.name c.in-Ok.ensures c.in-Plain.is

pub returns-in_ok-edited-in-Plain : goal.returns-in_ok-edited-in-Plain
returns-in_ok-edited-in-Plain c =
    let t = c.args.tables.now in
    becomes-dropped t c.args.path.now c.in-Ok.owner c.in-Plain.name c.accepted.result (property_commanded t.document c.args.path.now) c.in-Ok.ensures c.in-Plain.is
    (λ o at. c.accepted.ensures t (without_property t.document o c.in-Plain.name) (c.in_ok-edited-in-Plain.ensures o at))
