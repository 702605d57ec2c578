use Rattle.std.proofs.Common.{[], is_some}
use Rattle.std.proofs.lemmas.Result.{err_from_is_err_and}
use Rattle.document_outcomes.specs.Typed.{no_features}
use Rattle.doc_rules.specs.Edits.{edited}
use Rattle.doc_rules.proofs.EditLemmas.{becomes-meets, becomes-named, becomes-valid, edited-named, edited-plain}
use Rattle.doc_rules.proofs.editing.apply_edit.Goals as goal

pub returns-in_err-edited-clause-named : goal.returns-in_err-edited-clause-named
returns-in_err-edited-clause-named g c =
    let p = err_from_is_err_and c.from_residual.result c.from_residual.ensures.1 in
    rw (p.1, p.2) (becomes-named c.args.tables.now (edited [] no_features (is_some c.args.clean) c.args.tables.now.document c.args.edit.now)
    (edited-named [] no_features (is_some c.args.clean) c.args.tables.now.document c.args.edit.now)
    c.in_err-edited.field-0.0 c.in_err-edited.ensures)

pub returns-clause-exact : goal.returns-clause-exact
returns-clause-exact g c =
    becomes-meets c.args.tables.now c.in_ok-edited.edited (edited [] no_features (is_some c.args.clean) c.args.tables.now.document c.args.edit.now)
    (edited-plain [] no_features (is_some c.args.clean) c.args.tables.now.document c.args.edit.now) c.in_ok-edited.ensures

pub returns-clause-valid : goal.returns-clause-valid
returns-clause-valid g c =
    becomes-valid c.args.tables.now c.in_ok-edited.edited (edited [] no_features (is_some c.args.clean) c.args.tables.now.document c.args.edit.now)
    (edited-plain [] no_features (is_some c.args.clean) c.args.tables.now.document c.args.edit.now) c.in_ok-edited.ensures
