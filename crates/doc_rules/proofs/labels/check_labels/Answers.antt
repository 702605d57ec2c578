use Rattle.std.proofs.Common.{◌<◌, ◌≤◌, Option, length, subst, ap, arith}
use Rattle.std.specs.Prelude.{is_some, slice_get}
use Rattle.std.proofs.lemmas.Result.{err_from_is_err_and}
use Rattle.fc_base.specs.declared.ids.ObjectId.{ObjectId}
use Rattle.doc_tables.specs.Accessors.{IsNumberOfObject}
use Rattle.doc_rules.proofs.LabelNumbers.{placed-object, label-stops, label-goes_on, label-ends, none-past}
use Rattle.doc_rules.proofs.labels.check_labels.Goals.{in-Some+in_ok-check_label, in_default}
use Rattle.doc_rules.proofs.labels.check_labels.Goals as goal

pub check_label-requires : goal.check_label-requires
check_label-requires c =
    let p = placed-object c.args.tables.now c.finds_all.ensures c.loop-place.place c.in-Some.object c.in-Some.ensures in
    ap is_some p.found

pub returns-in_err-check_label : goal.returns-in_err-check_label
returns-in_err-check_label c =
    let p = err_from_is_err_and c.from_residual.result c.from_residual.ensures.1 in
    rw (p.1, p.2)
    (label-stops c.args.tables.now c.finds_all.ensures c.loop-place.place c.loop-place.invariant c.in-Some.object _ c.in-Some.ensures
    c.in_err-check_label.ensures)

pub loop-place-preserved : goal.loop-place-preserved
loop-place-preserved c =
    let t = c.args.tables.now in
    elim c.match-object_at.branch [
      | in-Some+in_ok-check_label w ↦
          label-goes_on t c.finds_all.ensures c.loop-place.place c.loop-place.invariant w.in-Some.object tt w.in-Some.ensures w.in_ok-check_label.ensures
      | in_default w ↦
          absurd
          (none-past t c.loop-place.place
          (subst (λ (o : Option ObjectId). IsNumberOfObject t o (slice_get t.document.objects c.loop-place.place)) w.in_default.is c.object_at.ensures)
          (omega arith))
    ]

pub returns : goal.returns
returns c =
    let past : length c.args.tables.now.document.objects ≤ c.loop-place.place = omega arith in
    label-ends c.args.tables.now c.finds_all.ensures c.loop-place.place c.loop-place.invariant tt past
