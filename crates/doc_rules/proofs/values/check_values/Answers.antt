use Rattle.std.proofs.Common.{refl}
use Rattle.std.proofs.lemmas.Result.{err_from_is_err_and}
use Rattle.document_model.specs.Slots.{slots}
use Rattle.document_outcomes.specs.Faults.{range_faults}
use Rattle.doc_rules.specs.KindFaults.{range_fault}
use Rattle.doc_rules.proofs.FirstLemmas.{live_at, goes_on_at, stops_at, ends_at}
use Rattle.doc_rules.proofs.VarSetFaults.{range_faults-slots}
use Rattle.doc_rules.proofs.values.check_values.Goals as goal

pub check_value-requires : goal.check_value-requires
check_value-requires c = live_at c.args.tables.now c.args.listed.now (slots c.args.tables.now.document) c.requires c.loop-slot.slot-index (record { 0 = 0 }) c.loop-slot-test.true

pub returns-in_err-check_value : goal.returns-in_err-check_value
returns-in_err-check_value c =
    let p = err_from_is_err_and c.from_residual.result c.from_residual.ensures.1 in
    rw (p.1, p.2)
    (stops_at c.args.tables.now c.args.listed.now (slots c.args.tables.now.document) c.requires (range_fault c.args.tables.now.document) (range_faults c.args.tables.now.document) (range_faults-slots c.args.tables.now.document) c.loop-slot.slot-index c.loop-slot.invariant (record { 0 = 0 }) _
    c.loop-slot-test.true c.in_err-check_value.ensures)

pub loop-slot-preserved : goal.loop-slot-preserved
loop-slot-preserved c =
    goes_on_at c.args.tables.now c.args.listed.now (slots c.args.tables.now.document) c.requires (range_fault c.args.tables.now.document) (range_faults c.args.tables.now.document) (range_faults-slots c.args.tables.now.document) c.loop-slot.slot-index c.loop-slot.invariant (record { 0 = 0 }) tt
    c.loop-slot-test.true c.in_ok-check_value.ensures

pub returns : goal.returns
returns c =
    ends_at c.args.tables.now c.args.listed.now (slots c.args.tables.now.document) c.requires (range_fault c.args.tables.now.document) (range_faults c.args.tables.now.document) (range_faults-slots c.args.tables.now.document) c.loop-slot.slot-index c.loop-slot.invariant tt
    c.loop-slot-test.false
