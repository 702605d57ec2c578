use Rattle.std.proofs.Common.{refl}
use Rattle.std.proofs.lemmas.Result.{err_from_is_err_and}
use Rattle.document_model.specs.Slots.{slots}
use Rattle.document_outcomes.specs.Faults.{cycle_faults}
use Rattle.doc_rules.specs.KindFaults.{cycle_fault}
use Rattle.doc_rules.proofs.FirstLemmas.{live_at, goes_on_at, stops_at, ends_at}
use Rattle.doc_rules.proofs.VarSetFaults.{cycle_faults-slots}
use Rattle.doc_rules.proofs.cycles.check_each_cycle.Goals as goal

pub check_cycle-requires-clause-live : goal.check_cycle-requires-clause-live
check_cycle-requires-clause-live c = live_at c.args.tables.now c.args.listed.now (slots c.args.tables.now.document) c.requires.order c.loop-slot.slot-index (record { 0 = 0 }) c.loop-slot-test.true

pub returns-in_err-check_cycle : goal.returns-in_err-check_cycle
returns-in_err-check_cycle c =
    let p = err_from_is_err_and c.from_residual.result c.from_residual.ensures.1 in
    rw (p.1, p.2)
    (stops_at c.args.tables.now c.args.listed.now (slots c.args.tables.now.document) c.requires.order (cycle_fault c.args.tables.now.document) (cycle_faults c.args.tables.now.document) (cycle_faults-slots c.args.tables.now.document) c.loop-slot.slot-index c.loop-slot.invariant (record { 0 = 0 }) _
    c.loop-slot-test.true c.in_err-check_cycle.ensures)

pub loop-slot-preserved : goal.loop-slot-preserved
loop-slot-preserved c =
    goes_on_at c.args.tables.now c.args.listed.now (slots c.args.tables.now.document) c.requires.order (cycle_fault c.args.tables.now.document) (cycle_faults c.args.tables.now.document) (cycle_faults-slots c.args.tables.now.document) c.loop-slot.slot-index c.loop-slot.invariant (record { 0 = 0 }) tt
    c.loop-slot-test.true c.in_ok-check_cycle.ensures

pub returns : goal.returns
returns c =
    ends_at c.args.tables.now c.args.listed.now (slots c.args.tables.now.document) c.requires.order (cycle_fault c.args.tables.now.document) (cycle_faults c.args.tables.now.document) (cycle_faults-slots c.args.tables.now.document) c.loop-slot.slot-index c.loop-slot.invariant tt
    c.loop-slot-test.false
