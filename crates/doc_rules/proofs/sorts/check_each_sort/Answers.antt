use Rattle.std.proofs.Common.{refl}
use Rattle.std.proofs.lemmas.Result.{err_from_is_err_and}
use Rattle.document_model.specs.Slots.{slots}
use Rattle.document_outcomes.specs.Faults.{sort_faults}
use Rattle.doc_rules.specs.KindFaults.{fault_of_sort}
use Rattle.doc_rules.proofs.FirstLemmas.{live_at, goes_on_at, stops_at, ends_at}
use Rattle.doc_rules.proofs.sorts.check_each_sort.Goals as goal

pub check_sort-requires-clause-live : goal.check_sort-requires-clause-live
check_sort-requires-clause-live c = live_at c.args.tables.now c.args.listed.now (slots c.args.tables.now.document) c.requires.order c.loop-slot.slot-index (record { 0 = 0 }) c.loop-slot-test.true

pub returns-in_err-check_sort : goal.returns-in_err-check_sort
returns-in_err-check_sort c =
    let p = err_from_is_err_and c.from_residual.result c.from_residual.ensures.1 in
    rw (p.1, p.2)
    (stops_at c.args.tables.now c.args.listed.now (slots c.args.tables.now.document) c.requires.order (fault_of_sort c.args.tables.now.document) (sort_faults c.args.tables.now.document) refl c.loop-slot.slot-index c.loop-slot.invariant (record { 0 = 0 }) _
    c.loop-slot-test.true c.in_err-check_sort.ensures)

pub loop-slot-preserved : goal.loop-slot-preserved
loop-slot-preserved c =
    goes_on_at c.args.tables.now c.args.listed.now (slots c.args.tables.now.document) c.requires.order (fault_of_sort c.args.tables.now.document) (sort_faults c.args.tables.now.document) refl c.loop-slot.slot-index c.loop-slot.invariant (record { 0 = 0 }) tt
    c.loop-slot-test.true c.in_ok-check_sort.ensures
