use Rattle.std.proofs.Common.{refl}
use Rattle.std.proofs.lemmas.Result.{err_from_is_err_and}
use Rattle.document_model.specs.Slots.{slots}
use Rattle.document_outcomes.specs.Faults.{reference_faults}
use Rattle.doc_rules.specs.KindFaults.{unknown_fault}
use Rattle.doc_rules.proofs.FirstLemmas.{live_at, goes_on_at, stops_at, ends_at}
use Rattle.doc_rules.proofs.VarSetFaults.{reference_faults-slots}
use Rattle.doc_rules.proofs.references.check_references.Goals as goal

pub check_references_of-requires : goal.check_references_of-requires
check_references_of-requires c = live_at c.args.tables.now c.args.listed.now (slots c.args.tables.now.document) c.requires c.loop-slot.slot-index (record { 0 = 0 }) c.loop-slot-test.true

pub returns-in_err-check_references_of : goal.returns-in_err-check_references_of
returns-in_err-check_references_of c =
    let p = err_from_is_err_and c.from_residual.result c.from_residual.ensures.1 in
    rw (p.1, p.2)
    (stops_at c.args.tables.now c.args.listed.now (slots c.args.tables.now.document) c.requires (unknown_fault c.args.tables.now.document) (reference_faults c.args.tables.now.document) (reference_faults-slots c.args.tables.now.document c.holds_var_sets.ensures c.finds_all.ensures) c.loop-slot.slot-index c.loop-slot.invariant (record { 0 = 0 }) _
    c.loop-slot-test.true c.in_err-check_references_of.ensures)

pub loop-slot-preserved : goal.loop-slot-preserved
loop-slot-preserved c =
    goes_on_at c.args.tables.now c.args.listed.now (slots c.args.tables.now.document) c.requires (unknown_fault c.args.tables.now.document) (reference_faults c.args.tables.now.document) (reference_faults-slots c.args.tables.now.document c.holds_var_sets.ensures c.finds_all.ensures) c.loop-slot.slot-index c.loop-slot.invariant (record { 0 = 0 }) tt
    c.loop-slot-test.true c.in_ok-check_references_of.ensures

pub returns : goal.returns
returns c =
    ends_at c.args.tables.now c.args.listed.now (slots c.args.tables.now.document) c.requires (unknown_fault c.args.tables.now.document) (reference_faults c.args.tables.now.document) (reference_faults-slots c.args.tables.now.document c.holds_var_sets.ensures c.finds_all.ensures) c.loop-slot.slot-index c.loop-slot.invariant tt
    c.loop-slot-test.false
