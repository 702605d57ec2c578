use Rattle.std.proofs.Common.{arith}
use Rattle.doc_rules.proofs.MarkLemmas.{within-marks, marks-more, all-marked}
use Rattle.doc_rules.proofs.sorts.numbers_in_use.Goals as goal

pub index_mut-requires : goal.index_mut-requires
index_mut-requires c =
    let within =
    within-marks c.args.tables.now c.args.listed.now c.requires c.loop-slot.slot-index (record { 0 = 0 }) c.loop-slot.marks.items
    c.loop-slot-test.true c.loop-slot.invariant.sized in
    omega (arith, within, c.loop-slot.marks.ok.0)

pub loop-slot-preserved : goal.loop-slot-preserved
loop-slot-preserved c =
    marks-more c.args.tables.now c.args.listed.now c.requires c.loop-slot.slot-index (record { 0 = 0 }) c.loop-slot.marks.items
    c.loop-slot-test.true c.loop-slot.invariant

pub returns : goal.returns
returns c =
    all-marked c.args.tables.now c.args.listed.now c.requires c.is_numbered.ensures c.loop-slot.slot-index c.loop-slot.marks.items
    c.loop-slot-test.false c.loop-slot.invariant
