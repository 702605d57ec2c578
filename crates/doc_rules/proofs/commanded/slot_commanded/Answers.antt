use Rattle.std.proofs.Common.{None, Some, refl}
use Rattle.doc_rules.proofs.SlotLemmas.{slot-commanded, slot-lacking}
use Rattle.doc_rules.proofs.commanded.slot_commanded.Goals as goal

pub returns-in-Some-resolve-clause-exact : goal.returns-in-Some-resolve-clause-exact
returns-in-Some-resolve-clause-exact c =
    slot-commanded c.args.tables.now c.finds_all.ensures c.args.path.now c.in-Some.object c.in-Some.ensures (Some c.in-Some-resolve.slot) c.in-Some-resolve.ensures
    c.in-Some-resolve.slot refl

pub returns-in-None-clause-exact : goal.returns-in-None-clause-exact
returns-in-None-clause-exact c =
    rw (slot-lacking c.args.tables.now c.finds_all.ensures c.args.path.now c.in-Some.object c.in-Some.ensures None c.in-None.ensures refl) c.of-in-None.ensures
