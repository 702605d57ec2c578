use Rattle.doc_tables.proofs.NumberedHeld.{numbered-read}
use Rattle.doc_tables.proofs.tables.Tables.is_numbered.Goals as goal

pub returns : goal.returns
returns c = numbered-read c.args.self.now c.self.inside c.self.invariant c.self.view_is c.slot_test_is_exact.ensures
