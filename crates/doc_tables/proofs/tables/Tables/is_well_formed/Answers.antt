use Rattle.doc_tables.proofs.ChangeHeld.{form-seen}
use Rattle.doc_tables.proofs.tables.Tables.is_well_formed.Goals as goal

pub returns : goal.returns
returns c = form-seen c.args.self.now c.self.inside c.self.invariant c.self.view_is
