use Rattle.doc_tables.proofs.FoundHeld.{found-read}
use Rattle.doc_tables.proofs.tables.Tables.finds_all.Goals as goal

pub returns : goal.returns
returns c = found-read c.args.self.now c.self.inside c.self.invariant c.self.view_is
