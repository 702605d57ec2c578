use Rattle.doc_tables.proofs.DistinctHeld.{distinct-read}
use Rattle.doc_tables.proofs.tables.Tables.has_distinct_slots.Goals as goal

pub returns : goal.returns
returns c = distinct-read c.args.self.now c.self.inside c.self.invariant c.self.view_is
