use Rattle.doc_tables.proofs.HeldLemmas.{name-used, name-read}
use Rattle.doc_tables.proofs.tables.Tables.name_of.Goals as goal

pub thing_at-requires : goal.thing_at-requires
thing_at-requires c = name-used c.args.self.now c.self.inside c.self.invariant c.self.view_is c.args.object.0 c.requires

pub returns : goal.returns
returns c = name-read c.args.self.now c.self.inside c.self.invariant c.self.view_is c.args.object.0 c.thing_at.result.now c.thing_at.ensures
