use Rattle.doc_tables.proofs.HeldLemmas.{key-used, key-read}
use Rattle.doc_tables.proofs.tables.Tables.key_of.Goals as goal

pub thing_at-requires : goal.thing_at-requires
thing_at-requires c = key-used c.args.self.now c.self.inside c.self.invariant c.self.view_is c.args.slot.0 c.requires

pub returns : goal.returns
returns c = key-read c.args.self.now c.self.inside c.self.invariant c.self.view_is c.args.slot.0 c.thing_at.result.now c.thing_at.ensures
