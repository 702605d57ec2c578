use Rattle.std.specs.Option.{option_copied}
use Rattle.doc_tables.proofs.PlaceLemmas.{place-number}
use Rattle.doc_tables.proofs.tables.Tables.object_at.Goals as goal

pub returns : goal.returns
returns c = place-number c.args.self.now c.self.inside c.self.invariant c.self.view_is c.args.place (option_copied c.entry_at.result) c.number_of.result c.entry_at.ensures c.number_of.ensures
