use Rattle.std.specs.Option.{option_copied}
use Rattle.doc_tables.proofs.PlaceLemmas.{named-number}
use Rattle.doc_tables.proofs.tables.Tables.object_named.Goals as goal

pub returns : goal.returns
returns c =
    named-number c.args.self.now c.self.inside c.self.invariant c.self.view_is c.args.name.now c.place_named-place.result (option_copied c.entry_at.result) c.number_of.result
    c.place_named-place.ensures c.entry_at.ensures c.number_of.ensures
