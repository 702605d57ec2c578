use Rattle.std.specs.Option.{option_copied}
use Rattle.doc_tables.proofs.PlaceLemmas.{looked-number}
use Rattle.doc_tables.proofs.tables.Tables.object_by_name.Goals as goal

pub returns : goal.returns
returns c =
    looked-number c.args.self.now c.self.inside c.self.invariant c.self.view_is c.args.name.now (option_copied c.get.result) c.number_of.result c.get.ensures.value c.number_of.ensures
