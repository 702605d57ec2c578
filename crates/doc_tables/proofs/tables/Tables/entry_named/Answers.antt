use Rattle.std.specs.Option.{option_copied}
use Rattle.doc_tables.proofs.ResolveLemmas.{named-read}
use Rattle.doc_tables.proofs.tables.Tables.entry_named.Goals as goal

pub returns : goal.returns
returns c =
    named-read c.args.self.now c.self.inside c.self.invariant c.self.view_is c.args.name.now (option_copied c.get.result) c.get.ensures.value
