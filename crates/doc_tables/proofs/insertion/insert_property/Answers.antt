use Rattle.std.proofs.Common.{nat_eq, ◌∙◌}
use Rattle.std.specs.Cmp.Lexicographic.{pointwise}
use Rattle.indexmap.proofs.CallerLemmas.{insert_entry-new}
use Rattle.doc_tables.proofs.insertion.insert_property.Goals as goal

pub returns-clause-added : goal.returns-clause-added
returns-clause-added c =
    c.in_ok-insert.ensures.entries ∙ insert_entry-new (pointwise nat_eq) c.args.properties.now c.args.name c.args.entry c.requires
