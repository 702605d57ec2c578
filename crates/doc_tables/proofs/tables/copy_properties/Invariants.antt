use Rattle.std.proofs.Common.{◌≡◌, ◌++◌}
use Rattle.doc_tables.proofs.tables.copy_properties.Given as goal

abbrev pub invariant-loop-name : goal.invariant-loop-name
invariant-loop-name l = l.copies.entries ++ l.name-iterator ≡ l.properties.entries
