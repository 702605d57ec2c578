use Rattle.std.proofs.Common.{◌≡◌, ◌++◌, map}
use Rattle.doc_tables.specs.Shown.{shown}
use Rattle.doc_tables.proofs.tables.copy_objects.Given as goal

abbrev pub invariant-loop-name : goal.invariant-loop-name
invariant-loop-name l = map shown l.copies.entries ++ map shown l.name-iterator ≡ map shown l.objects.entries
