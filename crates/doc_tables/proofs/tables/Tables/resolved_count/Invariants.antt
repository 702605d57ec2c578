use Rattle.std.proofs.Common.{◌≡◌, min, sum_by, take}
use Rattle.doc_tables.specs.Counted.{dependencies_of_object}
use Rattle.doc_tables.proofs.tables.Tables.resolved_count.Given as goal

abbrev pub invariant-loop-place : goal.invariant-loop-place
invariant-loop-place l =
    l.count ≡ min (sum_by (dependencies_of_object l.self.document) (take l.place l.self.document.objects)) 18446744073709551615
