use Rattle.std.proofs.Common.{◌≡◌, ◌<◌, ℕ, map, Some, vec_len}
use Rattle.doc_tables.specs.Accessors.{deps_at}
use Rattle.doc_tables.specs.DependencyLists.{list_at}
use Rattle.doc_tables.specs.Numbered.{slot_at}
use Rattle.doc_tables.proofs.tables.Tables.dependency_lists.Given as goal

abbrev pub invariant-loop-number : goal.invariant-loop-number
invariant-loop-number l = record {
  count : vec_len l.lists ≡ l.number;
  each : (n : ℕ) → n < l.number → map (slot_at l.self) (list_at (map (λ list. list.items) l.lists.items) n) ≡ map Some (deps_at l.self n);
}
