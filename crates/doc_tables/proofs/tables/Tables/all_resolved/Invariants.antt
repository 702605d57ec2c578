use Rattle.std.proofs.Common.{◌≡◌, ◌<◌, ℕ, IsSome, vec_len}
use Rattle.doc_tables.specs.Accessors.{AreReached, reached_at}
use Rattle.doc_tables.specs.Numbered.{slot_at}
use Rattle.doc_tables.specs.DependencyLists.{list_at}
use Rattle.doc_tables.specs.Reached.{lists_of}
use Rattle.doc_tables.proofs.tables.Tables.all_resolved.Given as goal

abbrev pub invariant-loop-number : goal.invariant-loop-number
invariant-loop-number l = record {
  count : vec_len l.lists ≡ l.number;
  each : (n : ℕ) → n < l.number → IsSome (slot_at l.self n) → AreReached l.self (list_at (lists_of l.lists.items) n) (reached_at l.self n);
}
