use Rattle.std.proofs.Common.{◌≡◌, ◌<◌, ℕ, IsSome, map, vec_len}
use Rattle.doc_tables.specs.Numbered.{at_number}
use Rattle.doc_tables.specs.Table.{freed_at}
use Rattle.doc_tables.proofs.HeldLemmas.{Named}
use Rattle.doc_tables.proofs.removals.release_slots.Given as goal

-- those that are left are still to be freed
abbrev pub invariant-loop-entry : goal.invariant-loop-entry
invariant-loop-entry l = record {
  freed : (n : ℕ) → freed_at (map (λ (e : Named). e.1.slot.0) l.entry-iterator) n (at_number l.keys.items n) ≡ freed_at (map (λ (e : Named). e.1.slot.0) l.properties.entries) n (at_number l.initial.keys.items n);
  used : (n : ℕ) → n < l.first → IsSome (at_number l.keys.items n);
  len : vec_len l.keys ≡ vec_len l.initial.keys;
}
