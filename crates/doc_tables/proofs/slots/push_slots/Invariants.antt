use Rattle.std.proofs.Common.{◌≡◌, ◌++◌, map}
use Rattle.doc_tables.proofs.HeldLemmas.{Named}
use Rattle.doc_tables.proofs.slots.push_slots.Given as goal

abbrev pub invariant-loop-entry : goal.invariant-loop-entry
invariant-loop-entry l =
    l.out.items ++ map (λ (e : Named). e.1.slot) l.entry-iterator ≡ l.initial.out.items ++ map (λ (e : Named). e.1.slot) l.properties.entries
