use Rattle.std.proofs.Common.{◌-◌, ◌<◌, ℕ, IsSome, length}
use Rattle.doc_tables.specs.Numbered.{at_number}
use Rattle.doc_tables.proofs.numbers.first_free.Given as goal

abbrev pub invariant-loop-number : goal.invariant-loop-number
invariant-loop-number g l = (n : ℕ) → n < l.number → IsSome (at_number l.table.items n)

abbrev pub decreases-loop-number : goal.decreases-loop-number
decreases-loop-number g l = length l.table.items - l.number
