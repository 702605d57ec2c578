use Rattle.doc_rules.proofs.MarkLemmas.{MarksSome}
use Rattle.doc_rules.proofs.sorts.numbers_in_use.Given as goal

abbrev pub invariant-loop-slot : goal.invariant-loop-slot
invariant-loop-slot l = MarksSome l.tables l.listed l.slot-index l.marks.items
