use Rattle.doc_rules.proofs.SortNumbers.{AreSortsSoFar}
use Rattle.doc_rules.proofs.sorts.sorts_in_order.Given as goal

abbrev pub invariant-loop-number : goal.invariant-loop-number
invariant-loop-number l = AreSortsSoFar l.tables l.order l.initial.sorts.items l.number-index l.sorts.items
