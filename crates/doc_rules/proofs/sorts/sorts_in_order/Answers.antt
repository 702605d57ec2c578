use Rattle.std.proofs.Common.{◌≡◌, ◌+◌, ◌<◌, ℕ, List, Some, Vec, Global, length, get_or, sym, subst}
use Rattle.std.specs.Option.{option_map}
use Rattle.object_paths.specs.Slots.{Slot}
use Rattle.expr_eval.specs.SortRows.{SortOutcome}
use Rattle.doc_tables.specs.Numbered.{slot_at}
use Rattle.document_outcomes.specs.Sorts.{local_sort}
use Rattle.doc_rules.specs.SortTables.{sort_by_number}
use Rattle.doc_rules.proofs.MarkLemmas.{IsIn-get_or}
use Rattle.doc_rules.proofs.SortNumbers.{AreSortsSoFar, so_far-past, so_far-on, so_far-all}
use Rattle.doc_rules.proofs.sorts.sorts_in_order.Goals.{then-marks-number+in_ok-sort, else-marks-number}
use Rattle.doc_rules.proofs.sorts.sorts_in_order.Goals as goal

pub bounds-marks-number : goal.bounds-marks-number
bounds-marks-number c =
    subst (λ (n : ℕ). get_or c.args.order.now c.loop-number.number-index 0 < n) (sym c.requires.marks.sized)
    (c.requires.order.inside (get_or c.args.order.now c.loop-number.number-index 0) (IsIn-get_or c.args.order.now c.loop-number.number-index 0 c.loop-number-test.true))

pub loop-number-preserved : goal.loop-number-preserved
loop-number-preserved c =
    let t = c.args.tables.now in
    let order = c.args.order.now in
    let k = c.loop-number.number-index in
    let n = get_or order k 0 in
    let first = c.in_ok-sorts.sorts.items in
    elim c.if-marks-number.branch [
      | then-marks-number+in_ok-sort w ↦
          let told =
          subst (λ (sorts : List SortOutcome). option_map (λ (s : Slot). local_sort t.document s (sort_by_number t sorts)) (slot_at t n) ≡ Some w.in_ok-sort.sort)
          w.deref.ensures.value w.in_ok-sort.ensures in
          subst (λ (v : Vec SortOutcome Global). AreSortsSoFar t order first (k + 1) v.items) (sym w.sorts-is)
          (so_far-on t c.is_numbered.ensures order c.requires.order first k c.loop-number.sorts.items c.loop-number.invariant c.loop-number-test.true
          w.in_ok-sort.sort told)
      | else-marks-number w ↦
          subst (λ (v : Vec SortOutcome Global). AreSortsSoFar t order first (k + 1) v.items) (sym w.sorts-is)
          (so_far-past t c.is_numbered.ensures order c.requires.order first k c.loop-number.sorts.items c.loop-number.invariant c.loop-number-test.true
          (c.requires.marks.unmarked n w.if-marks-number.false))
    ]

pub returns : goal.returns
returns c =
    so_far-all c.args.tables.now c.is_numbered.ensures c.args.order.now c.requires.order c.in_ok-sorts.sorts.items c.loop-number.number-index
    c.loop-number.sorts.items c.loop-number.invariant c.loop-number-test.false
