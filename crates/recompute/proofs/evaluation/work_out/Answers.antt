use Rattle.std.proofs.Common.{◌≡◌, ◌<◌, ℕ, length, get_or, None, ap, ◌∙◌, arith}
use Rattle.std.specs.Prelude.{List}
use Rattle.std.proofs.lemmas.List.{length-replicate}
use Rattle.document_outcomes.specs.Typed.{no_features}
use Rattle.doc_tables.specs.Numbered.{slot_at}
use Rattle.doc_tables.proofs.NumberLemmas.{at_number-within}
use Rattle.recompute.specs.Steps.{nodes_at, visits_at}
use Rattle.recompute.proofs.KeptLemmas.{IsIn-at, some_value, visits-full, working-next}
use Rattle.recompute.proofs.SumLemmas.{sum_by-drop}
use Rattle.recompute.proofs.evaluation.work_out.Goals as goal

pub given-requires-clause-slot : goal.given-requires-clause-slot
given-requires-clause-slot g c =
    c.requires.ordered.used (get_or c.args.order.now c.loop-number.number-index 0) (IsIn-at c.args.order.now c.loop-number.number-index 0 (omega arith))

pub bounds-outcomes-number : goal.bounds-outcomes-number
bounds-outcomes-number g c =
    let n : ℕ = get_or c.args.order.now c.loop-number.number-index 0 in
    let found = some_value (slot_at c.args.tables.now n) (c.requires.ordered.used n (IsIn-at c.args.order.now c.loop-number.number-index 0 (omega arith))) in
    let within : n < length c.args.tables.now.slots = at_number-within c.args.tables.now.slots n found.0 found.1 in
    let sized : length c.args.outcomes.now ≡ length c.args.tables.now.slots = ap length c.requires.sized ∙ length-replicate (length c.args.tables.now.slots) None in
    omega (arith, c.loop-number.auto.outcomes)

pub loop-number-preserved : goal.loop-number-preserved
loop-number-preserved g c =
    let order : List ℕ = c.args.order.now in
    let i : ℕ = c.loop-number.number-index in
    let n : ℕ = get_or order i 0 in
    let more : i < length order = omega arith in
    let used = c.requires.ordered.used n (IsIn-at order i 0 more) in
    let found = some_value (slot_at c.args.tables.now n) used in
    let bound : n < length c.args.tables.now.slots = at_number-within c.args.tables.now.slots n found.0 found.1 in
    let sized : length c.args.outcomes.now ≡ length c.args.tables.now.slots = ap length c.requires.sized ∙ length-replicate (length c.args.tables.now.slots) None in
    let within : n < length c.loop-number.outcomes = omega (arith, c.loop-number.auto.outcomes) in
    let stepped = c.loop-number.invariant.stepped in
    let steps = c.in_ok-outcome.ensures.steps in
    let at_most = c.in_ok-outcome.ensures.at_most in
    let before = c.loop-number.invariant.never_less in
    let after = c.in_ok-outcome.ensures.never_less in
    let most = c.loop-number.invariant.most in
    let full =
    visits-full no_features c.args.tables.now c.is_numbered.ensures order c.requires.ordered c.loop-number.outcomes i found.0
    c.loop-number.invariant.working more found.1 in
    let visits = sum_by-drop (visits_at no_features c.args.tables.now) order i more in
    let nodes = sum_by-drop (nodes_at c.args.tables.now) order i more in
    record {
      working =
          working-next no_features c.args.tables.now c.is_numbered.ensures order c.requires.ordered c.loop-number.outcomes i found.0
          c.loop-number.invariant.working more found.1 c.in_ok-outcome.outcome within c.in_ok-outcome.ensures.outcome;
      counted = omega arith;
      stepped = omega arith;
      never_less = omega arith;
      most = omega arith;
    }
