use Rattle.std.proofs.Common.{◌≡◌, ◌+◌, ◌-◌, ◌<◌, ◌≤◌, ◌^◌, min, drop}
use Rattle.std.specs.List.{sum_by}
use Rattle.document_outcomes.specs.Typed.{no_features}
use Rattle.recompute.specs.Steps.{nodes_at, visits_at}
use Rattle.recompute.proofs.KeptLemmas.{IsWorking}
use Rattle.recompute.proofs.evaluation.work_out.Given as goal

abbrev pub invariant-loop-number : goal.invariant-loop-number
invariant-loop-number g l = record {
  working : IsWorking no_features l.tables l.order l.number-index l.outcomes;
  counted : l.steps < 2 ^ 64;
  stepped :
      min (l.steps + sum_by (visits_at no_features l.tables) (drop l.number-index l.order)) (2 ^ 64 - 1)
      ≡ min (l.initial.steps + sum_by (visits_at no_features l.tables) l.order) (2 ^ 64 - 1);
  never_less : l.initial.steps ≤ l.steps;
  most : l.steps + sum_by (nodes_at l.tables) (drop l.number-index l.order) ≤ l.initial.steps + sum_by (nodes_at l.tables) l.order;
}
