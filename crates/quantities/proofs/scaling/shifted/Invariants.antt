use Rattle.std.proofs.Common.{◌≡◌, ◌*◌, ◌^◌, ◌≤◌}
use Rattle.quantities.specs.Amounts.{greatest}
use Rattle.quantities.proofs.scaling.shifted.Given as goal

abbrev pub invariant-loop : goal.invariant-loop
invariant-loop l = (l.shifted ≡ l.number * 10 ^ l.counter) × (l.shifted ≤ greatest)
