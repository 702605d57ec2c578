use Rattle.std.proofs.Common.{ℕ, ◌<◌, take}
use Rattle.fc_base.specs.Graph.{IsIn}
use Rattle.worked_rows.proofs.orders.all_below.Given as goal

abbrev pub invariant-loop-number : goal.invariant-loop-number
invariant-loop-number l = (n : ℕ) → IsIn n (take l.number-index l.numbers) → n < l.count
