use Rattle.std.proofs.Common.{◌++◌, arith}
use Rattle.std.proofs.lemmas.Grind.{common_steps}
use Rattle.fc_base.proofs.ReadingLemmas.{Consumes_both}
use Rattle.fc_base.proofs.readings.read_up_to.Goals as goal

pub returns-in_err-read_some-clause-consumed : goal.returns-in_err-read_some-clause-consumed
returns-in_err-read_some-clause-consumed g c =
    let last = c.in_err-read_some.ensures.err in
    record {
      front = c.loop.bytes.items ++ last.front;
      consumed = Consumes_both _ _ _ _ _ c.loop.invariant.consumed last.consumed;
      bound = grind (arith, common_steps, last.bound);
    }
