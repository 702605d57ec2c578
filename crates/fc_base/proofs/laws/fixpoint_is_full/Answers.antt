use Rattle.std.proofs.Common.{length}
use Rattle.fc_base.proofs.GraphLemmas.{full_at-is, within_slots}
use Rattle.fc_base.proofs.laws.fixpoint_is_full.Goals as goal

pub returns : goal.returns
returns g c = λ deps local slots start w closed acyclic reads fixed s here.
    full_at-is deps slots closed local start reads w fixed (length slots) s here (within_slots deps slots closed acyclic s here)
