use Rattle.std.proofs.Common.{length}
use Rattle.fc_base.proofs.CycleLemmas.{sound, complete}
use Rattle.fc_base.proofs.laws.cycle_test_is_exact.Goals as goal

pub returns : goal.returns
returns g c = λ same deps slots decides closed s t here.
    (sound deps same decides (length slots) s t, complete deps same decides slots closed s t here)
