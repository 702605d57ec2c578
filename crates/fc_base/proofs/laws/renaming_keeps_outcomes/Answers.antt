use Rattle.fc_base.proofs.GraphLemmas.{full_at-moved}
use Rattle.fc_base.proofs.laws.renaming_keeps_outcomes.Goals as goal

pub returns : goal.returns
returns g c = λ deps local moved place slots start closed reads carries n s here.
    full_at-moved deps slots closed local start reads moved place carries n s here
