use Rattle.document_outcomes.proofs.CycleLemmas.{cyclic-reaches, reaches-cyclic}
use Rattle.document_outcomes.proofs.laws.cyclic_slots_reach_themselves.Goals as goal

pub returns : goal.returns
returns c = λ d s here. (cyclic-reaches d s, reaches-cyclic d s here)
