use Rattle.document_outcomes.proofs.CycleLemmas.{back-reaches, reaches-back}
use Rattle.document_outcomes.proofs.laws.links_that_lead_back_reach_themselves.Goals as goal

pub returns : goal.returns
returns c = λ d o here. (back-reaches d o, reaches-back d o here)
