use Rattle.fcdoc_core.proofs.FilesLemmas.{usage_means}
use Rattle.fcdoc_core.proofs.plan.plan_of_words.Goals as goal

pub returns-in-None-clause-means : goal.returns-in-None-clause-means
returns-in-None-clause-means g c = usage_means _ _ c.in-None.ensures
