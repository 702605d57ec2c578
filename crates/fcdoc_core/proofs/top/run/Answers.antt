use Rattle.fcdoc_core.proofs.HeadlineLemmas.{headline_of, for_files_of, causes_of, complete_of}
use Rattle.fcdoc_core.proofs.top.run.Goals as goal

pub returns-clause-headline : goal.returns-clause-headline
returns-clause-headline g c = headline_of _ _ c.plan_and_deliver.ensures.ends

pub returns-clause-for_files : goal.returns-clause-for_files
returns-clause-for_files g c = for_files_of _ _ c.plan_and_deliver.ensures.ends

pub returns-clause-causes : goal.returns-clause-causes
returns-clause-causes g c = causes_of _ _ c.plan_and_deliver.ensures.ends

pub returns-clause-complete : goal.returns-clause-complete
returns-clause-complete g c = complete_of _ _ c.plan_and_deliver.ensures.ends
