use Rattle.fcdoc_core.specs.Opening.{opened_of}
use Rattle.fcdoc_core.proofs.FilesLemmas.{opened_means, refused_means}
use Rattle.fcdoc_core.proofs.plan.plan_of_document.Goals as goal

pub returns-in-Ok-clause-means : goal.returns-in-Ok-clause-means
returns-in-Ok-clause-means g c =
    opened_means (g.S.Store.holds c.args.store.now) c.args.script.now (opened_of c.args.document.now) c.in-Ok.session c.plan_of_session.result c.in-Ok.ensures.exact c.plan_of_session.ensures.means

pub returns-in-Err-clause-means : goal.returns-in-Err-clause-means
returns-in-Err-clause-means g c =
    refused_means (g.S.Store.holds c.args.store.now) c.args.script.now (opened_of c.args.document.now) c.in-Err.fault c.document_refused.result
    c.in-Err.ensures.exact c.document_refused.ensures.line c.document_refused.ensures.plan
