use Rattle.std.proofs.Common.{Err, refl, ap}
use Rattle.fcdoc_file.proofs.WellFormedLaws.{document_is_well_formed}
use Rattle.fcdoc_file.proofs.loading.load.Goals as goal

pub returns-in-Ok-clause-exact : goal.returns-in-Ok-clause-exact
returns-in-Ok-clause-exact c = rw (document_is_well_formed c.args.bytes.now c.in-Ok.tables.document c.in-Ok.ensures.found, c.in-Ok.ensures.exact) refl

pub returns-in-Err-NotBuilt-clause-not_built : goal.returns-in-Err-NotBuilt-clause-not_built
returns-in-Err-NotBuilt-clause-not_built c = λ _. c.in-Err-NotBuilt.ensures.not_built (ap Err c.in-Err-NotBuilt.field-0-is)
