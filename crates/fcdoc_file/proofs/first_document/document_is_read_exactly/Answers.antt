use Rattle.fcdoc_file.proofs.DocumentLaws.{document_of_some, document_of-text}
use Rattle.fcdoc_file.proofs.WellFormedLaws.{document_is_well_formed}
use Rattle.fcdoc_file.proofs.first_document.document_is_read_exactly.Goals as goal

pub returns-clause-found : goal.returns-clause-found
returns-clause-found c = document_of_some

pub returns-clause-only : goal.returns-clause-only
returns-clause-only c = document_of-text

pub returns-clause-well_formed : goal.returns-clause-well_formed
returns-clause-well_formed c = document_is_well_formed
