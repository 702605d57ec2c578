use Rattle.document_model.proofs.WorkedLemmas.{kinds_work, edits_work, counts_work, types_work}
use Rattle.document_model.proofs.laws.forms_work.Goals as goal

pub returns : goal.returns
returns c = record { kinds = kinds_work; edits = edits_work; counts = counts_work; types = types_work }
