use Rattle.document_model.proofs.RelabelledForm.{IsWellFormed-relabelled}
use Rattle.document_model.proofs.laws.relabellings_keep_form.Goals as goal

pub returns : goal.returns
returns c = λ d name new is good. IsWellFormed-relabelled d name new good is
