use Rattle.doc_rules.proofs.FormLemmas.{edited-form}
use Rattle.doc_rules.proofs.laws.edits_keep_form.Goals as goal

pub returns : goal.returns
returns c = edited-form
