use Rattle.doc_rules.proofs.EditLemmas.{edited-valid}
use Rattle.doc_rules.proofs.laws.accepted_edits_are_valid.Goals as goal

pub returns : goal.returns
returns c = edited-valid
