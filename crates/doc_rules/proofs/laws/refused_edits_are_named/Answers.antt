use Rattle.doc_rules.proofs.EditLemmas.{edited-named}
use Rattle.doc_rules.proofs.laws.refused_edits_are_named.Goals as goal

pub returns : goal.returns
returns c = edited-named
