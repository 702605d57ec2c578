use Rattle.doc_rules.proofs.EditLemmas.{first_fault-named}
use Rattle.doc_rules.proofs.laws.faults_are_named.Goals as goal

pub returns : goal.returns
returns c = first_fault-named
