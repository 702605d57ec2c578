use Rattle.document_outcomes.proofs.WorkedLemmas as lemma
use Rattle.document_outcomes.proofs.laws.sheets_and_links_work.Goals as goal

pub returns-clause-sheet : goal.returns-clause-sheet
returns-clause-sheet c = λ m. lemma.sheet_works m

pub returns-clause-links : goal.returns-clause-links
returns-clause-links c = λ m. lemma.links_work m

pub returns-clause-faults : goal.returns-clause-faults
returns-clause-faults c = lemma.link_faults_work
