use Rattle.document_outcomes.proofs.WorkedMoreLemmas.{kinds_of_faults_work, reference_faults_work, sort_faults_work}
use Rattle.document_outcomes.proofs.laws.faults_come_in_order.Goals as goal

pub returns : goal.returns
returns c = record { kinds = kinds_of_faults_work; references = reference_faults_work; sorts = sort_faults_work }
