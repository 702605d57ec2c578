use Rattle.document_outcomes.proofs.SortLemmas.{local_sort-reads}
use Rattle.document_outcomes.proofs.laws.sorts_read_dependencies_alone.Goals as goal

pub returns : goal.returns
returns c = λ d. local_sort-reads d
