use Rattle.expr_grammar.proofs.ClosedLemmas.{closed_has_no_references}
use Rattle.expression_laws.proofs.laws.closed_has_no_references.Goals as goal

pub returns : goal.returns
returns c = closed_has_no_references
