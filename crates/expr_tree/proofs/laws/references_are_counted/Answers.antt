use Rattle.expr_tree.proofs.ReferenceLemmas.{length-references}
use Rattle.expr_tree.proofs.laws.references_are_counted.Goals as goal

pub returns : goal.returns
returns c = length-references
