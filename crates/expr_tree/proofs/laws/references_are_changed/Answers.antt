use Rattle.expr_tree.proofs.ReferenceLemmas.{references-with}
use Rattle.expr_tree.proofs.laws.references_are_changed.Goals as goal

pub returns : goal.returns
returns c = references-with
