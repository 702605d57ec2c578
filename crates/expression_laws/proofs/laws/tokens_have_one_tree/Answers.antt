use Rattle.expr_grammar.proofs.OneTree.{one-tree}
use Rattle.expression_laws.proofs.laws.tokens_have_one_tree.Goals as goal

pub returns : goal.returns
returns c = one-tree
