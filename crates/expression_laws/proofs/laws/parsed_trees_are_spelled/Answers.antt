use Rattle.expr_grammar.proofs.SpelledTrees.{parsed_is_spelled}
use Rattle.expression_laws.proofs.laws.parsed_trees_are_spelled.Goals as goal

pub returns : goal.returns
returns c = parsed_is_spelled
