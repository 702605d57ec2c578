use Rattle.expression_laws.proofs.PathExpressions.{paths_have_tokens, paths_are_expressions}
use Rattle.expression_laws.proofs.laws.paths_are_read_as_expressions.Goals as goal

pub returns : goal.returns
returns c = record { tokens = paths_have_tokens; expressions = paths_are_expressions }
