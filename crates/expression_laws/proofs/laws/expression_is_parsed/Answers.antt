use Rattle.expr_grammar.proofs.ExpressionLemmas.{expression_parses, fault_is_cause}
use Rattle.expression_laws.proofs.laws.expression_is_parsed.Goals as goal

pub returns : goal.returns
returns c = record { tree = expression_parses; fault = fault_is_cause }
