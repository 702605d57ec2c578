use Rattle.expr_grammar.proofs.ReadBack.{printed_is_tree, printed_is_read}
use Rattle.expression_laws.proofs.laws.printed_form_is_read.Goals as goal

pub returns : goal.returns
returns c = record { has_tree = printed_is_tree; is_read = printed_is_read }
