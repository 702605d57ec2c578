use Rattle.expr_eval.proofs.SameLemmas.{outcome-same}
use Rattle.expr_eval.proofs.laws.no_wrong_operands.Goals as goal

pub returns : goal.returns
returns c = λ s r agrees k t sort e wrong other. outcome-same s r agrees wrong other k t sort e
