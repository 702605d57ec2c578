use Rattle.expr_eval.proofs.SpellingLemmas.{visited-numbered}
use Rattle.expr_eval.proofs.laws.visits_ignore_renaming.Goals as goal

pub returns : goal.returns
returns c = λ on_path on_area n r k t. visited-numbered on_path on_area r n k t
