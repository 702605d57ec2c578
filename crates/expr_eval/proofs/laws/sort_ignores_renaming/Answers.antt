use Rattle.expr_eval.proofs.SpellingLemmas.{sort-numbered}
use Rattle.expr_eval.proofs.laws.sort_ignores_renaming.Goals as goal

pub returns : goal.returns
returns c = λ on_path on_area n r k t. sort-numbered on_path on_area r n k t
