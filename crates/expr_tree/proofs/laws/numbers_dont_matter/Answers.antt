use Rattle.expr_tree.proofs.NumberedLemmas.{with_numbered-const}
use Rattle.expr_tree.proofs.laws.numbers_dont_matter.Goals as goal

pub returns : goal.returns
returns c = λ on_path on_area k t. with_numbered-const on_path on_area k t
