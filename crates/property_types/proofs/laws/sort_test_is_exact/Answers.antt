use Rattle.property_types.proofs.Equality.{sort_equal}
use Rattle.property_types.proofs.laws.sort_test_is_exact.Goals as goal

pub returns : goal.returns
returns c = λ a b. sort_equal a b
