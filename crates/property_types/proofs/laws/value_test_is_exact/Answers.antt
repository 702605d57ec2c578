use Rattle.property_types.proofs.Equality.{value_equal}
use Rattle.property_types.proofs.laws.value_test_is_exact.Goals as goal

pub returns : goal.returns
returns c = λ a b. value_equal a b
