-- What an expression gives for values is a value: an amount stays in its bound, a unit keeps its
-- exponents, and a text is a text value.
use Rattle.std.specs.Prelude.{◌≡◌, ℕ, Ok}
use Rattle.fc_base.specs.Graph.{IsIn}
use Rattle.property_types.specs.declared.value.Value.{Value}
use Rattle.property_types.specs.Values.{IsValue}
use Rattle.expr_tree.specs.Tree.{Tree}
use Rattle.expr_tree.specs.Spelled.{IsSpelled}
use Rattle.expr_eval.specs.Outcomes.{Reading, outcome_of}

-- what stands behind the references, where it is no fault, is a value
pub record GivesValues (r : Reading) : Type 0 where
  pub at : (k : ℕ) (v : Value) → r.at k ≡ Ok v → IsValue v
  pub inside : (k : ℕ) (v : Value) → IsIn (Ok v) (r.inside k) → IsValue v

-- so is what an expression that can be spelled gives
abbrev pub OutcomesAreValues : Type 0
OutcomesAreValues =
    (r : Reading) (k : ℕ) (t : Tree) (v : Value) → GivesValues r → IsSpelled t → outcome_of r k t ≡ Ok v → IsValue v
