-- An expression that has a sort gives a value of that sort or a value fault, and no operation in it
-- meets an operand that it does not want.
use Rattle.std.specs.Prelude.{◌≡◌, ℕ, List, [], ◌∷◌, Ok, Err}
use Rattle.property_types.specs.declared.prop_type.Sort.{Sort}
use Rattle.property_types.specs.declared.value.ValueFault.{ValueFault}
use Rattle.property_types.specs.Sorts.{sort_of_value}
use Rattle.property_types.specs.Values.{Outcome}
use Rattle.expr_tree.specs.Tree.{Tree}
use Rattle.expr_eval.specs.SortRows.{SortOutcome}
use Rattle.expr_eval.specs.Sorts.{SortReading, sort_of}
use Rattle.expr_eval.specs.Outcomes.{Reading, outcome_by, outcome_of}

-- a fault, or a value of the sort where there is one
abbrev pub IsOfSort : SortOutcome → Outcome → Type 0
IsOfSort sort (Ok v) = (s : Sort) → sort ≡ Ok s → sort_of_value v ≡ s
IsOfSort sort (Err fault) = Unit {0}

-- as many outcomes as sorts, each of its sort
abbrev pub AreOfSorts : List SortOutcome → List Outcome → Type 0
AreOfSorts [] [] = Unit {0}
AreOfSorts (s ∷ ss) (o ∷ os) = IsOfSort s o × AreOfSorts ss os
AreOfSorts [] (o ∷ os) = ⊥
AreOfSorts (s ∷ ss) [] = ⊥

-- what stands behind the references is of the sorts there
pub record Agrees (s : SortReading) (r : Reading) : Type 0 where
  pub at : (k : ℕ) → IsOfSort (s.at k) (r.at k)
  pub inside : (k : ℕ) → AreOfSorts (s.inside k) (r.inside k)

-- an expression with a sort has a value of its sort, or a fault
abbrev pub OutcomeHasSort : Type 0
OutcomeHasSort =
    (s : SortReading) (r : Reading) → Agrees s r → (k : ℕ) (t : Tree) → IsOfSort (sort_of s k t) (outcome_of r k t)

-- in an expression with a sort it makes no difference what an operation gives on operands that it
-- does not want
abbrev pub NoWrongOperands : Type 0
NoWrongOperands =
    (s : SortReading) (r : Reading) → Agrees s r → (k : ℕ) (t : Tree) (sort : Sort) → sort_of s k t ≡ Ok sort
    → (wrong other : ValueFault) → outcome_by wrong r k t ≡ outcome_by other r k t
