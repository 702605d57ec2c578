-- Plans: the slots that a feature gives its objects.
use Rattle.std.specs.Prelude.{ℕ, Bool, List}
use Rattle.property_types.specs.declared.plan.InputPlan.{InputPlan}
use Rattle.property_types.specs.declared.plan.OutputPlan.{OutputPlan}

-- A plan's slots: inputs, then outputs; a placed one has a Placement and a global placement too.
pub record Slots : Type 0 where
  pub type_name : List ℕ
  pub inputs : List InputPlan
  pub outputs : List OutputPlan
  pub placed : Bool
  pub members : Bool
