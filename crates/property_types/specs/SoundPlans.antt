-- Plans that a feature may have.
use Rattle.std.specs.Prelude.{◌≡◌, ℕ, Bool, true, false, ◌&&◌, not, nat_lt, nat_le, List, ◌++◌, map, length, Ok, IsTrue}
use Rattle.std.specs.List.{list_all, AllByRecursion}
use Rattle.fc_base.specs.Texts.{is_name, is_text_value}
use Rattle.property_types.specs.declared.plan.InputPlan.{InputPlan}
use Rattle.property_types.specs.declared.prop_type.PropType.{PropType}
use Rattle.property_types.specs.declared.prop_type.PropType.TheVariants.{Placement, Turn}
use Rattle.property_types.specs.Fits.{fit}
use Rattle.property_types.specs.Reserved.{is_among, are_distinct, is_reserved, own_types}
use Rattle.property_types.specs.Plans.{Slots}

-- 1 to 128 bytes without spaces and control characters, and no type of an object that is no feature
abbrev pub is_feature_type : List ℕ → Bool
is_feature_type type = is_text_value type && nat_lt 0 (length type) && nat_le (length type) 128 && list_all (nat_lt 32) type && not (is_among type own_types)

-- a type whose values take one slot
abbrev pub is_slot_type : PropType → Bool
is_slot_type Placement = false
is_slot_type Turn = false
is_slot_type _ = true

-- a name that a property may have
abbrev pub is_property_name : List ℕ → Bool
is_property_name name = is_name name && not (is_reserved name)

-- the names of the inputs, and then those of the outputs
abbrev pub plan_names : Slots → List (List ℕ)
plan_names plan = map (λ i. i.name) plan.inputs ++ map (λ o. o.name) plan.outputs

-- the types of the inputs, and then those of the outputs
abbrev pub plan_types : Slots → List PropType
plan_types plan = map (λ i. i.prop) plan.inputs ++ map (λ o. o.prop) plan.outputs

-- an input whose default is a value of its type
abbrev pub HasFittingDefault : InputPlan → Type 0
HasFittingDefault i = fit i.prop i.default ≡ Ok i.default

-- A plan with a good type name, distinct good names, types of one slot and fitting defaults.
pub record IsSound (plan : Slots) : Type 0 where
  pub type_name : IsTrue (is_feature_type plan.type_name)
  pub names : IsTrue (list_all is_property_name (plan_names plan))
  pub distinct : IsTrue (are_distinct (plan_names plan))
  pub types : IsTrue (list_all is_slot_type (plan_types plan))
  pub defaults : AllByRecursion HasFittingDefault plan.inputs
