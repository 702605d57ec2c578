-- Names and types of the slots of properties, inputs and kinds.
use Rattle.std.specs.Prelude.{ℕ, List, [], ◌∷◌, ◌++◌, map, if◌then◌else◌, codes}
use Rattle.std.specs.List.{flat_map}
use Rattle.object_paths.specs.declared.slot_name.Component as c
use Rattle.object_paths.specs.declared.slot_name.Component.TheVariants.{X, Y, Z, Turn}
use Rattle.object_paths.specs.declared.slot_name.SlotName.{SlotName}
use Rattle.object_paths.specs.declared.slot_name.SlotName.TheVariants.{Plain, Component}
use Rattle.property_types.specs.declared.plan.InputPlan.{InputPlan}
use Rattle.property_types.specs.declared.prop_type.PropType.{PropType}
use Rattle.property_types.specs.declared.prop_type.PropType.TheVariants as prop
use Rattle.property_types.specs.Plans.{Slots}
use Rattle.document_model.specs.declared.kind.ObjectKind.{ObjectKind}
use Rattle.document_model.specs.declared.kind.ObjectKind.TheVariants.{VarSet, Sheet, Link, Feature, Foreign}
use Rattle.document_model.specs.Document.{Object, Property}

-- the components of a placement, in their order
abbrev pub components : List c.Component
components = X ∷ Y ∷ Z ∷ Turn ∷ []

-- the type of a component
abbrev pub type_of_component : c.Component → PropType
type_of_component X = prop.Distance
type_of_component Y = prop.Distance
type_of_component Z = prop.Distance
type_of_component Turn = prop.Turn

-- the slots of a placement of that name
abbrev pub placement_slots : List ℕ → List (SlotName × PropType)
placement_slots name = map (λ k. (Component name k, type_of_component k)) components

-- the slots of a property: four of a placement, one of every other type
abbrev pub property_slots : List ℕ → PropType → List (SlotName × PropType)
property_slots name prop.Placement = placement_slots name
property_slots name type = (Plain name, type) ∷ []

-- the slots of dynamic properties
abbrev pub dynamic_slots : List Property → List (SlotName × PropType)
dynamic_slots properties = flat_map (λ p. property_slots p.name p.prop) properties

-- the slots of a plan's inputs, its Placement aside
abbrev pub unplaced_slots : List InputPlan → List (SlotName × PropType)
unplaced_slots inputs = map (λ i. (Plain i.name, i.prop)) inputs

-- the slots of all of a plan's inputs: where it is placed, a Placement is the last
abbrev pub plan_slots : Slots → List (SlotName × PropType)
plan_slots plan = unplaced_slots plan.inputs ++ (if plan.placed then placement_slots (codes "Placement") else [])

-- the slots of a link that are its own
abbrev pub link_slots : List (SlotName × PropType)
link_slots = placement_slots (codes "Placement") ++ (Plain (codes "LinkTransform"), prop.Bool) ∷ []

-- the slots that an object has by its kind, and in which a content stands
abbrev pub input_slots : ObjectKind → List (SlotName × PropType)
input_slots VarSet = []
input_slots Sheet = []
input_slots Link = link_slots
input_slots (Feature plan) = plan_slots plan
input_slots (Foreign type) = []

-- the slots of an object that a link to it mirrors: inputs without Placement, then dynamic properties
abbrev pub mirrored_by : Object → ObjectKind → List (SlotName × PropType)
mirrored_by o VarSet = dynamic_slots o.dynamics
mirrored_by o Sheet = dynamic_slots o.dynamics
mirrored_by o Link = []
mirrored_by o (Feature plan) = unplaced_slots plan.inputs ++ dynamic_slots o.dynamics
mirrored_by o (Foreign type) = []

abbrev pub mirrored_slots : Object → List (SlotName × PropType)
mirrored_slots o = mirrored_by o o.kind

-- the outputs that are bounds
abbrev pub bound_names : List (List ℕ)
bound_names = codes "MinX" ∷ codes "MinY" ∷ codes "MinZ" ∷ codes "MaxX" ∷ codes "MaxY" ∷ codes "MaxZ" ∷ []
