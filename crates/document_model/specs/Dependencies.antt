-- The slots on which a slot depends. Each is found by a look-up, so it is a slot of the document.
use Rattle.std.specs.Prelude.{ℕ, Bool, false, List, [], ◌∷◌, ◌++◌, map, Option, Some, None, unwrap_or, if◌then◌else◌, codes}
use Rattle.std.specs.List.{filter, filter_map, flat_map}
use Rattle.std.specs.Option.{option_map, option_and_then, option_map_or, option_to_list}
use Rattle.fc_base.specs.Places.{Block, is_within}
use Rattle.object_paths.specs.declared.slot_name.SlotName.{SlotName}
use Rattle.object_paths.specs.declared.slot_name.SlotName.TheVariants.{Plain, Component, Marked}
use Rattle.object_paths.specs.Slots.{Slot}
use Rattle.property_types.specs.Plans.{Slots}
use Rattle.expr_tree.specs.Tree.{Tree}
use Rattle.expr_tree.specs.References.{Reference, to_path, to_area, references}
use Rattle.document_model.specs.declared.kind.ObjectKind.{ObjectKind}
use Rattle.document_model.specs.declared.kind.ObjectKind.TheVariants.{VarSet, Sheet, Link, Feature, Foreign}
use Rattle.document_model.specs.Document.{Document, Object, object_named}
use Rattle.document_model.specs.Ends.{end_of, plan_of_kind, has_bounds}
use Rattle.document_model.specs.TypedSlots.{components, bound_names}
use Rattle.document_model.specs.Slots.{Rule, own, bound, inherit, global, output, rows, slot_of, rule_of}
use Rattle.document_model.specs.Resolution.{resolve, slot_in}

-- the slot, where the document has it
abbrev pub existing : Document → Slot → Option Slot
existing d s = option_and_then (λ o. slot_in d o s.name) (object_named d s.object)

-- the slot that a reference of an object's expression names
abbrev pub slot_reached : Document → Object → Reference → Option Slot
slot_reached d o (to_path p) = resolve d o p
slot_reached d o (to_area area) = None

-- a cell in an area
abbrev pub is_cell_within : Block → SlotName → Bool
is_cell_within area (Plain name) = false
is_cell_within area (Component name k) = false
is_cell_within area (Marked p) = is_within area p

-- the filled cells that a reference of an object's expression names, by row and column
abbrev pub cells_reached : Document → Object → Reference → List Slot
cells_reached d o (to_path p) = []
cells_reached d o (to_area area) = map (λ r. slot_of o r.name) (filter (λ r. is_cell_within area r.name) (rows d o))

-- the slots of an expression's paths from the left, then the cells of its areas, area by area
abbrev pub slots_of_tree : Document → Object → Tree → List Slot
slots_of_tree d o e =
    flat_map (λ r. option_to_list (slot_reached d o r)) (references e) ++ flat_map (cells_reached d o) (references e)

-- the four parts of an object's placement of that name
abbrev pub placement_of : List ℕ → Object → List Slot
placement_of name o = map (λ k. slot_of o (Component name k)) components

-- the four parts of an object's global placement
abbrev pub global_slots : List ℕ → List Slot
global_slots object = map (λ k. record { object = object; name = Component (codes "Global") k }) components

-- what a link's global placement reads beside its own Placement
abbrev pub link_slots_read : Object → ObjectKind → List Slot
link_slots_read o VarSet = []
link_slots_read o Sheet = []
link_slots_read o Link = slot_of o (Plain (codes "LinkTransform")) ∷ global_slots (unwrap_or o.target [])
link_slots_read o (Feature plan) = []
link_slots_read o (Foreign type) = []

-- the placement in the input list of an object, by its name
abbrev pub placed_by : ObjectKind → List ℕ
placed_by VarSet = codes "Placement"
placed_by Sheet = codes "Placement"
placed_by Link = codes "Global"
placed_by (Feature plan) = codes "Placement"
placed_by (Foreign type) = codes "Placement"

-- the inputs of a plan as slots of an object that has them, its own or mirrored
abbrev pub plan_inputs : Object → Slots → List Slot
plan_inputs o plan =
    map (λ i. slot_of o (Plain i.name)) plan.inputs ++ (if plan.placed then placement_of (placed_by o.kind) o else [])

-- the six bounds of a member, none where it is not there or has no bounds
abbrev pub bounds_of : Document → List ℕ → List Slot
bounds_of d name =
    option_map_or (λ m. if has_bounds d m then map (λ n. slot_of m (Plain n)) bound_names else []) (object_named d name) []

-- the input list of a feature, or of a link whose end is one: the inputs, then the bounds of members
abbrev pub inputs_behind : Document → Object → Object → Option (List Slot)
inputs_behind d o end = option_map (λ plan. plan_inputs o plan ++ flat_map (bounds_of d) end.members) (plan_of_kind end.kind)

abbrev pub inputs_of : Document → Object → Option (List Slot)
inputs_of d o = option_and_then (inputs_behind d o) (end_of d o)

-- the dependencies by the rule: none of an own value, one of an inherited slot
abbrev pub deps_by : Document → Object → Option Rule → List Slot
deps_by d o None = []
deps_by d o (Some (own v)) = []
deps_by d o (Some (bound e)) = slots_of_tree d o e
deps_by d o (Some (inherit s)) = filter_map (existing d) (s ∷ [])
deps_by d o (Some (global k)) = filter_map (existing d) (placement_of (codes "Placement") o ++ link_slots_read o o.kind)
deps_by d o (Some (output k)) = filter_map (existing d) (unwrap_or (inputs_of d o) [])

-- the dependencies of a slot in their order; a slot that is named again stands again
unfoldable pub deps : Document → Slot → List Slot
deps d s = option_map_or (λ o. deps_by d o (rule_of d s)) (object_named d s.object) []
