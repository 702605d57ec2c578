-- What each slot of a document gives, worked out from the document alone: no marks, no order of work
-- and no earlier outcomes.
use Rattle.std.specs.Prelude.{ℕ, Bool, false, List, [], ◌∷◌, map, length, take, drop, slice_get, Option, Some, None, Ok, Err, ok_or, if◌then◌else◌}
use Rattle.std.specs.Option.{option_and_then, option_map_or}
use Rattle.fc_base.specs.Graph.{full_at}
use Rattle.object_paths.specs.declared.slot_name.Component as c
use Rattle.object_paths.specs.Order.{component_number}
use Rattle.object_paths.specs.Slots.{Slot}
use Rattle.property_types.specs.declared.prop_type.PropType.{PropType}
use Rattle.property_types.specs.declared.value.Value.{Value}
use Rattle.property_types.specs.declared.value.Value.TheVariants.{Flag}
use Rattle.property_types.specs.declared.value.ValueFault.TheVariants.{Range}
use Rattle.property_types.specs.Fits.{fit}
use Rattle.property_types.specs.Plans.{Slots}
use Rattle.property_types.specs.Values.{Outcome}
use Rattle.expr_tree.specs.References.{Reference, references}
use Rattle.expr_tree.specs.Tree.{Tree}
use Rattle.expr_eval.specs.Firsts.{on_one, all_of}
use Rattle.expr_eval.specs.Outcomes.{Reading, outcome_of}
use Rattle.document_model.specs.Document.{Document, Object, object_named}
use Rattle.document_model.specs.Ends.{plan_behind}
use Rattle.document_model.specs.Slots.{Rule, own, bound, inherit, global, output, slots, type_of, rule_of}
use Rattle.document_model.specs.Dependencies.{slot_reached, cells_reached, deps}

-- What a document leaves to others. It names plans and placements; what a plan's feature gives and
-- how placements compose are handed in, so that no definition of documents changes with a feature.
pub record Meanings : Type 0 where
  -- the outcomes of a plan's outputs, in their order, by the values of its input list
  pub gives : Slots → List Value → List Outcome
  -- a part of a link's own placement after that of its target, which is moved and turned by the own one;
  -- each is its four parts in order. Where a coordinate leaves the bound of amounts, all four are Range
  pub composed : (own target : List Value) → c.Component → Outcome

-- what a slot that is named has. A fault stands where none is named, and nothing rests on it
abbrev pub at_slot : (Slot → Outcome) → Option Slot → Outcome
at_slot w None = Err Range
at_slot w (Some s) = w s

-- what the filled cells of a reference have, by row and column
abbrev pub in_cells : Document → Object → (Slot → Outcome) → Option Reference → List Outcome
in_cells d o w None = []
in_cells d o w (Some r) = map w (cells_reached d o r)

-- what the references of an object's expression have, by their numbers
abbrev pub reading : Document → Object → Tree → (Slot → Outcome) → Reading
reading d o e w = record {
  at = λ k. at_slot w (option_and_then (slot_reached d o) (slice_get (references e) k));
  inside = λ k. in_cells d o w (slice_get (references e) k);
}

-- what is given to a slot, as the slot's type has it; a cell takes it as it is
abbrev pub fitted : Option PropType → Outcome → Outcome
fitted None given = given
fitted (Some type) given = on_one (fit type) given

-- the first of a list, and a fault where there is none
abbrev pub first_of : List Outcome → Outcome
first_of [] = Err Range
first_of (given ∷ more) = given

-- one of a list by its number, and a fault past its end
abbrev pub numbered : List Outcome → ℕ → Outcome
numbered given k = first_of (drop k given)

-- a flag that is set
abbrev pub is_set : Option Value → Bool
is_set (Some (Flag set)) = set
is_set _ = false

-- a part of a placement that is its four parts in order
abbrev pub part_of : List Value → c.Component → Outcome
part_of parts k = ok_or (slice_get parts (component_number k)) Range

-- A part of a placement in the document, by what its rule reads: the four parts of the Placement, and
-- for a link LinkTransform and then the target's global placement, which counts where the flag is set.
abbrev pub global_part : Meanings → c.Component → List Value → Outcome
global_part m k values =
    if is_set (slice_get values 4) then m.composed (take 4 values) (drop 5 values) k else part_of (take 4 values) k

-- an output of a plan, by the values of its input list
abbrev pub output_part : Meanings → Option Slots → ℕ → List Value → Outcome
output_part m None k values = Err Range
output_part m (Some plan) k values = numbered (m.gives plan values) k

-- What a rule gives a slot of an object. A part of the global placement and an output have the first
-- fault of what they read, where there is one.
abbrev pub outcome_by_rule : Meanings → Document → Slot → Object → (Slot → Outcome) → Option Rule → Outcome
outcome_by_rule m d s o w None = Err Range
outcome_by_rule m d s o w (Some (own v)) = Ok v
outcome_by_rule m d s o w (Some (bound e)) = fitted (type_of d s) (outcome_of (reading d o e w) 0 e)
outcome_by_rule m d s o w (Some (inherit t)) = first_of (map w (deps d s))
outcome_by_rule m d s o w (Some (global k)) = on_one (global_part m k) (all_of (map w (deps d s)))
outcome_by_rule m d s o w (Some (output k)) = on_one (output_part m (plan_behind d o) k) (all_of (map w (deps d s)))

-- what the rule of a slot gives from what the slots have that it depends on
unfoldable pub local : Meanings → Document → Slot → (Slot → Outcome) → Outcome
local m d s w = option_map_or (λ o. outcome_by_rule m d s o w (rule_of d s)) (object_named d s.object) (Err Range)

-- the outcome of a slot: what its rule gives from the outcomes of the slots that it depends on. A
-- chain of dependencies is no longer than there are slots
unfoldable pub full : Meanings → Document → Slot → Outcome
full m d s = full_at (local m d) (Err Range) (length (slots d)) s
