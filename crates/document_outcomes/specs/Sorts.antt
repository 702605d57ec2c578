-- The sort of each slot of a document: what values it has, or why it can have none.
use Rattle.std.specs.Prelude.{ℤ, ◌||◌, List, [], map, length, slice_get, Option, Some, None, Ok, Err, if◌then◌else◌}
use Rattle.std.specs.Option.{option_and_then, option_map_or}
use Rattle.fc_base.specs.Graph.{full_at}
use Rattle.unit_signatures.specs.Units.{pure}
use Rattle.object_paths.specs.Slots.{Slot}
use Rattle.property_types.specs.declared.prop_type.PropType.{PropType}
use Rattle.property_types.specs.declared.prop_type.Sort.{Sort}
use Rattle.property_types.specs.declared.prop_type.Sort.TheVariants.{Number, Flag, Text}
use Rattle.property_types.specs.declared.value.Value.{Value}
use Rattle.property_types.specs.Sorts.{sort_of_value}
use Rattle.property_types.specs.Types.{sort_of_type}
use Rattle.property_types.specs.Values.{same_unit}
use Rattle.expr_tree.specs.References.{Reference, references}
use Rattle.expr_tree.specs.Tree.{Tree}
use Rattle.expr_eval.specs.declared.sort_cause.SortCause.TheVariants.{UnitMismatch, KindMismatch}
use Rattle.expr_eval.specs.Firsts.{on_one}
use Rattle.expr_eval.specs.SortRows.{SortOutcome, one_sort}
use Rattle.expr_eval.specs.Sorts.{SortReading, sort_of}
use Rattle.document_model.specs.Document.{Document, Object, object_named}
use Rattle.document_model.specs.Slots.{Rule, own, bound, inherit, global, output, slots, type_of, rule_of}
use Rattle.document_model.specs.Dependencies.{slot_reached, cells_reached}

-- the sort of a slot that is named. A cause stands where none is named, and nothing rests on it
abbrev pub sort_at : (Slot → SortOutcome) → Option Slot → SortOutcome
sort_at w None = Err KindMismatch
sort_at w (Some s) = w s

-- the sorts of the filled cells of a reference, by row and column
abbrev pub sorts_in_cells : Document → Object → (Slot → SortOutcome) → Option Reference → List SortOutcome
sorts_in_cells d o w None = []
sorts_in_cells d o w (Some r) = map w (cells_reached d o r)

-- the sorts of the references of an object's expression, by their numbers
abbrev pub sort_reading : Document → Object → Tree → (Slot → SortOutcome) → SortReading
sort_reading d o e w = record {
  at = λ k. sort_at w (option_and_then (slot_reached d o) (slice_get (references e) k));
  inside = λ k. sorts_in_cells d o w (slice_get (references e) k);
}

-- a number that is given to a type with that unit is of the unit, or pure
abbrev pub number_given : List ℤ → List ℤ → SortOutcome
number_given wanted unit = if same_unit wanted unit || same_unit pure unit then Ok (Number wanted) else Err UnitMismatch

-- what an expression of a sort gives a type of a sort: that of the type, where it can be fitted
abbrev pub given_sort : Sort → Sort → SortOutcome
given_sort (Number wanted) (Number unit) = number_given wanted unit
given_sort Flag Flag = Ok Flag
given_sort Text Text = Ok Text
given_sort _ _ = Err KindMismatch

-- the sort of an expression in a slot; a cell takes it as it is
abbrev pub bound_sort : Option PropType → SortOutcome → SortOutcome
bound_sort None found = found
bound_sort (Some type) found = on_one (given_sort (sort_of_type type)) found

-- The sort of an own value in a slot. In an override the value may be of another sort than the slot's
-- type, and then there is none; a pure number is in another unit than that of a length.
abbrev pub own_sort : Option PropType → Value → SortOutcome
own_sort None v = Ok (sort_of_value v)
own_sort (Some type) v = one_sort (sort_of_type type) (sort_of_value v)

-- the sort of a type
abbrev pub type_sort : Option PropType → SortOutcome
type_sort None = Err KindMismatch
type_sort (Some type) = Ok (sort_of_type type)

-- the sort that a rule gives a slot of an object: what is inherited or worked out has that of the type
abbrev pub sort_by_rule : Document → Slot → Object → (Slot → SortOutcome) → Option Rule → SortOutcome
sort_by_rule d s o w None = Err KindMismatch
sort_by_rule d s o w (Some (own v)) = own_sort (type_of d s) v
sort_by_rule d s o w (Some (bound e)) = bound_sort (type_of d s) (sort_of (sort_reading d o e w) 0 e)
sort_by_rule d s o w (Some (inherit t)) = type_sort (type_of d s)
sort_by_rule d s o w (Some (global k)) = type_sort (type_of d s)
sort_by_rule d s o w (Some (output k)) = type_sort (type_of d s)

-- the sort of a slot by the sorts of the slots that it depends on
unfoldable pub local_sort : Document → Slot → (Slot → SortOutcome) → SortOutcome
local_sort d s w = option_map_or (λ o. sort_by_rule d s o w (rule_of d s)) (object_named d s.object) (Err KindMismatch)

-- the sort of a slot, or why it has none
unfoldable pub sort : Document → Slot → SortOutcome
sort d s = full_at (local_sort d) (Err KindMismatch) (length (slots d)) s
