-- Private: only contracts inside this crate cite this.
-- Sorts of slots by their numbers.
use Rattle.std.specs.Prelude.{◌≡◌, ℕ, ◌<◌, Bool, true, false, IsSome, List, [], length, slice_index_or, Option, Some, None, Ok, Err}
use Rattle.std.specs.List.{filter_map}
use Rattle.std.specs.Option.{option_and_then, option_map_or}
use Rattle.fc_base.specs.Graph.{IsIn}
use Rattle.fc_base.specs.declared.ids.SlotId.{SlotId}
use Rattle.object_paths.specs.Slots.{Slot}
use Rattle.property_types.specs.declared.prop_type.Sort.{Sort}
use Rattle.property_types.specs.declared.value.Value.{Value}
use Rattle.property_types.specs.Sorts.{sort_of_value}
use Rattle.expr_eval.specs.declared.sort_cause.SortCause.TheVariants.{KindMismatch}
use Rattle.expr_eval.specs.Firsts.{on_one}
use Rattle.expr_eval.specs.SortRows.{SortOutcome, one_sort}
use Rattle.expr_eval.specs.Sorts.{SortReading}
use Rattle.document_model.specs.Document.{Object, object_named}
use Rattle.doc_tables.specs.Numbered.{Numbered, at_number, number_of, slot_at}
use Rattle.document_outcomes.specs.Cycles.{OrdersSlots}
use Rattle.document_outcomes.specs.Sorts.{given_sort, sort}

-- the sort of a number; a cause stands past the last, and nothing rests on it
abbrev pub sort_in : List SortOutcome → ℕ → SortOutcome
sort_in sorts n = slice_index_or sorts n (Err KindMismatch)

-- the sort of a slot in a table
abbrev pub sort_by_number : Numbered → List SortOutcome → Slot → SortOutcome
sort_by_number t sorts s = option_map_or (sort_in sorts) (number_of t s) (Err KindMismatch)

-- Each slot has its sort in the table.
pub record AreSorts (t : Numbered) (sorts : List SortOutcome) : Type 0 where
  pub sized : length sorts ≡ length t.slots
  pub each : (n : ℕ) (s : Slot) → slot_at t n ≡ Some s → sort_in sorts n ≡ sort t.document s

-- All slots stand in the order of the numbers, each behind its dependencies.
pub record OrdersNumbers (t : Numbered) (order : List ℕ) : Type 0 where
  pub slots : OrdersSlots t.document (filter_map (slot_at t) order)
  pub inside : (n : ℕ) → IsIn n order → n < length t.slots

-- the sorts behind references
abbrev pub reading_behind : List (Option SlotId) → List SortOutcome → SortReading
reading_behind ids sorts = record {
  at = λ k. option_map_or (λ (id : SlotId). sort_in sorts id.0) (at_number ids k) (Err KindMismatch);
  inside = λ k. [];
}

-- the object of the slot of a number
abbrev pub object_behind : Numbered → ℕ → Option Object
object_behind t n = option_and_then (λ (s : Slot). object_named t.document s.object) (slot_at t n)

-- the sort of an own value in a slot that wants a sort; a cell wants none
abbrev pub own_as : Option Sort → Value → SortOutcome
own_as None v = Ok (sort_of_value v)
own_as (Some wanted) v = one_sort wanted (sort_of_value v)

-- what a slot that wants a sort makes of a sort
abbrev pub given_as : Option Sort → SortOutcome → SortOutcome
given_as None found = found
given_as (Some wanted) found = on_one (given_sort wanted) found

-- the sort that a slot wants
abbrev pub wanted_as : Option Sort → SortOutcome
wanted_as None = Err KindMismatch
wanted_as (Some wanted) = Ok wanted

-- The marks of the numbers that are those of slots.
pub record MarksNumbers (t : Numbered) (marks : List Bool) : Type 0 where
  pub sized : length marks ≡ length t.slots
  pub marked : (n : ℕ) → slice_index_or marks n false ≡ true → IsSome (slot_at t n)
  pub unmarked : (n : ℕ) → slice_index_or marks n false ≡ false → slot_at t n ≡ None
