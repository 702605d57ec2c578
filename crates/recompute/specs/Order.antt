-- Private: only contracts inside this crate cite this.
-- Orders in which the slots of numbers can be worked out.
use Rattle.std.specs.Prelude.{◌≡◌, ℕ, Bool, true, false, List, IsSome, is_some, slice_index_or}
use Rattle.std.specs.List.{filter_map}
use Rattle.fc_base.specs.Graph.{IsIn}
use Rattle.fc_base.specs.declared.ids.SlotId.{SlotId}
use Rattle.document_outcomes.specs.Cycles.{OrdersSlots}
use Rattle.doc_tables.specs.Numbered.{Numbered, slot_at}

-- the test says which numbers are in use
abbrev pub TellsUse : Numbered → List Bool → Type 0
TellsUse t used = (n : ℕ) → slice_index_or used n false ≡ is_some (slot_at t n)

-- these slots are marked by their numbers, and no other number is
pub record MarksAll (slots : List SlotId) (marks : List Bool) : Type 0 where
  pub all : (id : SlotId) → IsIn id slots → slice_index_or marks id.0 false ≡ true
  pub only : (n : ℕ) → slice_index_or marks n false ≡ true → (id : SlotId) × IsIn id slots × (n ≡ id.0)

-- All numbers in use stand in the order, and no other; the slots stand behind their dependencies.
pub record OrdersNumbers (t : Numbered) (order : List ℕ) : Type 0 where
  pub used : (n : ℕ) → IsIn n order → IsSome (slot_at t n)
  pub all : (n : ℕ) → IsSome (slot_at t n) → IsIn n order
  pub ordered : OrdersSlots t.document (filter_map (slot_at t) order)
