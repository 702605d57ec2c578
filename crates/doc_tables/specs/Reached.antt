-- Private: only contracts inside this crate cite this.
-- What all references lead to, by the numbers of the slots in whose expressions they stand.
use Rattle.std.specs.Prelude.{ℕ, List, map, count_by, sum_by, is_some, Option, IsSome, Vec}
use Rattle.fc_base.specs.declared.ids.SlotId.{SlotId}
use Rattle.doc_tables.specs.Accessors.{AreReached, reached_at}
use Rattle.doc_tables.specs.DependencyLists.{list_at}
use Rattle.doc_tables.specs.Numbered.{Numbered, slot_at}
use Rattle.doc_tables.specs.declared.entry.ObjectEntry.{ObjectEntry}
use Rattle.doc_tables.specs.declared.entry.PropertyEntry.{PropertyEntry}

-- these are what the references of the slot of each number in use name
abbrev pub AreAllReached : Numbered → List (List (Option SlotId)) → Type 0
AreAllReached t lists = (n : ℕ) → IsSome (slot_at t n) → AreReached t (list_at lists n) (reached_at t n)

-- the lists of vectors
abbrev pub lists_of : {A X : Type 0} → List (Vec A X) → List (List A)
lists_of {A} {X} vectors = map (λ (v : Vec A X). v.items) vectors

-- how many of the references of these properties lead to a slot
abbrev pub dependencies_in_properties : List (List (Option SlotId)) → List (List ℕ × PropertyEntry) → ℕ
dependencies_in_properties lists properties = sum_by (λ (e : List ℕ × PropertyEntry). count_by is_some (list_at lists e.1.slot.0)) properties

-- and of those of these objects
abbrev pub dependencies_in_objects : List (List (Option SlotId)) → List (List ℕ × ObjectEntry) → ℕ
dependencies_in_objects lists objects = sum_by (λ (o : List ℕ × ObjectEntry). dependencies_in_properties lists o.1.properties.entries) objects
