-- The dependencies of all slots, by numbers.
use Rattle.std.specs.Prelude.{◌≡◌, ◌<◌, ℕ, List, [], map, length, slice_get, unwrap_or, Some}
use Rattle.doc_tables.specs.Accessors.{deps_at}
use Rattle.doc_tables.specs.Numbered.{Numbered, slot_at}

-- the list of a number, empty past the last
abbrev pub list_at : {A : Type 0} → List (List A) → ℕ → List A
list_at lists n = unwrap_or (slice_get lists n) []

-- Each number has the list of the numbers of the slots on which its slot depends.
pub record AreDependencyLists (t : Numbered) (lists : List (List ℕ)) : Type 0 where
  pub count : length lists ≡ length t.slots
  pub each : (n : ℕ) → n < length lists → map (slot_at t) (list_at lists n) ≡ map Some (deps_at t n)
