-- What a rename leaves as it was.
use Rattle.std.specs.Prelude.{◌≡◌, ℕ, List, map}
use Rattle.fc_base.specs.Graph.{IsIn}
use Rattle.object_paths.specs.Slots.{Slot}
use Rattle.document_model.specs.Dependencies.{deps}
use Rattle.document_model.specs.Document.{Document}
use Rattle.document_model.specs.Renamed.{Thing, object, CanBeRenamed, moved_slot, renamed}
use Rattle.document_model.specs.Slots.{slots}
use Rattle.document_model.specs.WellFormed.{IsWellFormed}
use Rattle.document_outcomes.specs.Faults.{IsValid}
use Rattle.document_outcomes.specs.Full.{Meanings, full}

-- each slot has, under its new name, the outcome that it had
abbrev pub KeepsOutcomes : Document → Thing → List ℕ → Type 0
KeepsOutcomes d thing new = (m : Meanings) (s : Slot) → IsIn s (slots d) → full m (renamed d thing new) (moved_slot d thing new s) ≡ full m d s

-- each slot depends, under its new name, on the slots on which it depended, under theirs
abbrev pub KeepsDependencies : Document → Thing → List ℕ → Type 0
KeepsDependencies d thing new =
    (s : Slot) → IsIn s (slots d) → deps (renamed d thing new) (moved_slot d thing new s) ≡ map (moved_slot d thing new) (deps d s)

-- the slots are the same, in their order, under their new names
abbrev pub KeepsSlots : Document → Thing → List ℕ → Type 0
KeepsSlots d thing new = slots (renamed d thing new) ≡ map (moved_slot d thing new) (slots d)

-- in a well-formed and valid document of any kinds of objects, a label that is good and free takes the place of an object's
abbrev pub RelabellingsKeepOutcomes : Type 0
RelabellingsKeepOutcomes =
    (d : Document) (name new : List ℕ) → IsWellFormed d → IsValid d → CanBeRenamed d (object name) new → KeepsOutcomes d (object name) new

abbrev pub RelabellingsKeepDependencies : Type 0
RelabellingsKeepDependencies =
    (d : Document) (name new : List ℕ) → IsWellFormed d → IsValid d → CanBeRenamed d (object name) new → KeepsDependencies d (object name) new

-- and so do the slots of any document, whatever the label
abbrev pub RelabellingsKeepSlots : Type 0
RelabellingsKeepSlots = (d : Document) (name new : List ℕ) → KeepsSlots d (object name) new
