-- Documents whose objects and slots have numbers.
use Rattle.std.specs.Prelude.{◌≡◌, ◌↔◌, ℕ, false, List, slice_get, position, is_some, Option, Some, IsTrue}
use Rattle.std.specs.Option.{option_and_then, option_map_or}
use Rattle.fc_base.specs.Graph.{IsIn}
use Rattle.object_paths.specs.Slots.{Slot, same_slot, same_text}
use Rattle.document_model.specs.Document.{Document, Object, object_named}
use Rattle.document_model.specs.Slots.{slots}

-- A document with the numbers of its objects and slots.
pub record Numbered : Type 0 where
  pub document : Document
  -- the name of the object of each number, none where a number is not in use
  pub objects : List (Option (List ℕ))
  -- the slot of each number, none where a number is not in use
  pub slots : List (Option Slot)

-- what has that number
abbrev pub at_number : {A : Type 0} → List (Option A) → ℕ → Option A
at_number things n = option_and_then (λ x. x) (slice_get things n)

-- the slot of a number
abbrev pub slot_at : Numbered → ℕ → Option Slot
slot_at t n = at_number t.slots n

-- the name of the object of a number
abbrev pub name_at : Numbered → ℕ → Option (List ℕ)
name_at t n = at_number t.objects n

-- the object of a number
abbrev pub object_at : Numbered → ℕ → Option Object
object_at t n = option_and_then (object_named t.document) (name_at t n)

-- the number of a slot
abbrev pub number_of : Numbered → Slot → Option ℕ
number_of t s = position (λ x. option_map_or (same_slot s) x false) t.slots

-- the number of the object of a name
abbrev pub number_of_object : Numbered → List ℕ → Option ℕ
number_of_object t name = position (λ x. option_map_or (same_text name) x false) t.objects

-- Numbers in use and slots are one to one, and so are numbers and objects.
pub record IsNumbered (t : Numbered) : Type 0 where
  pub slot_numbers : (n : ℕ) (s : Slot) → (slot_at t n ≡ Some s) ↔ (number_of t s ≡ Some n)
  pub all_slots : (s : Slot) → IsIn s (slots t.document) ↔ IsTrue (is_some (number_of t s))
  pub object_numbers : (n : ℕ) (name : List ℕ) → (name_at t n ≡ Some name) ↔ (number_of_object t name ≡ Some n)
  pub all_objects : (name : List ℕ) → IsTrue (is_some (object_named t.document name)) ↔ IsTrue (is_some (number_of_object t name))

-- What stands before and after keeps its number; which number a new one gets is nobody's business.
pub record Keeps (before after : Numbered) : Type 0 where
  pub objects : (n : ℕ) (name : List ℕ) → name_at before n ≡ Some name → IsTrue (is_some (object_named after.document name)) → name_at after n ≡ Some name
  pub slots : (n : ℕ) (s : Slot) → slot_at before n ≡ Some s → IsIn s (slots after.document) → slot_at after n ≡ Some s

-- The document is this one now, and what stays in it keeps its number.
pub record LeadsTo (before after : Numbered) (d : Document) : Type 0 where
  pub document : after.document ≡ d
  pub numbers : Keeps before after
