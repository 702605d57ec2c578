-- Slots that depend on themselves, and links whose targets lead back to them.
use Rattle.std.specs.Prelude.{◌≡◌, ℕ, Bool, false, List, [], length}
use Rattle.std.specs.Option.{option_map, option_and_then, option_to_list}
use Rattle.fc_base.specs.Graph.{IsIn, IsOrdered, reaches_in}
use Rattle.object_paths.specs.Slots.{Slot, same_slot, same_text}
use Rattle.document_model.specs.Document.{Document, Object, object_named}
use Rattle.document_model.specs.Slots.{slots}
use Rattle.document_model.specs.Dependencies.{deps}

-- the slot depends on itself, directly or through others
unfoldable pub is_cyclic : Document → Slot → Bool
is_cyclic d s = reaches_in same_slot (deps d) (length (slots d)) s s

-- no slot of the document depends on itself
abbrev pub HasNoCycle : Document → Type 0
HasNoCycle d = (s : Slot) → IsIn s (slots d) → is_cyclic d s ≡ false

-- all slots of the document stand in the order, each behind its dependencies
pub record OrdersSlots (d : Document) (order : List Slot) : Type 0 where
  pub ordered : IsOrdered (deps d) [] order
  pub all : (s : Slot) → IsIn s (slots d) → IsIn s order

-- the name of a link's target, where the document has an object of that name
abbrev pub targets : Document → List ℕ → List (List ℕ)
targets d name =
    option_to_list (option_map (λ (t : Object). t.name)
    (option_and_then (λ (o : Object). option_and_then (object_named d) o.target) (object_named d name)))

-- the object is a link, and its targets lead back to it
unfoldable pub leads_back : Document → Object → Bool
leads_back d o = reaches_in same_text (targets d) (length d.objects) o.name o.name
