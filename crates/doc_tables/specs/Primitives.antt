-- What primitives ask of numbered documents.
use Rattle.std.specs.Prelude.{◌≡◌, ℕ, Bool, true, not, List, Some}
use Rattle.std.specs.List.{list_any}
use Rattle.std.specs.Option.{option_and_then, option_map_or}
use Rattle.object_paths.specs.Slots.{same_text}
use Rattle.property_types.specs.declared.prop_type.PropType.{PropType}
use Rattle.document_model.specs.declared.content.Content.{Content}
use Rattle.document_model.specs.Contents.{IsContentOf}
use Rattle.document_model.specs.Document.{Object, Property}
use Rattle.document_model.specs.Slots.{type_of}
use Rattle.doc_tables.specs.Numbered.{Numbered, object_at, slot_at}

-- the object of a number has no dynamic property of that name
abbrev pub lacks_property : Numbered → ℕ → List ℕ → Bool
lacks_property t object name =
    option_map_or (λ (o : Object). not (list_any (λ (p : Property). same_text p.name name) o.dynamics)) (object_at t object) true

-- a content of the type of the slot of a number, where it has one
abbrev pub IsContentAt : Numbered → ℕ → Content → Type 0
IsContentAt t n new = (type : PropType) → option_and_then (type_of t.document) (slot_at t n) ≡ Some type → IsContentOf type new
