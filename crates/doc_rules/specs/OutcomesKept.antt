-- Outcomes that may stand in a document as values of its slots.
use Rattle.std.specs.Prelude.{◌≡◌, ℕ, List, Some, Ok}
use Rattle.object_paths.specs.declared.slot_name.Component as c
use Rattle.object_paths.specs.Slots.{Slot}
use Rattle.property_types.specs.declared.prop_type.PropType.{PropType}
use Rattle.property_types.specs.declared.value.Value.{Value}
use Rattle.property_types.specs.Plans.{Slots}
use Rattle.property_types.specs.Values.{IsValue}
use Rattle.document_model.specs.declared.content.Content.TheVariants.{Own}
use Rattle.document_model.specs.Contents.{IsContentOf}
use Rattle.document_model.specs.Document.{Document}
use Rattle.document_model.specs.Slots.{type_of}
use Rattle.document_model.specs.WellFormed.{IsWellFormed}
use Rattle.document_outcomes.specs.Faults.{IsValid}
use Rattle.document_outcomes.specs.Full.{Meanings, full, numbered}
use Rattle.document_outcomes.specs.Typed.{GivesSorts}

-- an outcome that is a value is one of the slot's type
abbrev pub HasTypedOutcomes : Meanings → Document → Type 0
HasTypedOutcomes m d = (s : Slot) (type : PropType) (v : Value) → type_of d s ≡ Some type → full m d s ≡ Ok v → IsContentOf type (Own v)

-- What features give, and what placements compose, is a value where it is no fault.
pub record MeansValues (m : Meanings) : Type 0 where
  pub gives : (plan : Slots) (inputs : List Value) (k : ℕ) (v : Value) → numbered (m.gives plan inputs) k ≡ Ok v → IsValue v
  pub composed : (own target : List Value) (k : c.Component) (v : Value) → m.composed own target k ≡ Ok v → IsValue v

-- so they are in a valid document, where features give values of their sorts
abbrev pub ValidDocumentsHaveTypedOutcomes : Type 0
ValidDocumentsHaveTypedOutcomes = (m : Meanings) (d : Document) → GivesSorts m → MeansValues m → IsWellFormed d → IsValid d → HasTypedOutcomes m d
