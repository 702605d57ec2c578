-- What tables hold of a slot.
use Rattle.std.specs.Prelude.{◌≡◌, ◌^◌, ◌<◌, ℕ, List, map, nat_eq, Option, Some, None, IsSome}
use Rattle.std.specs.Cmp.Lexicographic.{pointwise}
use Rattle.std.specs.List.{filter_map}
use Rattle.std.specs.Option.{option_and_then, option_map}
use Rattle.indexmap.specs.IndexMap.{get}
use Rattle.fc_base.specs.declared.ids.SlotId.{SlotId}
use Rattle.object_paths.specs.declared.slot_name.SlotName.{SlotName}
use Rattle.object_paths.specs.declared.slot_name.SlotName.TheVariants.{Plain, Component, Marked}
use Rattle.object_paths.specs.Slots.{Slot}
use Rattle.expr_tree.specs.References.{Reference, reference_count}
use Rattle.document_model.specs.declared.content.Content.{Content}
use Rattle.document_model.specs.declared.content.Content.TheVariants.{Own, Bound}
use Rattle.document_model.specs.Dependencies.{slot_reached}
use Rattle.document_model.specs.Document.{Object, object_named}
use Rattle.document_model.specs.Resolution.{spelled_slot}
use Rattle.document_model.specs.Slots.{rule_of_content, type_of}
use Rattle.doc_tables.specs.declared.entry.ObjectEntry.{ObjectEntry}
use Rattle.doc_tables.specs.declared.entry.PropertyEntry.{PropertyEntry}
use Rattle.doc_tables.specs.Accessors.{IsNumberOf, rule_at}
use Rattle.doc_tables.specs.Numbered.{Numbered, object_at, slot_at}

-- an expression whose references can be numbered
abbrev pub HasFewReferences : Content → Type 0
HasFewReferences (Own v) = Unit {0}
HasFewReferences (Bound e) = reference_count e < 2 ^ 32

-- the numbers of the slots of an object
abbrev pub numbers_in : List ℕ × ObjectEntry → List SlotId
numbers_in o = map (λ (e : List ℕ × PropertyEntry). e.1.slot) o.1.properties.entries

-- The entry has the type and the rule of the slot of a number.
pub record IsEntryOf (t : Numbered) (n : ℕ) (e : PropertyEntry) : Type 0 where
  pub type : option_and_then (type_of t.document) (slot_at t n) ≡ Some e.prop
  pub rule : rule_at t n ≡ Some (rule_of_content e.content)
  pub references : HasFewReferences e.content
  pub owner : IsSome (option_and_then (λ s. object_named t.document s.object) (slot_at t n))

-- the number of a slot of an object, by its name there
abbrev pub number_in : ObjectEntry → SlotName → Option SlotId
number_in e (Plain name) = option_map (λ (p : PropertyEntry). p.slot) (get (pointwise nat_eq) e.properties name)
number_in e (Component name k) = None
number_in e (Marked p) = None

-- the entry has the numbers of the slots of this object
abbrev pub IsObjectEntry : Numbered → Object → ObjectEntry → Type 0
IsObjectEntry t o e = (name : SlotName) → IsNumberOf t (number_in e name) (spelled_slot t.document o o.kind name)

-- the same, where there is an object
abbrev pub IsEntryFor : Numbered → Option Object → Option ObjectEntry → Type 0
IsEntryFor t None None = Unit {0}
IsEntryFor t None (Some e) = ⊥
IsEntryFor t (Some o) None = ⊥
IsEntryFor t (Some o) (Some e) = IsObjectEntry t o e

-- the slot that a reference of the object of a number names
abbrev pub reached_by : Numbered → ℕ → Reference → Option Slot
reached_by t object r = option_and_then (λ o. slot_reached t.document o r) (object_at t object)

-- those that are there
abbrev pub present : {A : Type 0} → List (Option A) → List A
present all = filter_map (λ x. x) all
