-- The document that tables hold, and how they hold it.
use Rattle.std.specs.Prelude.{◌≢◌, ◌^◌, ◌<◌, ℕ, List, [], ◌∷◌, map, length, sum_by, slice_get, nat_eq, position, IfSome, Option}
use Rattle.std.specs.Cmp.Lexicographic.{pointwise}
use Rattle.std.specs.List.{flat_map, AllByRecursion}
use Rattle.std.specs.Map.{keys_of}
use Rattle.std.specs.Option.{option_and_then, option_map}
use Rattle.indexmap.specs.IndexMap.{IsUnique}
use Rattle.object_paths.specs.declared.slot_name.SlotName.TheVariants.{Plain}
use Rattle.object_paths.specs.Slots.{Slot}
use Rattle.property_types.specs.declared.prop_type.PropType.TheVariants.{Placement}
use Rattle.document_model.specs.declared.kind.ObjectKind.TheVariants.{VarSet}
use Rattle.document_model.specs.Document.{Document, Object, Property}
use Rattle.document_model.specs.WellFormed.{IsWellFormed}
use Rattle.document_model.specs.Edited.{new_object, new_property}
use Rattle.doc_tables.specs.Entries.{HasFewReferences}
use Rattle.doc_tables.specs.Labels.{AreByLabel, labelled}
use Rattle.doc_tables.specs.Numbered.{Numbered}
use Rattle.doc_tables.specs.Reached.{AreAllReached, lists_of}
use Rattle.doc_tables.specs.Table.{HasRoom, IsTable}
use Rattle.doc_tables.specs.declared.entry.ObjectEntry.{ObjectEntry}
use Rattle.doc_tables.specs.declared.entry.PropertyEntry.{PropertyEntry}
use Rattle.doc_tables.specs.declared.entry.SlotKey.{SlotKey}
use Rattle.doc_tables.specs.declared.entry.SlotPlace.{SlotPlace}
use Rattle.doc_tables.specs.declared.tables.Tables.TheInside.{Inside}

-- a property with what stands in it
abbrev pub property_held : List ℕ × PropertyEntry → Property
property_held e = record (new_property e.0 e.1.prop) { contents = e.1.content ∷ [] }

-- a VarSet with its properties
abbrev pub object_held : List ℕ × ObjectEntry → Object
object_held e = record (new_object e.0 e.1.label VarSet) { dynamics = map property_held e.1.properties.entries }

-- the document of these objects
abbrev pub document_held : List (List ℕ × ObjectEntry) → Document
document_held objects = record { objects = map object_held objects; attributes = []; before = []; between = []; after = [] }

-- the property at a place, with the name of its object
abbrev pub entry_at : List (List ℕ × ObjectEntry) → SlotPlace → Option (List ℕ × (List ℕ × PropertyEntry))
entry_at objects p =
    option_and_then (λ (o : List ℕ × ObjectEntry). option_map (λ (e : List ℕ × PropertyEntry). (o.0, e)) (slice_get o.1.properties.entries p.property))
    (slice_get objects p.object)

-- the place of the property of a key
abbrev pub place_of_key : List (List ℕ × ObjectEntry) → SlotKey → Option SlotPlace
place_of_key objects key =
    option_and_then (λ i.
    option_and_then (λ (o : List ℕ × ObjectEntry). option_map (λ j. record { object = i; property = j }) (position (pointwise nat_eq key.property) (keys_of o.1.properties.entries)))
    (slice_get objects i))
    (position (pointwise nat_eq key.object) (keys_of objects))

-- the slot of a key
abbrev pub slot_of_key : SlotKey → Slot
slot_of_key k = record { object = k.object; name = Plain k.property }

-- the number and the name of an object
abbrev pub object_numbered : List ℕ × ObjectEntry → ℕ × List ℕ
object_numbered o = (o.1.number.0, o.0)

-- the numbers and the slots of the properties of an object
abbrev pub slots_numbered : List ℕ × ObjectEntry → List (ℕ × Slot)
slots_numbered o = map (λ (e : List ℕ × PropertyEntry). (e.1.slot.0, record { object = o.0; name = Plain e.0 })) o.1.properties.entries

-- the slots of keys
abbrev pub slots_of_keys : List (Option SlotKey) → List (Option Slot)
slots_of_keys keys = map (option_map slot_of_key) keys

-- what tables stand for
abbrev pub numbered_held : Inside → Numbered
numbered_held t = record {
  document = document_held t.objects.entries;
  objects = t.object_names.items;
  slots = slots_of_keys t.slot_keys.items;
}

-- where references were resolved, what is kept of them is right for each slot in use
abbrev pub HoldsReached : Inside → Type 0
HoldsReached t = IfSome t.reached (λ lists. AreAllReached (numbered_held t) (lists_of lists.items))

-- a property of one slot
pub record IsPropertyHeld (e : List ℕ × PropertyEntry) : Type 0 where
  pub one_slot : e.1.prop ≢ Placement
  pub references : HasFewReferences e.1.content

-- a VarSet whose properties have distinct names
pub record IsObjectHeld (o : List ℕ × ObjectEntry) : Type 0 where
  pub distinct : IsUnique (pointwise nat_eq) o.1.properties
  pub properties : AllByRecursion IsPropertyHeld o.1.properties.entries

-- Objects have distinct names, the numbers in use are those of the entries, the document is one of the product,
-- and what is kept of references is right.
pub record IsHeld (t : Inside) : Type 0 where
  pub distinct : IsUnique (pointwise nat_eq) t.objects
  pub objects : AllByRecursion IsObjectHeld t.objects.entries
  pub few_objects : length t.objects.entries < 2 ^ 32
  pub few_slots : sum_by (λ (o : List ℕ × ObjectEntry). length o.1.properties.entries) t.objects.entries < 2 ^ 32
  pub object_numbers : IsTable t.object_names.items (map object_numbered t.objects.entries)
  pub slot_numbers : IsTable (slots_of_keys t.slot_keys.items) (flat_map slots_numbered t.objects.entries)
  pub labels : AreByLabel t.by_label.items (map labelled t.objects.entries)
  pub object_room : HasRoom t.object_names.items t.free_object
  pub slot_room : HasRoom (slots_of_keys t.slot_keys.items) t.free_slot
  pub form : IsWellFormed (document_held t.objects.entries)
  pub reached : HoldsReached t
