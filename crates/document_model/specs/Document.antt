-- Documents: lists of objects, each with what stands in it. No numbers of slots, marks, orders or
-- outcomes are part of a document.
use Rattle.std.specs.Prelude.{ℕ, List, Option}
use Rattle.std.specs.List.{find}
use Rattle.fc_base.specs.Places.{Place}
use Rattle.object_paths.specs.Slots.{same_text}
use Rattle.object_paths.specs.declared.slot_name.SlotName.{SlotName}
use Rattle.property_types.specs.declared.prop_type.PropType.{PropType}
use Rattle.document_model.specs.declared.content.Content.{Content}
use Rattle.document_model.specs.declared.kind.ObjectKind.{ObjectKind}
use Rattle.document_model.specs.declared.status.Status2.{Status2}

-- A dynamic property: a content for each of its slots, and the source of its further attributes.
pub record Property : Type 0 where
  pub name : List ℕ
  pub prop : PropType
  pub status : Status2
  pub group : List ℕ
  pub doc : List ℕ
  pub attributes : List (List ℕ)
  pub contents : List Content

-- A kept cell of a sheet: one with content, an alias or further attributes, which are one text: their
-- sources joined by one space. A cell that is cleared is no longer kept, so its alias goes with it.
pub record Cell : Type 0 where
  pub content : Option Content
  pub alias : Option (List ℕ)
  pub extra : List ℕ

-- The foreign pieces of an object, by their places: before its properties, behind all its
-- properties, and before the cells of a sheet.
pub record Pieces : Type 0 where
  pub in_object : List (List ℕ)
  pub in_properties : List (List ℕ)
  pub in_cells : List (List ℕ)

-- An object. What a kind lacks is empty.
pub record Object : Type 0 where
  pub name : List ℕ
  pub label : List ℕ
  pub kind : ObjectKind
  -- of a feature its inputs, of a link Placement and LinkTransform, a content for each slot
  pub inputs : List (SlotName × Content)
  pub dynamics : List Property
  -- the kept cells of a sheet, by row and column
  pub cells : List (Place × Cell)
  -- the name of a link's target
  pub target : Option (List ℕ)
  -- of a link, by slot name
  pub overrides : List (SlotName × Content)
  -- the names of a compound's members
  pub members : List (List ℕ)
  -- the further attributes of the properties that are not dynamic, where one has any, by its name
  pub kept : List (List ℕ × List (List ℕ))
  pub attributes : List (List ℕ)
  pub pieces : Pieces

-- A document: its objects, its further attributes, and the foreign pieces before, between and behind
-- its two lists of objects.
pub record Document : Type 0 where
  pub objects : List Object
  pub attributes : List (List ℕ)
  pub before : List (List ℕ)
  pub between : List (List ℕ)
  pub after : List (List ℕ)

-- the first object of that name
abbrev pub object_named : Document → List ℕ → Option Object
object_named d name = find (λ o. same_text o.name name) d.objects

-- the first object of that label
abbrev pub object_labelled : Document → List ℕ → Option Object
object_labelled d label = find (λ o. same_text o.label label) d.objects
