-- What the names and paths of commands name.
use Rattle.std.specs.Prelude.{◌≡◌, ℕ, Bool, List, Option, Some, None, Result, Ok, Err, if◌then◌else◌}
use Rattle.fc_base.specs.declared.ids.ObjectId.{ObjectId}
use Rattle.fc_base.specs.declared.ids.SlotId.{SlotId}
use Rattle.object_paths.specs.declared.path.Path.{Path}
use Rattle.object_paths.specs.declared.path.Owner.{Owner}
use Rattle.object_paths.specs.declared.path.Owner.TheVariants.{Here, ByName, ByLabel}
use Rattle.object_paths.specs.declared.slot_name.SlotName.{SlotName}
use Rattle.object_paths.specs.declared.slot_name.SlotName.TheVariants.{Plain, Component, Marked}
use Rattle.object_paths.specs.Slots.{Slot}
use Rattle.expr_eval.specs.Firsts.{on_one}
use Rattle.document_model.specs.Document.{Document, Object, Property, object_named, object_labelled}
use Rattle.document_model.specs.Resolution.{resolve}
use Rattle.document_outcomes.specs.RefusalNumbers.{no_object, no_property, not_dynamic}
use Rattle.doc_tables.specs.Numbered.{Numbered, name_at, object_at, slot_at}
use Rattle.doc_rules.specs.declared.refusal.Refusal.{Refusal}
use Rattle.doc_rules.specs.ObjectNames.{dynamic_named, is_known}

-- a refusal of that number, without a subject and a place
abbrev pub refused : ℕ → Refusal
refused number = record { number = number; subject = None; place = None }

-- the object that a command's path begins with; a command stands in no object
abbrev pub object_commanded : Document → Owner → Option Object
object_commanded d Here = None
object_commanded d (ByName name) = object_named d name
object_commanded d (ByLabel label) = object_labelled d label

-- the object, 2 where there is none
abbrev pub object_there : Option Object → Result Object Refusal
object_there None = Err (refused no_object)
object_there (Some o) = Ok o

-- the object of a name that a command gives
abbrev pub object_of : Document → List ℕ → Result Object Refusal
object_of d name = object_there (object_named d name)

-- the slot of the object, 3 where it has none of that name
abbrev pub slot_there : Option Slot → Result Slot Refusal
slot_there None = Err (refused no_property)
slot_there (Some s) = Ok s

-- the slot of the object that the path names, 2 where there is no such object
abbrev pub slot_behind : Document → Path → Option Object → Result Slot Refusal
slot_behind d p None = Err (refused no_object)
slot_behind d p (Some o) = slot_there (resolve d o p)

-- the slot that the path of a command names, or why it names none
abbrev pub slot_commanded : Document → Path → Result Slot Refusal
slot_commanded d p = slot_behind d p (object_commanded d p.owner)

-- the dynamic property of the object, 13 where something else has the name, and 3 where nothing has it
abbrev pub property_there : Object → Bool → Option Property → Result (Object × Property) Refusal
property_there o known (Some p) = Ok (o, p)
property_there o known None = Err (refused (if known then not_dynamic else no_property))

-- the same by the slot name of a path. The whole property is named, so a component or a cell is none
abbrev pub property_in : Document → SlotName → Object → Result (Object × Property) Refusal
property_in d (Plain name) o = property_there o (is_known d o name) (dynamic_named o name)
property_in d (Component name k) o = Err (refused no_property)
property_in d (Marked p) o = Err (refused no_property)

-- the object and its dynamic property that the path of a command names, or why it names none
abbrev pub property_commanded : Document → Path → Result (Object × Property) Refusal
property_commanded d p = on_one (property_in d p.slot) (object_there (object_commanded d p.owner))

-- this is the number of the object, or the same refusal
abbrev pub IsObjectOf : Numbered → Result Object Refusal → Result ObjectId Refusal → Type 0
IsObjectOf t (Ok o) (Ok id) = (name_at t id.0 ≡ Some o.name) × (object_at t id.0 ≡ Some o)
IsObjectOf t (Ok o) (Err told) = ⊥
IsObjectOf t (Err r) (Ok id) = ⊥
IsObjectOf t (Err r) (Err told) = told ≡ r

-- this is the number of the object, and the path ends in the name of its property; or the same refusal
abbrev pub IsPropertyOf : Numbered → Path → Result (Object × Property) Refusal → Result ObjectId Refusal → Type 0
IsPropertyOf t p (Ok found) (Ok id) = (name_at t id.0 ≡ Some found.0.name) × (p.slot ≡ Plain found.1.name)
IsPropertyOf t p (Ok found) (Err told) = ⊥
IsPropertyOf t p (Err r) (Ok id) = ⊥
IsPropertyOf t p (Err r) (Err told) = told ≡ r

-- this is the number of the slot, or the same refusal
abbrev pub IsCommanded : Numbered → Result Slot Refusal → Result SlotId Refusal → Type 0
IsCommanded t (Ok s) (Ok id) = slot_at t id.0 ≡ Some s
IsCommanded t (Ok s) (Err told) = ⊥
IsCommanded t (Err r) (Ok id) = ⊥
IsCommanded t (Err r) (Err told) = told ≡ r
