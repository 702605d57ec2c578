-- What keeps documents well-formed: new objects and properties are, and a change of one thing is.
use Rattle.std.specs.Prelude.{◌≡◌, ℕ, false, List, ◌++◌, map, Some, None, IsTrue}
use Rattle.fc_base.specs.Texts.{is_name, is_label}
use Rattle.object_paths.specs.Slots.{Slot}
use Rattle.property_types.specs.declared.prop_type.PropType.{PropType}
use Rattle.property_types.specs.Reserved.{is_among}
use Rattle.document_model.specs.declared.content.Content.{Content}
use Rattle.document_model.specs.declared.kind.ObjectKind.{ObjectKind}
use Rattle.document_model.specs.Contents.{IsContentOf}
use Rattle.document_model.specs.Document.{Document, Object, Property, object_named}
use Rattle.document_model.specs.Edited.{new_object, new_property, with_object, without_object, with_property, without_property, with_content}
use Rattle.document_model.specs.Kinds.{has_dynamics, is_dynamic_name, names_of_kind}
use Rattle.document_model.specs.Renamed.{object, renamed}
use Rattle.document_model.specs.Slots.{type_of}
use Rattle.document_model.specs.WellFormed.{IsKind, IsObject, IsProperty, IsWellFormed, is_added_type}

-- a new object of any kind, with a name and a label, is well-formed
abbrev pub NewObjectsAreWellFormed : Type 0
NewObjectsAreWellFormed =
    (name label : List ℕ) (kind : ObjectKind) → IsTrue (is_name name) → IsTrue (is_label label) → IsKind kind → IsObject (new_object name label kind)

-- a new property of an object of that kind is well-formed, of any type that a property may have
abbrev pub NewPropertiesAreWellFormed : Type 0
NewPropertiesAreWellFormed =
    (kind : ObjectKind) (name : List ℕ) (type : PropType) → IsTrue (is_dynamic_name kind name) → IsTrue (is_added_type type) → IsProperty kind (new_property name type)

-- a well-formed object of a name that no other has may be added
abbrev pub AddedObjectsKeepForm : Type 0
AddedObjectsKeepForm = (d : Document) (o : Object) → IsWellFormed d → IsObject o → object_named d o.name ≡ None → IsWellFormed (with_object d o)

-- any object may be removed
abbrev pub RemovedObjectsKeepForm : Type 0
RemovedObjectsKeepForm = (d : Document) (name : List ℕ) → IsWellFormed d → IsWellFormed (without_object d name)

-- a well-formed property may be added to an object of a kind that has them, where no input, output or
-- property of it has the name
abbrev pub AddedPropertiesKeepForm : Type 0
AddedPropertiesKeepForm =
    (d : Document) (owner : List ℕ) (o : Object) (p : Property) → IsWellFormed d → object_named d owner ≡ Some o → IsTrue (has_dynamics o.kind)
    → IsProperty o.kind p → is_among p.name (names_of_kind o.kind ++ map (λ (q : Property). q.name) o.dynamics) ≡ false
    → IsWellFormed (with_property d owner p)

-- any dynamic property may be removed
abbrev pub RemovedPropertiesKeepForm : Type 0
RemovedPropertiesKeepForm = (d : Document) (owner name : List ℕ) → IsWellFormed d → IsWellFormed (without_property d owner name)

-- any content of a slot's type may be put into it
abbrev pub ChangedContentsKeepForm : Type 0
ChangedContentsKeepForm =
    (d : Document) (s : Slot) (type : PropType) (new : Content) → IsWellFormed d → type_of d s ≡ Some type → IsContentOf type new → IsWellFormed (with_content d s new)

-- any object may get another label
abbrev pub RelabellingsKeepForm : Type 0
RelabellingsKeepForm = (d : Document) (name new : List ℕ) → IsWellFormed d → IsTrue (is_label new) → IsWellFormed (renamed d (object name) new)
