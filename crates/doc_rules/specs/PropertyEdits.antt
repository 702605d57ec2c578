-- What edits make of the dynamic properties of an object.
use Rattle.std.specs.Prelude.{ℕ, Bool, not, List, [], ◌∷◌, Option, Some, None, Result, Ok, Err}
use Rattle.property_types.specs.declared.prop_type.PropType.{PropType}
use Rattle.property_types.specs.Types.{type_named}
use Rattle.document_model.specs.Document.{Document, Object, Property}
use Rattle.document_model.specs.Edited.{new_property, with_property, without_property}
use Rattle.document_model.specs.Kinds.{has_dynamics, is_dynamic_name}
use Rattle.document_outcomes.specs.RefusalNumbers.{bad_name, name_taken, wrong_type}
use Rattle.doc_rules.specs.declared.refusal.Refusal.{Refusal}
use Rattle.doc_rules.specs.Accepted.{Accepted, accepted, unless_any}
use Rattle.doc_rules.specs.Commanded.{refused}
use Rattle.doc_rules.specs.ObjectNames.{is_taken}

-- one more property of a type; there may be none of the name that was given
abbrev pub with_typed : Document → Object → List ℕ → Option PropType → Result Accepted Refusal
with_typed d o name None = Err (refused wrong_type)
with_typed d o name (Some type) = accepted (with_property d o.name (new_property name type))

-- why a property may not be added to an object under a name
abbrev pub tests_of_added : Object → List ℕ → List (Bool × ℕ)
tests_of_added o name = (not (has_dynamics o.kind), wrong_type) ∷ (is_taken o name, name_taken) ∷ (not (is_dynamic_name o.kind name), bad_name) ∷ []

-- one more property of an object
abbrev pub with_added : Document → (type name : List ℕ) → Object → Result Accepted Refusal
with_added d type name o = unless_any (tests_of_added o name) (with_typed d o name (type_named type))

-- one property less
abbrev pub dropped : Document → Object × Property → Result Accepted Refusal
dropped d found = accepted (without_property d found.0.name found.1.name)
