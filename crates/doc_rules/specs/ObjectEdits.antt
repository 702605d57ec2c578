-- What edits make of the objects of a document.
use Rattle.std.specs.Prelude.{ℕ, Bool, ◌||◌, not, List, [], ◌∷◌, is_some, Result}
use Rattle.std.specs.List.{list_any}
use Rattle.object_paths.specs.Slots.{same_text}
use Rattle.property_types.specs.Plans.{Slots}
use Rattle.property_types.specs.Reserved.{is_among, own_types}
use Rattle.property_types.specs.SoundPlans.{is_property_name}
use Rattle.document_model.specs.Document.{Document, Object, object_labelled, object_named}
use Rattle.document_model.specs.Edited.{new_object, with_object, without_object}
use Rattle.document_model.specs.Kinds.{kind_of_type}
use Rattle.document_outcomes.specs.RefusalNumbers.{bad_name, label_taken, name_taken, no_feature}
use Rattle.doc_rules.specs.declared.refusal.Refusal.{Refusal}
use Rattle.doc_rules.specs.Accepted.{Accepted, accepted, unless_any}

-- a type that a new object may have: one of the three own types, or that of a feature at hand
abbrev pub is_object_type : List Slots → List ℕ → Bool
is_object_type plans type = is_among type own_types || list_any (λ (plan : Slots). same_text plan.type_name type) plans

-- Why an object of a type may not be added under a name. The name would be its label too, so no object
-- may have it for one; every name can be a label. A name that is kept for properties is none for it.
abbrev pub tests_of_new : List Slots → Document → (type name : List ℕ) → List (Bool × ℕ)
tests_of_new plans d type name =
    (is_some (object_named d name), name_taken) ∷ (not (is_property_name name), bad_name)
    ∷ (is_some (object_labelled d name), label_taken) ∷ (not (is_object_type plans type), no_feature) ∷ []

-- one more object, whose label is its name
abbrev pub with_new : List Slots → Document → (type name : List ℕ) → Result Accepted Refusal
with_new plans d type name =
    unless_any (tests_of_new plans d type name) (accepted (with_object d (new_object name name (kind_of_type plans type))))

-- one object less
abbrev pub deleted : Document → Object → Result Accepted Refusal
deleted d o = accepted (without_object d o.name)
