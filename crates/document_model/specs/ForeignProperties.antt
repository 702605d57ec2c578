-- Which properties in a document's text are foreign, and so kept as they were written.
use Rattle.std.specs.Prelude.{ℕ, Bool, true, false, ◌&&◌, ◌||◌, not, List, [], ◌∷◌, Option, Some, None, is_some, is_none, Result, Ok, Err, codes}
use Rattle.std.specs.Option.{option_map}
use Rattle.fcxml_profile.specs.Items.{Tag, value_named}
use Rattle.fcxml_profile.specs.References.{read}
use Rattle.property_types.specs.Reserved.{is_among}
use Rattle.property_types.specs.Types.{type_named}
use Rattle.document_model.specs.declared.kind.ObjectKind.{ObjectKind}
use Rattle.document_model.specs.Kinds.{has_dynamics, is_dynamic_name, known_names}
use Rattle.document_model.specs.KeptText.{is_piece, is_other}

-- what the value of an attribute means, or the place of what is wrong in it; none where the tag has no
-- such attribute
abbrev pub meaning_of : List ℕ → Tag → Option (Result (List ℕ) ℕ)
meaning_of name t = option_map read (value_named name t.attributes)

-- no type of a property; where it cannot be read that is a fault, and the property is not foreign
abbrev pub is_no_type : Option (Result (List ℕ) ℕ) → Bool
is_no_type None = true
is_no_type (Some (Ok type)) = is_none (type_named type)
is_no_type (Some (Err place)) = false

-- a property of that name with a group, as the dynamic properties of a kind are
abbrev pub may_be_dynamic : ObjectKind → Tag → List ℕ → Bool
may_be_dynamic kind t name = has_dynamics kind && is_some (value_named (codes "group") t.attributes) && is_dynamic_name kind name

-- no property of the kind has that name, and it is no dynamic property
abbrev pub is_unknown_name : ObjectKind → Tag → List ℕ → Bool
is_unknown_name kind t name = not (is_among name (known_names kind)) && (not (may_be_dynamic kind t name) || is_no_type (meaning_of (codes "type") t))

-- a property without a name, or with a name by which it is unknown
abbrev pub is_unnamed_or_unknown : ObjectKind → Tag → Option (Result (List ℕ) ℕ) → Bool
is_unnamed_or_unknown kind t None = true
is_unnamed_or_unknown kind t (Some (Ok name)) = is_unknown_name kind t name
is_unnamed_or_unknown kind t (Some (Err place)) = false

-- an element among the properties of an object of a kind that is none of them
abbrev pub is_foreign_property : ObjectKind → Tag → Bool
is_foreign_property kind t = is_other (codes "Property" ∷ []) t || is_unnamed_or_unknown kind t (meaning_of (codes "name") t)

-- pieces among the properties stand in the Properties of an Object
abbrev pub is_properties_piece : ObjectKind → List ℕ → Bool
is_properties_piece kind = is_piece 4 (is_foreign_property kind)
