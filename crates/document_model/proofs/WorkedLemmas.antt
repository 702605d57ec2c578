-- The worked forms and texts hold by computation.
use Rattle.std.proofs.Common.{◌≡◌, ℕ, true, ◌==◌, List, [], ◌∷◌, ◌++◌, refl, sym, ◌∙◌, ap, subst}
use Rattle.std.specs.Prelude.{codes}
use Rattle.std.specs.List.{list_any, join_with_byte}
use Rattle.std.proofs.Math.Bool.{or-true}
use Rattle.std.proofs.lemmas.Bool.{false≢true}
use Rattle.std.specs.Fmt.{digits}
use Rattle.std.specs.Str.{is_utf8, chars}
use lib.Utf8.{encode}
use Rattle.unicode_ident.proofs.Computing.{unicode_ident}
use Rattle.fc_base.specs.Places.{address_of, address_text}
use Rattle.fcxml_profile.specs.Fronts.{after, behind, split_at, quoted_at}
use Rattle.fcxml_profile.specs.Items.{attribute_at, attribute_behind_blanks, attributes_within, tag_at, end_tag_at, markup_at, item_at, items_within}
use Rattle.fcxml_profile.specs.References.{replacement_of, reference_at, read_within}
use Rattle.fcxml_profile.specs.Standing.{repeated_behind}
use Rattle.document_model.specs.Dependencies.{deps}
use Rattle.document_model.specs.KeptText.{are_attributes, cell_attributes}
use Rattle.document_model.specs.Resolution.{resolve}
use Rattle.document_model.specs.WorkedForm.{KindsWork, EditsWork, CountsWork, TypesWork}
use Rattle.document_model.specs.WorkedText.{AttributesWork, PiecesWork, ForeignPropertiesWork, PlacesWork}

pub kinds_work : KindsWork
kinds_work = record {
  var_set = refl;
  sheet = refl;
  link = refl;
  feature = refl;
  foreign = refl;
  types = refl;
  known = refl;
  bounds = refl;
}

pub edits_work : EditsWork
edits_work = record {
  box = refl;
  link = refl;
  label = refl;
  float = refl;
  placement = refl;
  input = refl;
  other_input = refl;
  property = refl;
}

pub counts_work : CountsWork
unfolding resolve deps address_of address_text digits
counts_work = record {
  expressions = refl;
  slots = refl;
  nodes = refl;
  dependencies = refl;
}

pub types_work : TypesWork
types_work = record {
  parts = refl;
  turn = refl;
  transform = refl;
  bound = refl;
}

two_have_blank : (first later : List ℕ) → list_any (λ c. c == 32) (first ++ 32 ∷ later) ≡ true
two_have_blank [] later = refl
two_have_blank (c ∷ first) later = rw (two_have_blank first later) (or-true (c == 32))

no_alias_among : (sources : List (List ℕ)) → codes "alias='a'" ≡ join_with_byte 32 sources → are_attributes cell_attributes sources ≡ true → ⊥
unfolding after behind split_at quoted_at attribute_at is_utf8 chars encode
no_alias_among [] joined good = absurd (let e = joined in cc)
no_alias_among (source ∷ []) joined good = false≢true (subst (λ s. are_attributes cell_attributes (s ∷ []) ≡ true) (sym joined) good)
no_alias_among (source ∷ next ∷ later) joined good =
    false≢true (ap (list_any (λ c. c == 32)) joined ∙ two_have_blank source (join_with_byte 32 (next ∷ later)))

pub attributes_work : AttributesWork
unfolding after behind split_at quoted_at attribute_at is_utf8 chars encode
attributes_work = record {
  one = refl;
  with_blanks = refl;
  with_markup = refl;
  with_more = refl;
  with_control = refl;
  ill_formed = refl;
  kept = refl;
  twice = refl;
  id = refl;
  type_of_object = refl;
  type_of_property = refl;
  schema = refl;
  alias = refl;
  no_attribute = refl;
  joined = record { sources = codes "a=\"1 2\"" ∷ codes "b='3'" ∷ []; joined = refl; attributes = refl };
  alias_in_extra = λ h. no_alias_among h.sources h.joined h.attributes;
}

pub pieces_work : PiecesWork
unfolding after behind split_at quoted_at attribute_at attribute_behind_blanks attributes_within tag_at end_tag_at markup_at item_at items_within repeated_behind is_utf8 chars encode
pieces_work = record {
  empty = refl;
  full = refl;
  cut_off = refl;
  blank_before = refl;
  blank_behind = refl;
  two = refl;
  comment = refl;
  end_alone = refl;
  repeated = refl;
  repeated_in_front = refl;
  control = refl;
  objects = refl;
  object_data = refl;
  objects_elsewhere = refl;
  properties = refl;
  cell = refl;
  no_cell = refl;
  deepest = refl;
  too_deep = refl;
}

pub foreign_properties_work : ForeignPropertiesWork
unfolding after behind split_at quoted_at attribute_at attribute_behind_blanks attributes_within tag_at end_tag_at markup_at item_at items_within repeated_behind replacement_of reference_at read_within is_utf8 chars encode unicode_ident address_of address_text digits
foreign_properties_work = record {
  other_element = refl;
  unnamed = refl;
  shape = refl;
  label = refl;
  by_reference = refl;
  no_reference = refl;
  dynamic = refl;
  of_link = refl;
  other_type = refl;
  untyped = refl;
  no_type = refl;
  type_not_read = refl;
  reserved = refl;
  address = refl;
  no_address = refl;
  input = refl;
  no_input = refl;
}

pub places_work : PlacesWork
unfolding after behind split_at quoted_at attribute_at attribute_behind_blanks attributes_within tag_at end_tag_at markup_at item_at items_within repeated_behind replacement_of reference_at read_within is_utf8 chars encode unicode_ident address_of address_text digits
places_work = record {
  in_document = refl;
  below_document = refl;
  in_object = refl;
  below_object = refl;
  in_properties = refl;
  below_properties = refl;
  in_cells = refl;
  below_cells = refl;
  read_of_object = refl;
  read_of_property = refl;
  read_of_cell = refl;
  dynamic_of_sheet = refl;
  dynamic_of_box = refl;
  output = refl;
  output_without_group = refl;
  no_cell = refl;
}
