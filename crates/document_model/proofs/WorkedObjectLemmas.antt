-- The worked objects are well-formed, or not, by computation.
use Rattle.std.proofs.Common.{arith, false, refl, sym, ap, lit≤, [], ◌∷◌}
use Rattle.std.specs.Prelude.{◌≤◌, codes}
use Rattle.std.specs.Fmt.{digits}
use Rattle.std.specs.Option.{option_map_or}
use Rattle.std.specs.Str.{is_utf8, chars}
use Rattle.std.proofs.lemmas.Bool.{false≢true}
use lib.Utf8.{encode}
use Rattle.unicode_ident.proofs.Computing.{unicode_ident}
use Rattle.fc_base.specs.Places.{Place, address_of, address_text}
use Rattle.fcxml_profile.specs.Fronts.{after, behind, split_at, quoted_at}
use Rattle.fcxml_profile.specs.Items.{attribute_at, attribute_behind_blanks, attributes_within, tag_at, end_tag_at, markup_at, item_at, items_within}
use Rattle.fcxml_profile.specs.References.{replacement_of, reference_at, read_within}
use Rattle.fcxml_profile.specs.Standing.{repeated_behind}
use Rattle.property_types.specs.Plans.{Slots}
use Rattle.document_model.specs.declared.kind.ObjectKind.{ObjectKind}
use Rattle.document_model.specs.Ends.{plan_of_kind}
use Rattle.document_model.specs.LinkedBox.{box, box_plan, link, second_link, endless_link, sheet}
use Rattle.document_model.specs.WellFormed.{IsObject, IsPlan}
use Rattle.document_model.specs.WorkedObjects.{compound, compound_plan, kept_of, wedge, WellFormedObjectsWork, IllFormedObjectsWork, IllFormedPartsWork}

pub ill_formed_objects_work : IllFormedObjectsWork
unfolding is_utf8 chars encode unicode_ident after behind split_at quoted_at attribute_at attribute_behind_blanks attributes_within tag_at end_tag_at markup_at item_at items_within repeated_behind replacement_of reference_at read_within
ill_formed_objects_work = record {
  name = λ h. false≢true h.name;
  label = λ h. false≢true h.label;
  dynamics_of_link = λ h. absurd (let e = h.only_dynamics in cc);
  name_of_output = λ h. false≢true h.distinct;
  name_twice = λ h. false≢true h.distinct;
  reserved = λ h. false≢true h.dynamics.0.name;
  turn = λ h. false≢true h.dynamics.0.type;
  text_in_float = λ h. false≢true h.dynamics.0.contents.0.1;
  expression_not_spelled = λ h. false≢true h.dynamics.0.contents.0.slot;
  no_content = λ h. h.dynamics.0.contents;
  group = λ h. false≢true h.dynamics.0.group;
  doc = λ h. false≢true h.dynamics.0.doc;
  group_not_utf8 = λ h. false≢true h.dynamics.0.group;
  doc_not_utf8 = λ h. false≢true h.dynamics.0.doc;
  inputs = λ h. h.inputs;
  input_named = λ h. absurd (let e = h.inputs.0 in cc);
  cells = λ h. absurd (let e = h.only_cells in cc);
  cells_in_order = λ h. false≢true h.cells_in_order;
  alias_twice = λ h. false≢true h.aliases;
  target = λ h. false≢true h.target.only_links;
  overrides = λ h. absurd (let e = h.only_overrides in cc);
  overrides_in_order = λ h. false≢true h.overrides_in_order;
  members = λ h. absurd (let e = h.only_members in cc);
  attributes = λ h. false≢true h.attributes;
  pieces_in_cells = λ h. absurd (let e = h.pieces.only_in_cells in cc);
  attributes_of_property = λ h. false≢true h.dynamics.0.attributes;
  name_of_target = λ h. false≢true h.target.name;
  piece_in_cells = λ h. false≢true h.pieces.in_cells;
  name_of_member = λ h. false≢true h.members;
  kept = λ h. false≢true h.kept;
  cells_by_column = λ h. false≢true h.cells_in_order;
  address_in_sheet = λ h. false≢true h.dynamics.0.name;
  piece_in_properties = λ h. false≢true h.pieces.in_properties;
  pieces = λ h. false≢true h.pieces.in_object;
}

pub ill_formed_parts_work : IllFormedPartsWork
unfolding is_utf8 chars encode unicode_ident address_of address_text digits after behind split_at quoted_at attribute_at attribute_behind_blanks attributes_within tag_at end_tag_at markup_at item_at items_within repeated_behind
ill_formed_parts_work = record {
  empty_cell = λ h. false≢true h.kept;
  flag_cell = λ h. h.content;
  marked_cell = λ h. false≢true (ap (λ (p : Place). p.fixed_row) (sym h.no_marks));
  alias = λ h. false≢true h.alias;
  override = λ h. false≢true h.name.1;
  kept_order = refl;
  kept_unknown = refl;
  kept_nothing = refl;
  kept_read = refl;
  no_bounds = λ h. false≢true h.bounds;
  default = λ h. false≢true h.defaults.0.1;
  unplaced_members = λ h. false≢true h.members;
  own_type = refl;
  no_type = refl;
  names = λ h. false≢true h.distinct;
  schema = λ h. false≢true h.attributes;
  before = λ h. false≢true h.before;
  between = λ h. false≢true h.between;
  after = λ h. false≢true h.after;
  longest_type = refl;
  too_long_type = refl;
  control_type = refl;
  square_bounds = λ h. false≢true h.bounds;
  one_bound = λ h. false≢true h.bounds;
  unsound = λ h. false≢true h.sound.type_name;
  kept_twice = refl;
  placement = refl;
  no_alias = λ h. false≢true h.alias;
  cell_not_spelled = λ h. false≢true h.content.slot;
  text_cell = record { place = record { column_low = lit≤ tt; column_high = lit≤ tt; row_low = lit≤ tt; row_high = lit≤ tt }; no_marks = refl; content = refl; alias = tt; extra = record { sources = []; joined = refl; attributes = refl }; kept = refl };
  no_text_cell = λ h. false≢true h.content;
  attributes_alone = record { place = record { column_low = lit≤ tt; column_high = lit≤ tt; row_low = lit≤ tt; row_high = lit≤ tt }; no_marks = refl; content = tt; alias = tt; extra = record { sources = codes "type='x'" ∷ []; joined = refl; attributes = refl }; kept = refl };
  not_spelled = λ h. false≢true h.content.slot;
  flag_in_override = record { name = refl; content = tt };
  names_by_plans = λ h. false≢true h.0.distinct;
  kinds_by_plans = λ h. false≢true (ap (λ (k : ObjectKind). option_map_or (λ (plan : Slots). plan.placed) (plan_of_kind k) false) (sym h.1.0));
  row_0 = λ h. let e : 1 ≤ 0 = h.place.row_low in absurd (omega arith);
  other_plan = λ h. false≢true (ap (λ (k : ObjectKind). option_map_or (λ (plan : Slots). plan.placed) (plan_of_kind k) false) (sym h.0));
}

box_is_plan : IsPlan box_plan
unfolding is_utf8 chars encode unicode_ident address_of address_text digits after behind split_at quoted_at attribute_at attribute_behind_blanks attributes_within tag_at end_tag_at markup_at item_at items_within repeated_behind replacement_of reference_at read_within
box_is_plan = record { sound = record { type_name = refl; names = refl; distinct = refl; types = refl; defaults = (refl, (refl, (refl, tt))) }; defaults = (((lit≤ tt, record { eight = refl; each = refl }), refl), (((lit≤ tt, record { eight = refl; each = refl }), refl), (((lit≤ tt, record { eight = refl; each = refl }), refl), tt))); bounds = refl; members = refl }

box_is_object : IsObject box
unfolding is_utf8 chars encode unicode_ident address_of address_text digits after behind split_at quoted_at attribute_at attribute_behind_blanks attributes_within tag_at end_tag_at markup_at item_at items_within repeated_behind replacement_of reference_at read_within
box_is_object = record {
  name = refl;
  label = refl;
  kind = box_is_plan;
  inputs = (refl, ((lit≤ tt, record { eight = refl; each = refl }), refl), (refl, ((lit≤ tt, record { eight = refl; each = refl }), refl), (refl, (record { owner = tt; slot = refl }, (record { amount = lit≤ tt; not_negative = refl }, tt)), (refl, ((lit≤ tt, record { eight = refl; each = refl }), refl), (refl, ((lit≤ tt, record { eight = refl; each = refl }), refl), (refl, ((lit≤ tt, record { eight = refl; each = refl }), refl), (refl, ((lit≤ tt, record { eight = refl; each = refl }), refl), tt)))))));
  only_dynamics = tt;
  dynamics = tt;
  distinct = refl;
  only_cells = refl;
  cells = tt;
  cells_in_order = refl;
  aliases = refl;
  target = record { only_links = refl; name = tt };
  only_overrides = refl;
  overrides = tt;
  overrides_in_order = refl;
  only_members = refl;
  members = refl;
  kept = refl;
  attributes = refl;
  pieces = record { in_object = refl; in_properties = refl; only_in_cells = refl; in_cells = refl };
}

link_is_object : IsObject link
unfolding is_utf8 chars encode unicode_ident address_of address_text digits after behind split_at quoted_at attribute_at attribute_behind_blanks attributes_within tag_at end_tag_at markup_at item_at items_within repeated_behind replacement_of reference_at read_within
link_is_object = record {
  name = refl;
  label = refl;
  kind = tt;
  inputs = (refl, ((lit≤ tt, record { eight = refl; each = refl }), refl), (refl, ((lit≤ tt, record { eight = refl; each = refl }), refl), (refl, ((lit≤ tt, record { eight = refl; each = refl }), refl), (refl, ((lit≤ tt, record { eight = refl; each = refl }), refl), (refl, (tt, refl), tt)))));
  only_dynamics = refl;
  dynamics = tt;
  distinct = refl;
  only_cells = refl;
  cells = tt;
  cells_in_order = refl;
  aliases = refl;
  target = record { only_links = refl; name = refl };
  only_overrides = tt;
  overrides = (record { name = refl; content = (lit≤ tt, record { eight = refl; each = refl }) }, tt);
  overrides_in_order = refl;
  only_members = refl;
  members = refl;
  kept = refl;
  attributes = refl;
  pieces = record { in_object = refl; in_properties = refl; only_in_cells = refl; in_cells = refl };
}

second_link_is_object : IsObject second_link
unfolding is_utf8 chars encode unicode_ident address_of address_text digits after behind split_at quoted_at attribute_at attribute_behind_blanks attributes_within tag_at end_tag_at markup_at item_at items_within repeated_behind replacement_of reference_at read_within
second_link_is_object = record {
  name = refl;
  label = refl;
  kind = tt;
  inputs = (refl, ((lit≤ tt, record { eight = refl; each = refl }), refl), (refl, ((lit≤ tt, record { eight = refl; each = refl }), refl), (refl, ((lit≤ tt, record { eight = refl; each = refl }), refl), (refl, ((lit≤ tt, record { eight = refl; each = refl }), refl), (refl, (tt, refl), tt)))));
  only_dynamics = refl;
  dynamics = tt;
  distinct = refl;
  only_cells = refl;
  cells = tt;
  cells_in_order = refl;
  aliases = refl;
  target = record { only_links = refl; name = refl };
  only_overrides = tt;
  overrides = tt;
  overrides_in_order = refl;
  only_members = refl;
  members = refl;
  kept = refl;
  attributes = refl;
  pieces = record { in_object = refl; in_properties = refl; only_in_cells = refl; in_cells = refl };
}

endless_link_is_object : IsObject endless_link
unfolding is_utf8 chars encode unicode_ident address_of address_text digits after behind split_at quoted_at attribute_at attribute_behind_blanks attributes_within tag_at end_tag_at markup_at item_at items_within repeated_behind replacement_of reference_at read_within
endless_link_is_object = record {
  name = refl;
  label = refl;
  kind = tt;
  inputs = (refl, ((lit≤ tt, record { eight = refl; each = refl }), refl), (refl, ((lit≤ tt, record { eight = refl; each = refl }), refl), (refl, ((lit≤ tt, record { eight = refl; each = refl }), refl), (refl, ((lit≤ tt, record { eight = refl; each = refl }), refl), (refl, (tt, refl), tt)))));
  only_dynamics = refl;
  dynamics = tt;
  distinct = refl;
  only_cells = refl;
  cells = tt;
  cells_in_order = refl;
  aliases = refl;
  target = record { only_links = refl; name = refl };
  only_overrides = tt;
  overrides = tt;
  overrides_in_order = refl;
  only_members = refl;
  members = refl;
  kept = refl;
  attributes = refl;
  pieces = record { in_object = refl; in_properties = refl; only_in_cells = refl; in_cells = refl };
}

sheet_is_object : IsObject sheet
unfolding is_utf8 chars encode unicode_ident address_of address_text digits after behind split_at quoted_at attribute_at attribute_behind_blanks attributes_within tag_at end_tag_at markup_at item_at items_within repeated_behind replacement_of reference_at read_within
sheet_is_object = record {
  name = refl;
  label = refl;
  kind = tt;
  inputs = tt;
  only_dynamics = tt;
  dynamics = tt;
  distinct = refl;
  only_cells = tt;
  cells = (record { place = record { column_low = lit≤ tt; column_high = lit≤ tt; row_low = lit≤ tt; row_high = lit≤ tt }; no_marks = refl; content = (lit≤ tt, record { eight = refl; each = refl }); alias = tt; extra = record { sources = []; joined = refl; attributes = refl }; kept = refl }, (record { place = record { column_low = lit≤ tt; column_high = lit≤ tt; row_low = lit≤ tt; row_high = lit≤ tt }; no_marks = refl; content = tt; alias = refl; extra = record { sources = []; joined = refl; attributes = refl }; kept = refl }, (record { place = record { column_low = lit≤ tt; column_high = lit≤ tt; row_low = lit≤ tt; row_high = lit≤ tt }; no_marks = refl; content = (lit≤ tt, record { eight = refl; each = refl }); alias = refl; extra = record { sources = []; joined = refl; attributes = refl }; kept = refl }, (record { place = record { column_low = lit≤ tt; column_high = lit≤ tt; row_low = lit≤ tt; row_high = lit≤ tt }; no_marks = refl; content = (record { from = record { column_low = lit≤ tt; column_high = lit≤ tt; row_low = lit≤ tt; row_high = lit≤ tt }; to = record { column_low = lit≤ tt; column_high = lit≤ tt; row_low = lit≤ tt; row_high = lit≤ tt }; corners = record { columns = lit≤ tt; rows = lit≤ tt } }, tt); alias = tt; extra = record { sources = []; joined = refl; attributes = refl }; kept = refl }, (record { place = record { column_low = lit≤ tt; column_high = lit≤ tt; row_low = lit≤ tt; row_high = lit≤ tt }; no_marks = refl; content = (record { owner = tt; slot = refl }, record { owner = refl; slot = refl }); alias = tt; extra = record { sources = []; joined = refl; attributes = refl }; kept = refl }, tt)))));
  cells_in_order = refl;
  aliases = refl;
  target = record { only_links = refl; name = tt };
  only_overrides = refl;
  overrides = tt;
  overrides_in_order = refl;
  only_members = refl;
  members = refl;
  kept = refl;
  attributes = refl;
  pieces = record { in_object = refl; in_properties = refl; only_in_cells = tt; in_cells = refl };
}

wedge_is_object : IsObject wedge
unfolding is_utf8 chars encode unicode_ident address_of address_text digits after behind split_at quoted_at attribute_at attribute_behind_blanks attributes_within tag_at end_tag_at markup_at item_at items_within repeated_behind replacement_of reference_at read_within
wedge_is_object = record {
  name = refl;
  label = refl;
  kind = refl;
  inputs = tt;
  only_dynamics = refl;
  dynamics = tt;
  distinct = refl;
  only_cells = refl;
  cells = tt;
  cells_in_order = refl;
  aliases = refl;
  target = record { only_links = refl; name = tt };
  only_overrides = refl;
  overrides = tt;
  overrides_in_order = refl;
  only_members = refl;
  members = refl;
  kept = refl;
  attributes = refl;
  pieces = record { in_object = refl; in_properties = refl; only_in_cells = refl; in_cells = refl };
}

compound_is_plan : IsPlan compound_plan
unfolding is_utf8 chars encode unicode_ident address_of address_text digits after behind split_at quoted_at attribute_at attribute_behind_blanks attributes_within tag_at end_tag_at markup_at item_at items_within repeated_behind replacement_of reference_at read_within
compound_is_plan = record { sound = record { type_name = refl; names = refl; distinct = refl; types = refl; defaults = tt }; defaults = tt; bounds = refl; members = refl }

compound_is_object : IsObject (record (compound (codes "C") (codes "Box") []) { kept = kept_of (codes "Label") ∷ kept_of (codes "Placement") ∷ kept_of (codes "Links") ∷ [] })
unfolding is_utf8 chars encode unicode_ident address_of address_text digits after behind split_at quoted_at attribute_at attribute_behind_blanks attributes_within tag_at end_tag_at markup_at item_at items_within repeated_behind replacement_of reference_at read_within
compound_is_object = record {
  name = refl;
  label = refl;
  kind = compound_is_plan;
  inputs = (refl, ((lit≤ tt, record { eight = refl; each = refl }), refl), (refl, ((lit≤ tt, record { eight = refl; each = refl }), refl), (refl, ((lit≤ tt, record { eight = refl; each = refl }), refl), (refl, ((lit≤ tt, record { eight = refl; each = refl }), refl), tt))));
  only_dynamics = tt;
  dynamics = tt;
  distinct = refl;
  only_cells = refl;
  cells = tt;
  cells_in_order = refl;
  aliases = refl;
  target = record { only_links = refl; name = tt };
  only_overrides = refl;
  overrides = tt;
  overrides_in_order = refl;
  only_members = tt;
  members = refl;
  kept = refl;
  attributes = refl;
  pieces = record { in_object = refl; in_properties = refl; only_in_cells = refl; in_cells = refl };
}

pub well_formed_objects_work : WellFormedObjectsWork
well_formed_objects_work = record {
  linked =
      record {
        objects = (box_is_object, (link_is_object, (second_link_is_object, (endless_link_is_object, (sheet_is_object, tt)))));
        distinct = refl;
        attributes = refl;
        before = refl;
        between = refl;
        after = refl;
      };
  foreign = wedge_is_object;
  compound = compound_is_object;
  kinds = (refl, (refl, (refl, (refl, (refl, tt)))));
}
