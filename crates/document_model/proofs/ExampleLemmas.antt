-- The worked examples hold by computation.
use Rattle.std.proofs.Common.{refl, lit≤}
use Rattle.std.specs.Prelude.{IsTrue, codes}
use Rattle.std.specs.Fmt.{digits}
use Rattle.std.specs.Str.{is_utf8, chars}
use lib.Utf8.{encode}
use Rattle.fc_base.specs.Places.{address_of, address_text}
use Rattle.fc_base.specs.Texts.{is_name}
use Rattle.document_model.specs.Examples.{varset, OneVarsetWorks}
use Rattle.document_model.specs.LinkedBox.{LinkedBoxWorks}
use Rattle.document_model.specs.WellFormed.{IsObject}
use Rattle.document_model.specs.Resolution.{resolve}
use Rattle.document_model.specs.Dependencies.{deps}
use Rattle.document_model.proofs.AsciiNames.{spells_word}

name_v : IsTrue (is_name (codes "V"))
unfolding is_utf8 chars encode
name_v = spells_word (codes "V") refl

name_a : IsTrue (is_name (codes "a"))
unfolding is_utf8 chars encode
name_a = spells_word (codes "a") refl

varset_is_object : IsObject varset
unfolding is_utf8 chars encode
varset_is_object = record {
  name = name_v;
  label = refl;
  kind = tt;
  inputs = tt;
  only_dynamics = tt;
  dynamics = (record { name = rw name_a; type = refl; group = refl; doc = refl; attributes = refl; contents = (((lit≤ tt, record { eight = refl; each = refl }), refl), tt) }, tt);
  distinct = refl;
  only_cells = refl;
  cells = tt;
  cells_in_order = refl;
  aliases = refl;
  target = record { only_links = refl; name = tt };
  only_overrides = refl;
  overrides = tt;
  overrides_in_order = refl;
  only_members = refl;
  members = refl;
  kept = refl;
  attributes = refl;
  pieces = record { in_object = refl; in_properties = refl; only_in_cells = refl; in_cells = refl };
}

pub one_varset_works : OneVarsetWorks
unfolding resolve deps
one_varset_works = record {
  listed = refl;
  typed = refl;
  ruled = refl;
  independent = refl;
  named = λ o. refl;
  well_formed = record { objects = (varset_is_object, tt); distinct = refl; attributes = refl; before = refl; between = refl; after = refl };
}

pub linked_box_works : LinkedBoxWorks
unfolding resolve deps address_of address_text digits
linked_box_works = record {
  count = refl;
  overridden = refl;
  inherited = refl;
  typed = refl;
  untyped = refl;
  endless = refl;
  of_binding = refl;
  of_own = refl;
  of_inherited = refl;
  of_output = refl;
  of_global = refl;
  of_area = refl;
  of_alias = refl;
  by_address = refl;
  not_filled = refl;
  no_whole_placement = refl;
  inputs = refl;
}
