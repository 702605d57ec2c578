-- The worked lines hold by computation.
use Rattle.std.proofs.Common.{refl}
use Rattle.std.specs.Str.{is_utf8, chars}
use lib.Utf8.{encode}
use Rattle.unicode_ident.proofs.Computing.{unicode_ident}
use Rattle.fc_base.specs.Places.{address_of}
use Rattle.unit_signatures.specs.Table.{unit_named}
use Rattle.object_paths.specs.PathParts.{path_of}
use Rattle.fcdoc_core.specs.WorkedLines.{LinesWork}

pub lines_work : LinesWork
unfolding path_of unit_named address_of is_utf8 chars encode unicode_ident
lines_work = record {
  paths = record {
    spaced_label = refl;
    label_alone = refl;
    empty_label = refl;
    mark_in_label = refl;
    three_marks = refl;
    second_label = refl;
    not_closed = refl;
    label_behind = refl;
    one_mark = refl;
    tab_in_front = refl;
    no_label = refl;
    no_text = refl;
  };
  words = record {
    label = refl;
    spaces = refl;
    outer = refl;
    alone = refl;
    no_text = refl;
  };
  lines = record {
    get = refl;
    spaced = refl;
    expression = refl;
    set = refl;
    bind = refl;
    recompute = refl;
    label_path = refl;
    own_path = refl;
    component = refl;
    two_paths = refl;
    no_expression = refl;
    recompute_more = refl;
    no_path = refl;
    control = refl;
    tab = refl;
    no_line = refl;
  };
}
