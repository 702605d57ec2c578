-- Lines and their parts, cut one by one.
use Rattle.std.specs.Prelude.{◌≡◌, [], ◌∷◌, ◌++◌, None, Some, codes}
use Rattle.object_paths.specs.declared.path.Path.{Path}
use Rattle.object_paths.specs.declared.path.Owner.TheVariants.{ByName}
use Rattle.object_paths.specs.declared.slot_name.SlotName.TheVariants.{Plain}
use Rattle.doc_rules.specs.declared.edit.Edit.TheVariants.{SetValue, Bind}
use Rattle.fcdoc_core.specs.declared.command.Command.TheVariants as command
use Rattle.fcdoc_core.specs.Commands.{cut_word, cut_path, command_of}

abbrev pub width : Path
width = record { owner = ByName (codes "V"); slot = Plain (codes "a") }

-- a path ends at a space, but not at one of its label, which ends at the first `>>` behind the `<<`;
-- where no `>>` follows, the path is a word
pub record PathsAreCut : Type 0 where
  pub spaced_label : cut_path (codes "<<a b>>.x 3 mm") ≡ record { first = codes "<<a b>>.x"; rest = codes "3 mm" }
  pub label_alone : cut_path (codes "<<a b>> c") ≡ record { first = codes "<<a b>>"; rest = codes "c" }
  pub empty_label : cut_path (codes "<<>>.x y") ≡ record { first = codes "<<>>.x"; rest = codes "y" }
  pub mark_in_label : cut_path (codes "<<a>.x>>.y z") ≡ record { first = codes "<<a>.x>>.y"; rest = codes "z" }
  pub three_marks : cut_path (codes "<<a>>>.x y") ≡ record { first = codes "<<a>>>.x"; rest = codes "y" }
  pub second_label : cut_path (codes "<<a>>.x <<b c>>.y") ≡ record { first = codes "<<a>>.x"; rest = codes "<<b c>>.y" }
  pub not_closed : cut_path (codes "<<a b") ≡ record { first = codes "<<a"; rest = codes "b" }
  pub label_behind : cut_path (codes "a<<b c>>") ≡ record { first = codes "a<<b"; rest = codes "c>>" }
  pub one_mark : cut_path (codes "<a b>>.x") ≡ record { first = codes "<a"; rest = codes "b>>.x" }
  pub tab_in_front : cut_path (9 ∷ codes "<<a b>>.x") ≡ record { first = 9 ∷ codes "<<a"; rest = codes "b>>.x" }
  pub no_label : cut_path (codes "V.a  2 mm") ≡ record { first = codes "V.a"; rest = codes "2 mm" }
  pub no_text : cut_path [] ≡ record { first = []; rest = [] }

-- a word ends at the first space, wherever it stands
pub record WordsAreCut : Type 0 where
  pub label : cut_word (codes "<<a b>>.x") ≡ record { first = codes "<<a"; rest = codes "b>>.x" }
  pub spaces : cut_word (codes "set   V.a 2  mm") ≡ record { first = codes "set"; rest = codes "V.a 2  mm" }
  pub outer : cut_word (codes "get  V.a ") ≡ record { first = codes "get"; rest = codes "V.a" }
  pub alone : cut_word (codes "recompute") ≡ record { first = codes "recompute"; rest = [] }
  pub no_text : cut_word [] ≡ record { first = []; rest = [] }

-- a line spells at most one command, with nothing left over
pub record LinesAreRead : Type 0 where
  pub get : command_of (codes "get V.a") ≡ Some (command.Get width)
  pub spaced : command_of (codes "  get   V.a  ") ≡ Some (command.Get width)
  pub expression : command_of (codes "expr V.a") ≡ Some (command.Expression width)
  pub set : command_of (codes "set V.a  2 mm") ≡ Some (command.Edit (SetValue width (codes "2 mm")))
  pub bind : command_of (codes "bind V.a 2 * V.b") ≡ Some (command.Edit (Bind width (codes "2 * V.b")))
  pub recompute : command_of (codes " recompute ") ≡ Some command.Recompute
  pub label_path : command_of (codes "get <<a b>>.x") ≡ None
  pub own_path : command_of (codes "get .a") ≡ None
  pub component : command_of (codes "get V.a.Base.x") ≡ None
  pub two_paths : command_of (codes "get V.a V.b") ≡ None
  pub no_expression : command_of (codes "set V.a") ≡ None
  pub recompute_more : command_of (codes "recompute x") ≡ None
  pub no_path : command_of (codes "get") ≡ None
  pub control : command_of (codes "set V.a 2" ++ 1 ∷ []) ≡ None
  pub tab : command_of (codes "set V.a 2" ++ 9 ∷ []) ≡ Some (command.Edit (SetValue width (codes "2" ++ 9 ∷ [])))
  pub no_line : command_of [] ≡ None

pub record LinesWork : Type 0 where
  pub paths : PathsAreCut
  pub words : WordsAreCut
  pub lines : LinesAreRead
