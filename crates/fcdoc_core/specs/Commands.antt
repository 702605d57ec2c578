-- The commands that lines spell.
use Rattle.std.specs.Prelude.{ℕ, List, [], ◌∷◌, ◌++◌, reverse, nat_lt, Bool, true, false, not, ◌==◌, ◌&&◌, Option, None, Some, Result, Ok, Err, if◌then◌else◌, codes, ◌≡◌}
use Rattle.std.specs.List.{after_first, before_first, list_any}
use Rattle.std.specs.Option.{option_and_then, option_map}
use Rattle.std.specs.Str.{bytes_eq}
use Rattle.object_paths.specs.declared.path.Path.{Path}
use Rattle.object_paths.specs.declared.path.Owner.{Owner}
use Rattle.object_paths.specs.declared.path.Owner.TheVariants.{Here, ByName, ByLabel}
use Rattle.object_paths.specs.declared.slot_name.SlotName.{SlotName}
use Rattle.object_paths.specs.declared.slot_name.SlotName.TheVariants.{Plain, Component, Marked}
use Rattle.object_paths.specs.PathParts.{opened, until_closing, path_of}
use Rattle.doc_rules.specs.declared.edit.Edit.TheVariants.{SetValue, Bind}
use Rattle.fcdoc_core.specs.declared.command.Command.{Command}
use Rattle.fcdoc_core.specs.declared.command.Command.TheVariants as command
use Rattle.fcdoc_core.specs.declared.command.CommandFault.{CommandFault}
use Rattle.fcdoc_core.specs.declared.command.CommandFault.TheVariants.{NotBuilt, Memory}

-- ---- the cutting of a line

-- what follows the spaces in front
abbrev pub after_spaces : List ℕ → List ℕ
after_spaces [] = []
after_spaces (c ∷ cs) = if c == 32 then after_spaces cs else c ∷ cs

-- without the spaces at both ends
abbrev pub unspaced : List ℕ → List ℕ
unspaced text = reverse (after_spaces (reverse (after_spaces text)))

-- What is cut off the front of a text without outer spaces, and what stands behind it, without
-- outer spaces too.
pub record Cut : Type 0 where
  pub first : List ℕ
  pub rest : List ℕ

-- the first word: up to the first space, or the whole text
abbrev pub cut_word : List ℕ → Cut
cut_word text = record { first = before_first (λ c. c == 32) text; rest = unspaced (after_first (λ c. c == 32) text) }

-- a text with a label in front, of the label and what stands behind its `>>`: what stands there up
-- to the first space goes with the label. Without a label it is the first word of the text.
abbrev pub cut_at_label : Option (List ℕ × List ℕ) → List ℕ → Cut
cut_at_label None text = cut_word text
cut_at_label (Some p) text = record { first = codes "<<" ++ (p.0 ++ (codes ">>" ++ (cut_word p.1).first)); rest = (cut_word p.1).rest }

-- the path in front: from a `<<` over the first `>>` behind it to the next space, so that spaces may
-- stand in a label. Where the text begins with no `<<`, or no `>>` follows, it is the first word.
abbrev pub cut_path : List ℕ → Cut
cut_path text = cut_at_label (option_and_then until_closing (opened text)) text

-- ---- the path of a command

-- an owner that is a name
abbrev pub is_by_name : Owner → Bool
is_by_name Here = false
is_by_name (ByName name) = true
is_by_name (ByLabel label) = false

-- a slot that is a plain name
abbrev pub is_plain : SlotName → Bool
is_plain (Plain name) = true
is_plain (Component name part) = false
is_plain (Marked place) = false

-- a path of the form NAME.PROP
abbrev pub is_named_property : Path → Bool
is_named_property p = if is_by_name p.owner then is_plain p.slot else false

abbrev pub named_property : Path → Option Path
named_property p = if is_named_property p then Some p else None

-- the path of that form that a word spells
abbrev pub property_of : List ℕ → Option Path
property_of word = option_and_then named_property (path_of word)

-- ---- the commands

abbrev pub is_empty : List ℕ → Bool
is_empty [] = true
is_empty (c ∷ cs) = false

-- a path and nothing behind it
abbrev pub path_alone : Cut → Option Path
path_alone c = if is_empty c.rest then property_of c.first else None

-- a path and a text behind it that is not empty
abbrev pub path_and_text : Cut → Option (Path × List ℕ)
path_and_text c = if is_empty c.rest then None else option_map (λ path. (path, c.rest)) (property_of c.first)

-- what stands behind the word `get`
abbrev pub get_of : List ℕ → Option Command
get_of behind = option_map command.Get (path_alone (cut_path behind))

-- behind `expr`
abbrev pub expression_of : List ℕ → Option Command
expression_of behind = option_map command.Expression (path_alone (cut_path behind))

-- behind `set`
abbrev pub set_of : List ℕ → Option Command
set_of behind = option_map (λ x. command.Edit (SetValue x.0 x.1)) (path_and_text (cut_path behind))

-- behind `bind`
abbrev pub bind_of : List ℕ → Option Command
bind_of behind = option_map (λ x. command.Edit (Bind x.0 x.1)) (path_and_text (cut_path behind))

-- behind `recompute`
abbrev pub recompute_of : List ℕ → Option Command
recompute_of behind = if is_empty behind then Some command.Recompute else None

-- the command of a first word and what stands behind it, if it is one that is built
abbrev pub command_of_cut : Cut → Option Command
command_of_cut c =
    if bytes_eq c.first (codes "get") then get_of c.rest
    else if bytes_eq c.first (codes "expr") then expression_of c.rest
    else if bytes_eq c.first (codes "set") then set_of c.rest
    else if bytes_eq c.first (codes "bind") then bind_of c.rest
    else if bytes_eq c.first (codes "recompute") then recompute_of c.rest
    else None

-- a control character other than tab
abbrev pub is_control : ℕ → Bool
is_control c = nat_lt c 32 && not (c == 9)

-- the command of a line, if it is one that is built
abbrev pub command_of : List ℕ → Option Command
command_of line = if list_any is_control line then None else command_of_cut (cut_word (unspaced line))

-- what a line or a part of it spells, as a call tells it; want of memory says nothing of it
abbrev pub Reads : {A : Type 0} → Option A → Result A CommandFault → Type 0
Reads found (Ok told) = found ≡ Some told
Reads found (Err NotBuilt) = found ≡ None
Reads found (Err (Memory e)) = Unit {0}
