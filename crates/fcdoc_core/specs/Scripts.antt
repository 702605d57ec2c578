-- The lines of a script.
use Rattle.std.specs.Prelude.{ℕ, ◌+◌, List, [], ◌∷◌, filter, length, Bool, false, not, ◌||◌, ◌==◌, nat_le, Option, None, Some, Result, Ok, Err, if◌then◌else◌}
use Rattle.std.specs.List.{list_all}
use Rattle.std.specs.Option.{option_or}
use Rattle.std.specs.Str.{is_utf8}
use Rattle.std.specs.Str.Lines.{lines}

-- the most bytes that a document or a script of a run has: 16 MiB
abbrev pub most_bytes : ℕ
most_bytes = 16777216

-- the most lines that a script has
abbrev pub most_lines : ℕ
most_lines = 100000

-- the most bytes that a line has, without its end
abbrev pub most_line_bytes : ℕ
most_line_bytes = 4096

-- Why bytes are no script: the line with this number, counted from 1, is the first wrong one, as it is
-- not UTF-8 or too long; or no line is wrong, and there are too many.
pub data Unreadable : Type 0 where
  not_utf8 : ℕ → Unreadable
  line_too_long : ℕ → Unreadable
  too_many_lines : Unreadable

-- what is wrong with a line that has this number, if anything
abbrev pub line_fault : ℕ → List ℕ → Option Unreadable
line_fault number line =
    if is_utf8 line then (if nat_le (length line) most_line_bytes then None else Some (line_too_long number)) else Some (not_utf8 number)

-- what is wrong with the first wrong one of lines that are numbered from this number on
abbrev pub first_line_fault : ℕ → List (List ℕ) → Option Unreadable
first_line_fault number [] = None
first_line_fault number (line ∷ rest) = option_or (line_fault number line) (first_line_fault (number + 1) rest)

-- lines of which none is wrong
abbrev pub few_enough : List (List ℕ) → Result (List (List ℕ)) Unreadable
few_enough all = if nat_le (length all) most_lines then Ok all else Err too_many_lines

-- all lines, or what is wrong with the first wrong one
abbrev pub script_of_lines : Option Unreadable → List (List ℕ) → Result (List (List ℕ)) Unreadable
script_of_lines (Some cause) all = Err cause
script_of_lines None all = few_enough all

-- All lines of the script that the bytes are the text of, or why they are the text of none.
abbrev pub script_of : List ℕ → Result (List (List ℕ)) Unreadable
script_of bytes = script_of_lines (first_line_fault 1 (lines bytes)) (lines bytes)

-- ---- the lines that give replies

-- a line that begins with `#`
abbrev pub is_comment : List ℕ → Bool
is_comment [] = false
is_comment (c ∷ cs) = c == 35

-- a line that gives no reply: an empty one, one of spaces, and a comment
abbrev pub is_skipped : List ℕ → Bool
is_skipped line = list_all (λ c. c == 32) line || is_comment line

-- the lines that give replies, in order
abbrev pub with_replies : List (List ℕ) → List (List ℕ)
with_replies all = filter (λ line. not (is_skipped line)) all
