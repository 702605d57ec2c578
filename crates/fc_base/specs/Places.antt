-- The places of a sheet's cells, how they are spelled, and rectangles of them.
use Rattle.std.specs.Prelude.{◌≡◌, ℕ, ◌+◌, ◌-◌, ◌*◌, ◌/◌, ◌%◌, ◌≤◌, Bool, false, ◌&&◌, ◌||◌, ◌==◌, nat_lt, nat_le, if◌then◌else◌, List, [], ◌∷◌, ◌++◌, length, take, drop, slice_index, filter, fold, Option, Some, None}
use Rattle.std.specs.List.{list_all, list_any}
use Rattle.std.specs.Char.{is_ascii_uppercase, is_ascii_digit}
use Rattle.std.specs.Fmt.{decimal}
use Rattle.std.specs.Str.{bytes_eq}
use Rattle.std.specs.Str.Parse.{digits_value}

-- A cell's place, and which parts of its spelling are marked by `$`.
pub record Place : Type 0 where
  pub column : ℕ
  pub row : ℕ
  pub fixed_column : Bool
  pub fixed_row : Bool

-- columns A to ZZ, rows 1 to 16384
pub record IsPlace (p : Place) : Type 0 where
  pub column_low : 1 ≤ p.column
  pub column_high : p.column ≤ 702
  pub row_low : 1 ≤ p.row
  pub row_high : p.row ≤ 16384

-- the same, as a test
abbrev pub is_place : Place → Bool
is_place place =
    nat_le 1 place.column && nat_le place.column 702 && nat_le 1 place.row && nat_le place.row 16384

-- a marked part has a `$` in front
abbrev pub mark_text : Bool → List ℕ
mark_text marked = if marked then 36 ∷ [] else []

-- columns 1 to 26 are A to Z, and 27 to 702 are AA to ZZ
abbrev pub column_text : ℕ → List ℕ
column_text column = if nat_le column 26 then (column + 64) ∷ [] else ((column - 1) / 26 + 64) ∷ ((column - 1) % 26 + 65) ∷ []

-- the spelling of a place: its column in letters, its row in decimal, and its marks
unfoldable pub address_text : Place → List ℕ
address_text p = mark_text p.fixed_column ++ (column_text p.column ++ (mark_text p.fixed_row ++ decimal p.row))

-- the text is the spelling of the place, which a sheet has
pub record Spells (text : List ℕ) (p : Place) : Type 0 where
  pub place : IsPlace p
  pub spelling : address_text p ≡ text

-- the column that letters name: A is 1, Z is 26, AA is 27
abbrev pub column_of : List ℕ → ℕ
column_of letters = fold (λ n c. n * 26 + (c - 64)) 0 letters

-- the place whose letters, digits and marks stand in the text
abbrev pub named_place : List ℕ → Place
named_place text = record {
  column = column_of (filter is_ascii_uppercase text);
  row = digits_value 10 (filter is_ascii_digit text);
  fixed_column = slice_index text 0 == 36;
  fixed_row = list_any (λ c. c == 36) (drop 1 text);
}

-- the place that the text spells: it is an address or a marked address where it is the spelling of
-- the place that it names, and none otherwise
unfoldable pub address_of : List ℕ → Option Place
address_of text =
    if is_place (named_place text) && bytes_eq (address_text (named_place text)) text then Some (named_place text) else None

-- that many capital letters A to Z and then digits, one at least
abbrev pub is_letters_and_digits : ℕ → List ℕ → Bool
is_letters_and_digits letters text =
    nat_lt letters (length text) && list_all is_ascii_uppercase (take letters text) && list_all is_ascii_digit (drop letters text)

-- a name that has the form of an address, its numbers aside
abbrev pub looks_like_address : List ℕ → Bool
looks_like_address text = is_letters_and_digits 1 text || is_letters_and_digits 2 text

-- the place with no mark
abbrev pub unmarked : Place → Place
unmarked p = record p { fixed_column = false; fixed_row = false }

-- one cell, whatever the marks
abbrev pub same_address : Place → Place → Bool
same_address p q = (p.column == q.column) && (p.row == q.row)

-- The two corners of a rectangle of cells.
pub record Block : Type 0 where
  pub from : Place
  pub to : Place

-- the first corner is neither right of nor below the second
pub record IsBlock (b : Block) : Type 0 where
  pub columns : b.from.column ≤ b.to.column
  pub rows : b.from.row ≤ b.to.row

-- the cell lies in the rectangle, whatever the marks
abbrev pub is_within : Block → Place → Bool
is_within b p =
    nat_le b.from.column p.column && nat_le p.column b.to.column && nat_le b.from.row p.row && nat_le p.row b.to.row
