-- Private: only contracts inside this crate cite this.
-- The parts of an address, in the order in which they are read.
use Rattle.std.specs.Prelude.{ℕ, Bool, ◌&&◌, ◌==◌, nat_lt, nat_le, not, if◌then◌else◌, List, length, take, drop, slice_index, Option, Some, None}
use Rattle.std.specs.Option.{option_map}
use Rattle.std.specs.Char.{is_ascii_uppercase}
use Rattle.std.specs.Str.{all_ascii_digits}
use Rattle.std.specs.Str.Parse.{digits_value}
use Rattle.fc_base.specs.Places.{Place, column_of}

-- `$` stands in front
abbrev pub is_marked : List ℕ → Bool
is_marked text = slice_index text 0 == 36

-- what follows that `$`
abbrev pub after_mark : List ℕ → List ℕ
after_mark text = if is_marked text then drop 1 text else text

-- how many capital letters stand in front, two at most
abbrev pub letter_count : List ℕ → ℕ
letter_count text = if is_ascii_uppercase (slice_index text 0) then (if is_ascii_uppercase (slice_index text 1) then 2 else 1) else 0

-- digits without a leading zero, up to 16384
abbrev pub spells_row : List ℕ → Bool
spells_row text =
    nat_lt 0 (length text) && not (slice_index text 0 == 48) && all_ascii_digits text && nat_le (digits_value 10 text) 16384

-- the row that the text spells
abbrev pub row_of : List ℕ → Option ℕ
row_of text = if spells_row text then Some (digits_value 10 text) else None

-- the column's letters and what follows them, once its mark is read
abbrev pub place_after : Bool → List ℕ → Option Place
place_after fixed_column text =
    if letter_count text == 0 then None else option_map (λ row. record {
      column = column_of (take (letter_count text) text);
      row = row;
      fixed_column = fixed_column;
      fixed_row = is_marked (drop (letter_count text) text);
    }) (row_of (after_mark (drop (letter_count text) text)))

-- the whole address
unfoldable pub read_place : List ℕ → Option Place
read_place text = place_after (is_marked text) (after_mark text)
