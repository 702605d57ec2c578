-- The texts of a document: names, labels and values of properties.
use Rattle.std.specs.Prelude.{ℕ, Bool, false, ◌&&◌, ◌||◌, ◌==◌, nat_lt, nat_le, not, List, [], ◌∷◌, length}
use Rattle.std.specs.List.{list_all, list_any}
use Rattle.std.specs.Str.{chars, is_utf8}
use Rattle.std.specs.Char.{is_ascii_alphanumeric}
use Rattle.unicode_ident.specs.Ident.{is_xid_start, is_xid_continue}

-- a character that may stand first in a name: an XID start character or `_`
abbrev pub begins_name : ℕ → Bool
begins_name c = is_xid_start c || (c == 95)

-- the first character may begin a name, and each further one may go on in it
abbrev pub spells_name : List ℕ → Bool
spells_name [] = false
spells_name (c ∷ cs) = begins_name c && list_all is_xid_continue cs

-- a Name: a text of 1 to 64 bytes that spells a name
abbrev pub is_name : List ℕ → Bool
is_name text = is_utf8 text && nat_le (length text) 64 && spells_name (chars text)

-- a byte that can stand in a name: an ASCII letter, a digit, `_`, or part of a character past ASCII
abbrev pub is_name_byte : ℕ → Bool
is_name_byte b = nat_le 128 b || is_ascii_alphanumeric b || (b == 95)

-- a control character is one below U+0020, and in UTF-8 it is that byte
abbrev pub is_control : ℕ → Bool
is_control c = nat_lt c 32

-- `>>` stands somewhere in the text
abbrev pub has_closing_mark : List ℕ → Bool
has_closing_mark [] = false
has_closing_mark (a ∷ []) = false
has_closing_mark (a ∷ b ∷ rest) = (a == 62) && (b == 62) || has_closing_mark (b ∷ rest)

-- the last byte is `>`
abbrev pub ends_in_mark : List ℕ → Bool
ends_in_mark [] = false
ends_in_mark (a ∷ []) = a == 62
ends_in_mark (a ∷ b ∷ rest) = ends_in_mark (b ∷ rest)

-- a Label: 1 to 255 bytes, without `>>`, control characters or a `>` at the end
abbrev pub is_label : List ℕ → Bool
is_label text =
    is_utf8 text && nat_lt 0 (length text) && nat_le (length text) 255 && not (has_closing_mark text)
    && not (list_any is_control text) && not (ends_in_mark text)

-- a character that a text value may hold: tab, LF, CR, or none of the control characters
abbrev pub is_text_byte : ℕ → Bool
is_text_byte c = not (is_control c) || (c == 9) || (c == 10) || (c == 13)

-- a TextValue: at most 1,024 bytes
abbrev pub is_text_value : List ℕ → Bool
is_text_value text = is_utf8 text && nat_le (length text) 1024 && list_all is_text_byte text
