-- An attribute's value as it is meant: its references are replaced, and each line end or tab in it is a space.
use Rattle.std.specs.Prelude.{ℕ, zero, suc, ◌+◌, ◌-◌, ◌==◌, Bool, false, ◌&&◌, ◌||◌, nat_le, List, [], ◌∷◌, ◌++◌, length, codes, Option, None, Some, Result, Ok, Err, if◌then◌else◌, encode_utf8}
use Rattle.std.specs.Char.{is_ascii_digit, is_ascii_hexdigit}
use Rattle.std.specs.List.{list_all}
use Rattle.std.specs.Option.{unwrap_or}
use Rattle.std.specs.Str.{bytes_eq}
use Rattle.std.specs.Str.Parse.{digits_value}
use Rattle.fcxml_profile.specs.Fronts.{◌>>=◌, after, split_at}
use Rattle.fcxml_profile.specs.Items.{Source}

-- a character that XML allows
abbrev pub is_xml_character : ℕ → Bool
is_xml_character c = (c == 9) || (c == 10) || (c == 13) || (nat_le 32 c && nat_le c 55295) || (nat_le 57344 c && nat_le c 65533) || (nat_le 65536 c && nat_le c 1114111)

-- the bytes of the character of that number
abbrev pub character_of : ℕ → Option (List ℕ)
character_of n = if is_xml_character n then Some (encode_utf8 n) else None

-- one digit at least, and nothing else
abbrev pub are_digits : (ℕ → Bool) → List ℕ → Bool
are_digits is_digit [] = false
are_digits is_digit (c ∷ cs) = list_all is_digit (c ∷ cs)

-- the character that a number in decimal or hexadecimal digits names
abbrev pub numbered : (ℕ → Bool) → ℕ → List ℕ → Option (List ℕ)
numbered is_digit radix digits = if are_digits is_digit digits then character_of (digits_value radix digits) else None

-- `x41` or `65`, which follows `#`
abbrev pub number_of : Option (List ℕ) → List ℕ → Option (List ℕ)
number_of (Some digits) text = numbered is_ascii_hexdigit 16 digits
number_of None text = numbered is_ascii_digit 10 text

abbrev pub numbered_or_none : Option (List ℕ) → Option (List ℕ)
numbered_or_none None = None
numbered_or_none (Some text) = number_of (after (codes "x") text) text

-- what stands for a reference, of what is written between `&` and `;`
unfoldable pub replacement_of : List ℕ → Option (List ℕ)
replacement_of name =
    if bytes_eq name (codes "amp") then Some (codes "&")
    else (if bytes_eq name (codes "lt") then Some (codes "<")
    else (if bytes_eq name (codes "gt") then Some (codes ">")
    else (if bytes_eq name (codes "quot") then Some (codes "\"")
    else (if bytes_eq name (codes "apos") then Some (codes "'")
    else numbered_or_none (after (codes "#") name)))))

-- a reference in front, behind its `&`: what stands for it, and what follows its `;`
unfoldable pub reference_at : List ℕ → Option (List ℕ × List ℕ)
reference_at text = do
  cut ← split_at 59 text
  bytes ← replacement_of cut.0
  Some (bytes, cut.1)

-- bytes in front of what is read behind them
abbrev pub with_front : List ℕ → Result (List ℕ) ℕ → Result (List ℕ) ℕ
with_front front (Ok bytes) = Ok (front ++ bytes)
with_front front (Err place) = Err place

-- a reference, or the place of a `&` that begins none
abbrev pub replaced : Option (List ℕ × List ℕ) → ℕ → (List ℕ → Result (List ℕ) ℕ) → Result (List ℕ) ℕ
replaced None place read = Err place
replaced (Some found) place read = with_front found.0 (read found.1)

-- a tab, a line feed or a carriage return
abbrev pub is_spacing : ℕ → Bool
is_spacing c = (c == 9) || (c == 10) || (c == 13)

-- what follows a carriage return: a line feed behind it belongs to it
abbrev pub after_return : List ℕ → List ℕ
after_return text = unwrap_or (after (10 ∷ []) text) text

-- a byte that is no `&`, and what is read behind it
abbrev pub plain : ℕ → List ℕ → (List ℕ → Result (List ℕ) ℕ) → Result (List ℕ) ℕ
plain c cs read =
    if c == 13 then with_front (32 ∷ []) (read (after_return cs))
    else with_front ((if is_spacing c then 32 else c) ∷ []) (read cs)

-- at most that many characters of a text that ends at the place `end` of the document, or the place of the first `&`
-- that begins no reference
unfoldable pub read_within : ℕ → ℕ → List ℕ → Result (List ℕ) ℕ
read_within zero end text = Ok []
read_within (suc k) end [] = Ok []
read_within (suc k) end (c ∷ cs) =
    if c == 38 then replaced (reference_at cs) (end - length (c ∷ cs)) (read_within k end) else plain c cs (read_within k end)

-- the value that a text in quotes means, or the place of the first `&` in it that begins no reference
abbrev pub read : Source → Result (List ℕ) ℕ
read s = read_within (length s.text) (s.place + length s.text) s.text
