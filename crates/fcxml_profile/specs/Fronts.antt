-- What stands at the front of a text of XML, and what follows it.
use Rattle.std.specs.Prelude.{ℕ, suc, ◌==◌, ◌||◌, Bool, nat_le, List, [], ◌∷◌, take, drop, codes, Option, None, Some, if◌then◌else◌}
use Rattle.std.specs.Char.{is_ascii_alphabetic, is_ascii_digit}
use Rattle.std.specs.List.{prefix_len, list_any}
use Rattle.std.specs.Option.{option_or}

-- the next step of a reading goes on where this one found something
infixl 10 ◌>>=◌
abbrev pub ◌>>=◌ : {A B : Type 0} → Option A → (A → Option B) → Option B
None >>= f = None
(Some x) >>= f = f x

-- a space, a tab, a line feed or a carriage return
abbrev pub is_blank : ℕ → Bool
is_blank c = (c == 32) || (c == 9) || (c == 10) || (c == 13)

-- what follows the blanks in front
abbrev pub after_blanks : List ℕ → List ℕ
after_blanks text = drop (prefix_len is_blank text) text

-- a letter A to Z or a to z, `_`, `:` or a byte of a character past ASCII
abbrev pub begins_name : ℕ → Bool
begins_name c = is_ascii_alphabetic c || (c == 95) || (c == 58) || nat_le 128 c

-- also a digit, `.` or `-`
abbrev pub continues_name : ℕ → Bool
continues_name c = begins_name c || is_ascii_digit c || (c == 46) || (c == 45)

-- how many bytes of a name stand in front
abbrev pub name_length : List ℕ → ℕ
name_length [] = 0
name_length (c ∷ cs) = if begins_name c then suc (prefix_len continues_name cs) else 0

-- the front of that length, and what follows it; none where it is empty
abbrev pub cut_at : ℕ → List ℕ → Option (List ℕ × List ℕ)
cut_at n text = if n == 0 then None else Some (take n text, drop n text)

-- the longest name in front, and what follows it
abbrev pub name_at : List ℕ → Option (List ℕ × List ℕ)
name_at text = cut_at (name_length text) text

-- what follows the literal, where the text begins with it
unfoldable pub after : List ℕ → List ℕ → Option (List ℕ)
after [] text = Some text
after (c ∷ cs) [] = None
after (c ∷ cs) (b ∷ bs) = if c == b then after cs bs else None

-- what follows the first place where the literal stands
unfoldable pub behind : List ℕ → List ℕ → Option (List ℕ)
behind literal [] = after literal []
behind literal (c ∷ cs) = option_or (after literal (c ∷ cs)) (behind literal cs)

-- a byte more in front of what was cut off
abbrev pub with_byte : ℕ → Option (List ℕ × List ℕ) → Option (List ℕ × List ℕ)
with_byte c None = None
with_byte c (Some cut) = Some (c ∷ cut.0, cut.1)

-- what stands before the first such byte, and what follows it
unfoldable pub split_at : ℕ → List ℕ → Option (List ℕ × List ℕ)
split_at byte [] = None
split_at byte (c ∷ cs) = if c == byte then Some ([], cs) else with_byte c (split_at byte cs)

-- a text in quotes of either kind, up to the one that closes it, and what follows that
abbrev pub cut_quoted : Option (List ℕ) → Option (List ℕ) → Option (List ℕ × List ℕ)
cut_quoted (Some inner) single = split_at 34 inner
cut_quoted None (Some inner) = split_at 39 inner
cut_quoted None None = None

unfoldable pub quoted_at : List ℕ → Option (List ℕ × List ℕ)
quoted_at text = cut_quoted (after (codes "\"") text) (after (codes "'") text)

-- an attribute's value has no `<`
abbrev pub without_markup : List ℕ × List ℕ → Option (List ℕ × List ℕ)
without_markup cut = if list_any (λ c. c == 60) cut.0 then None else Some cut

-- a value between quotes, and what follows them
abbrev pub value_at : List ℕ → Option (List ℕ × List ℕ)
value_at text = quoted_at text >>= without_markup
