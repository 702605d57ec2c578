-- The items that a document is made of: how each is spelled.
use Rattle.std.specs.Prelude.{ℕ, zero, suc, ◌-◌, ◌==◌, Bool, true, false, List, [], ◌∷◌, length, take, drop, codes, Option, None, Some, if◌then◌else◌}
use Rattle.std.specs.List.{prefix_len, position_or_len}
use Rattle.std.specs.Option.{option_map, option_or}
use Rattle.std.specs.Str.{bytes_eq}
use Rattle.fcxml_profile.specs.Fronts.{◌>>=◌, is_blank, after_blanks, name_at, after, behind, value_at}

-- A text as it stands in the document, and the place of its first byte.
pub record Source : Type 0 where
  pub text : List ℕ
  pub place : ℕ

-- An attribute: its name, its value as it stands between the quotes, and the places of the first byte of the name and
-- behind the closing quote.
pub record Attribute : Type 0 where
  pub name : List ℕ
  pub value : Source
  pub place : ℕ
  pub end : ℕ

-- A start tag or an empty tag, with the places of its `<` and behind its `>`.
pub record Tag : Type 0 where
  pub place : ℕ
  pub name : List ℕ
  pub attributes : List Attribute
  pub empty : Bool
  pub end : ℕ

-- An item. An end tag has its name and the place behind it; a run has its bytes.
pub data Item : Type 0 where
  declaration : Item
  comment : Item
  opening : Tag → Item
  closing : List ℕ → ℕ → Item
  run : List ℕ → Item

-- Below, n is the length of the document, and so `n - length rest` the place at which the rest of it begins.

-- a name, `=` with blanks round it, and a value
unfoldable pub attribute_at : ℕ → List ℕ → Option (Attribute × List ℕ)
attribute_at n text = do
  name ← name_at text
  sign ← after (codes "=") (after_blanks name.1)
  value ← value_at (after_blanks sign)
  Some (record { name = name.0; value = record { text = value.0; place = n - (length (after_blanks sign) - 1) }; place = n - length text; end = n - length value.1 }, value.1)

-- an attribute behind one blank at least
unfoldable pub attribute_behind_blanks : ℕ → List ℕ → Option (Attribute × List ℕ)
attribute_behind_blanks n text = if prefix_len is_blank text == 0 then None else attribute_at n (after_blanks text)

-- an attribute, if there is one, and those that are read behind it
abbrev pub and_more : Option (Attribute × List ℕ) → List ℕ → (List ℕ → List Attribute × List ℕ) → List Attribute × List ℕ
and_more None text more = ([], text)
and_more (Some found) text more = (found.0 ∷ (more found.1).0, (more found.1).1)

-- at most that many attributes in front, and what follows them
unfoldable pub attributes_within : ℕ → ℕ → List ℕ → List Attribute × List ℕ
attributes_within zero n text = ([], text)
attributes_within (suc k) n text = and_more (attribute_behind_blanks n text) text (attributes_within k n)

-- all attributes in front, each behind blanks, and what follows them
abbrev pub attributes_at : ℕ → List ℕ → List Attribute × List ℕ
attributes_at n text = attributes_within (length text) n text

-- the end of a tag, `>` or that of an empty one, `/>`: which of them, and what follows
abbrev pub tag_end_at : List ℕ → Option (Bool × List ℕ)
tag_end_at text = option_or (option_map (λ rest. (false, rest)) (after (codes ">") text)) (option_map (λ rest. (true, rest)) (after (codes "/>") text))

-- a start tag or an empty tag: `<`, a name, attributes, blanks and an end
unfoldable pub tag_at : ℕ → List ℕ → Option (Tag × List ℕ)
tag_at n text = do
  inner ← after (codes "<") text
  name ← name_at inner
  end ← tag_end_at (after_blanks (attributes_at n name.1).1)
  Some (record { place = n - length text; name = name.0; attributes = (attributes_at n name.1).0; empty = end.0; end = n - length end.1 }, end.1)

-- the rest of an end tag, behind `</`: its name, and what follows its `>`
unfoldable pub end_tag_at : List ℕ → Option (List ℕ × List ℕ)
end_tag_at inner = do
  name ← name_at inner
  rest ← after (codes ">") (after_blanks name.1)
  Some (name.0, rest)

-- an item, and what follows it
abbrev pub with_rest : Item → List ℕ → Item × List ℕ
with_rest item rest = (item, rest)

abbrev pub closing_cut : ℕ → List ℕ × List ℕ → Item × List ℕ
closing_cut n cut = (closing cut.0 (n - length cut.1), cut.1)

abbrev pub opening_cut : Tag × List ℕ → Item × List ℕ
opening_cut cut = (opening cut.0, cut.1)

-- what begins with `<`: a declaration, a comment, an end tag, or another tag. Each is known by the first of these
-- literals that it begins with, whose rest is given.
abbrev pub markup_of : ℕ → Option (List ℕ) → Option (List ℕ) → Option (List ℕ) → List ℕ → Option (Item × List ℕ)
markup_of n (Some inner) comment_inner end_inner text = option_map (with_rest declaration) (behind (codes "?>") inner)
markup_of n None (Some inner) end_inner text = option_map (with_rest comment) (behind (codes "-->") inner)
markup_of n None None (Some inner) text = option_map (closing_cut n) (end_tag_at inner)
markup_of n None None None text = option_map opening_cut (tag_at n text)

unfoldable pub markup_at : ℕ → List ℕ → Option (Item × List ℕ)
markup_at n text = markup_of n (after (codes "<?xml") text) (after (codes "<!--") text) (after (codes "</") text) text

-- the bytes up to the next `<` or the end
abbrev pub run_length : List ℕ → ℕ
run_length text = position_or_len (λ c. c == 60) text

-- the whole item in front, and what follows it
unfoldable pub item_at : ℕ → List ℕ → Option (Item × List ℕ)
item_at n [] = None
item_at n (c ∷ cs) = if c == 60 then markup_at n (c ∷ cs) else Some (run (take (run_length (c ∷ cs)) (c ∷ cs)), drop (run_length (c ∷ cs)) (c ∷ cs))

-- at most that many items, which follow one another from the front, each with what follows it
abbrev pub and_later : Option (Item × List ℕ) → (List ℕ → List (Item × List ℕ)) → List (Item × List ℕ)
and_later None later = []
and_later (Some found) later = found ∷ later found.1

unfoldable pub items_within : ℕ → ℕ → List ℕ → List (Item × List ℕ)
items_within zero n text = []
items_within (suc k) n text = and_later (item_at n text) (items_within k n)

-- all whole items from the front on, each with what follows it
abbrev pub items_at : ℕ → List ℕ → List (Item × List ℕ)
items_at n text = items_within (length text) n text

-- the value of the first attribute of that name
abbrev pub value_named : List ℕ → List Attribute → Option Source
value_named name [] = None
value_named name (a ∷ later) = if bytes_eq a.name name then Some a.value else value_named name later
