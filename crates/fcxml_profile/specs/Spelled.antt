-- How items are spelled, without a reader: what stands where in the text.
use Rattle.std.specs.Prelude.{◌≡◌, ◌⊎◌, ℕ, ◌-◌, ◌<◌, ◌==◌, Bool, true, false, ◌&&◌, List, [], ◌∷◌, ◌++◌, length, drop, codes, None}
use Rattle.std.specs.List.{list_all, list_any}
use Rattle.fcxml_profile.specs.Fronts.{is_blank, begins_name, continues_name, after}
use Rattle.fcxml_profile.specs.Items.{Attribute, Tag, Item, declaration, comment, opening, closing, run}

-- a text of blanks, which may be empty
abbrev pub AreBlanks : List ℕ → Type 0
AreBlanks text = list_all is_blank text ≡ true

abbrev pub spells_name : List ℕ → Bool
spells_name [] = false
spells_name (c ∷ cs) = begins_name c && list_all continues_name cs

abbrev pub IsName : List ℕ → Type 0
IsName text = spells_name text ≡ true

-- the byte does not stand in the text
abbrev pub Lacks : ℕ → List ℕ → Type 0
Lacks byte text = list_any (λ c. c == byte) text ≡ false

-- a value between quotes of one kind, and what follows them
pub record SpellsValue (text value rest : List ℕ) : Type 0 where
  pub quote : ℕ
  pub kind : (quote ≡ 34) ⊎ (quote ≡ 39)
  pub stands : text ≡ quote ∷ (value ++ quote ∷ rest)
  pub unquoted : Lacks quote value
  pub no_markup : Lacks 60 value

-- an attribute of a document of length n, and what follows it
pub record SpellsAttribute (n : ℕ) (text : List ℕ) (a : Attribute) (rest : List ℕ) : Type 0 where
  pub before : List ℕ
  pub behind : List ℕ
  pub quoted : List ℕ
  pub stands : text ≡ a.name ++ (before ++ 61 ∷ (behind ++ quoted))
  pub name : IsName a.name
  pub blanks_before : AreBlanks before
  pub blanks_behind : AreBlanks behind
  pub value : SpellsValue quoted a.value.text rest
  pub place : a.place ≡ n - length text
  pub value_place : a.value.place ≡ n - (length quoted - 1)
  pub end : a.end ≡ n - length rest

-- attributes, each behind a blank at least, and what follows them
abbrev pub SpellsAttributes : ℕ → List ℕ → List Attribute → List ℕ → Type 0
SpellsAttributes n text [] rest = text ≡ rest
SpellsAttributes n text (a ∷ later) rest =
    (blanks : List ℕ) × (inner : List ℕ) × (behind : List ℕ) × (text ≡ blanks ++ inner) × AreBlanks blanks × (0 < length blanks)
    × SpellsAttribute n inner a behind × SpellsAttributes n behind later rest

abbrev pub tag_end : Bool → List ℕ
tag_end false = codes ">"
tag_end true = codes "/>"

-- a tag that opens an element or is an empty one, and what follows it
pub record SpellsTag (n : ℕ) (text : List ℕ) (t : Tag) (rest : List ℕ) : Type 0 where
  pub behind_name : List ℕ
  pub behind_attributes : List ℕ
  pub blanks : List ℕ
  pub stands : text ≡ 60 ∷ (t.name ++ behind_name)
  pub name : IsName t.name
  pub attributes : SpellsAttributes n behind_name t.attributes behind_attributes
  pub closes : behind_attributes ≡ blanks ++ (tag_end t.empty ++ rest)
  pub are_blanks : AreBlanks blanks
  pub place : t.place ≡ n - length text
  pub end : t.end ≡ n - length rest

-- the text up to the first place of the mark, and what follows the mark
pub record EndsAtFirst (mark text rest : List ℕ) : Type 0 where
  pub inner : List ℕ
  pub stands : text ≡ inner ++ (mark ++ rest)
  pub first : (k : ℕ) → k < length inner → after mark (drop k text) ≡ None

-- an end tag, and what follows it
pub record SpellsEndTag (text word rest : List ℕ) : Type 0 where
  pub blanks : List ℕ
  pub stands : text ≡ codes "</" ++ (word ++ (blanks ++ 62 ∷ rest))
  pub name : IsName word
  pub are_blanks : AreBlanks blanks

abbrev pub begins_markup : List ℕ → Bool
begins_markup [] = true
begins_markup (c ∷ cs) = c == 60

-- an item of a document of length n, and what follows it
abbrev pub SpellsItem : ℕ → List ℕ → Item → List ℕ → Type 0
SpellsItem n text declaration rest = (inner : List ℕ) × (text ≡ codes "<?xml" ++ inner) × EndsAtFirst (codes "?>") inner rest
SpellsItem n text comment rest = (inner : List ℕ) × (text ≡ codes "<!--" ++ inner) × EndsAtFirst (codes "-->") inner rest
SpellsItem n text (opening t) rest = SpellsTag n text t rest
SpellsItem n text (closing name end) rest = SpellsEndTag text name rest × (end ≡ n - length rest)
SpellsItem n text (run bytes) rest = (text ≡ bytes ++ rest) × (0 < length bytes) × Lacks 60 bytes × (begins_markup rest ≡ true)
