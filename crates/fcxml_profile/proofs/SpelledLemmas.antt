-- Tags that a text spells in front are read, and lead to what stands behind them.
use Rattle.std.proofs.Common.{◌≡◌, ℕ, ◌-◌, Bool, true, false, cond, not, ◌&&◌, ◌||◌, List, [], ◌∷◌, ◌++◌, length, map, codes, None, Some, refl, ap, ◌∙◌, eqb, ltb}
use Rattle.std.specs.Prelude.{is_none}
use Rattle.std.specs.List.{list_any, prefix_len}
use Rattle.std.proofs.lemmas.Bool.{or_parts}
use Rattle.fcxml_profile.specs.Fronts.{◌>>=◌, is_blank, after_blanks, name_at, after, quoted_at, value_at, without_markup}
use Rattle.fcxml_profile.specs.Items.{Attribute, Tag, Item, opening, attribute_at, attribute_behind_blanks, attributes_at, tag_end_at, tag_at, markup_at, item_at}
use Rattle.fcxml_profile.specs.Standing.{Standing, may_stand, behind_item, behind_items, rest_behind, standing_item, has_open, most_open, is_among, repeated_behind, repeated}
use Rattle.fcxml_profile.specs.Faults.{fault_behind}
use Rattle.fcxml_profile.specs.Scanning.{fault_of}
use Rattle.fcxml_profile.proofs.AttributeLemmas.{attributes-more}
use Rattle.fcxml_profile.proofs.FrontLemmas.{IsWithout, split_at-append}
use Rattle.fcxml_profile.proofs.ScanLemmas.{standing-more}

-- ---- values

-- a text that may stand between double quotes as it is: it has no `"` and no `<`
pub record IsPlain (text : List ℕ) : Type 0 where
  pub no_quote : IsWithout 34 text
  pub no_markup : IsWithout 60 text

none_any : (text : List ℕ) → IsWithout 60 text → list_any (λ c. eqb c 60) text ≡ false
none_any [] none = refl
none_any (c ∷ cs) none = rw (none.0, none_any cs none.1)

pub value_at-plain : (text rest : List ℕ) → IsPlain text → value_at (34 ∷ (text ++ 34 ∷ rest)) ≡ Some (text, rest)
unfolding quoted_at after
value_at-plain text rest plain =
    ap (λ cut. cut >>= without_markup) (split_at-append 34 text rest plain.no_quote)
    ∙ ap (λ b. cond b None (Some (text, rest))) (none_any text plain.no_markup)

-- ---- items

-- what is wrong behind an item that may stand where it does is what is wrong
pub item_leads : (s : Standing) (n : ℕ) (text : List ℕ) (item : Item) (rest : List ℕ) → item_at n text ≡ Some (item, rest) → may_stand s item ≡ true
    → fault_of s n text ≡ fault_of (behind_item s item) n rest
item_leads s n text item rest read stands =
    let both : standing_item s (item_at n text) ≡ Some (item, rest) = rw (read, stands) in
    ap (λ found. fault_behind (behind_items s found) n (rest_behind text found)) (standing-more s n text (item, rest) both)

-- ---- attributes

-- the names of the attributes in front of a text, and what follows them
pub record HasAttributes (n : ℕ) (text : List ℕ) (names : List (List ℕ)) (rest : List ℕ) : Type 0 where
  pub named : map (λ a. a.name) (attributes_at n text).0 ≡ names
  pub follows : (attributes_at n text).1 ≡ rest

one_more : (n : ℕ) (text : List ℕ) (found : Attribute × List ℕ) (name : List ℕ) (names : List (List ℕ)) (rest : List ℕ)
    → attribute_behind_blanks n text ≡ Some found → found.0.name ≡ name → HasAttributes n found.1 names rest → HasAttributes n text (name ∷ names) rest
one_more n text found name names rest e is more =
    let all = attributes-more n text found e in
    record {
      named = ap (λ (r : List Attribute × List ℕ). map (λ a. a.name) r.0) all ∙ ap (λ (x : List ℕ). x ∷ map (λ a. a.name) (attributes_at n found.1).0) is ∙ ap (λ xs. name ∷ xs) more.named;
      follows = ap (λ (r : List Attribute × List ℕ). r.1) all ∙ more.follows;
    }

-- an attribute behind a space
attribute_read : (n : ℕ) (text name value rest : List ℕ) → prefix_len is_blank text ≡ 0 → name_at text ≡ Some (name, 61 ∷ 34 ∷ (value ++ 34 ∷ rest)) → IsPlain value
    → attribute_behind_blanks n (32 ∷ text) ≡ Some (
      record { name = name; value = record { text = value; place = n - (length (34 ∷ (value ++ 34 ∷ rest)) - 1) }; place = n - length text; end = n - length rest },
      rest,
    )
unfolding attribute_behind_blanks attribute_at after
attribute_read n text name value rest blank named plain = rw (blank, named, value_at-plain value rest plain)

-- a plain attribute in front of others
pub attribute_more : (n : ℕ) (text name value rest : List ℕ) (names : List (List ℕ)) (end : List ℕ) → prefix_len is_blank text ≡ 0
    → name_at text ≡ Some (name, 61 ∷ 34 ∷ (value ++ 34 ∷ rest)) → IsPlain value → HasAttributes n rest names end → HasAttributes n (32 ∷ text) (name ∷ names) end
attribute_more n text name value rest names end blank named plain more =
    one_more n (32 ∷ text) _ name names end (attribute_read n text name value rest blank named plain) refl more

-- ---- tags

-- one of the names stood before, or is among those seen
abbrev pub repeats : List (List ℕ) → List (List ℕ) → Bool
repeats seen [] = false
repeats seen (name ∷ names) = is_among name seen || repeats (seen ++ name ∷ []) names

none_repeated : (seen : List (List ℕ)) (attributes : List Attribute) → repeats seen (map (λ a. a.name) attributes) ≡ false → repeated_behind seen attributes ≡ None
unfolding repeated_behind
none_repeated seen [] once = refl
none_repeated seen (a ∷ later) once =
    let parts = or_parts (is_among a.name seen) (repeats (seen ++ a.name ∷ []) (map (λ b. b.name) later)) once in
    rw parts.0 (none_repeated (seen ++ a.name ∷ []) later parts.1)

-- a tag in front: its name, the names of its attributes, whether it is empty, and what follows
pub record HasTag (n : ℕ) (inner name : List ℕ) (names : List (List ℕ)) (empty : Bool) (rest : List ℕ) : Type 0 where
  pub behind_name : List ℕ
  pub behind_attributes : List ℕ
  pub named : name_at inner ≡ Some (name, behind_name)
  pub attributes : HasAttributes n behind_name names behind_attributes
  pub ended : tag_end_at (after_blanks behind_attributes) ≡ Some (empty, rest)

tag_read : (n : ℕ) (inner name : List ℕ) (names : List (List ℕ)) (empty : Bool) (rest : List ℕ) (has : HasTag n inner name names empty rest)
    → tag_at n (60 ∷ inner) ≡ Some (record { place = n - length (60 ∷ inner); name = name; attributes = (attributes_at n has.behind_name).0; empty = empty; end = n - length rest }, rest)
unfolding tag_at after
tag_read n inner name names empty rest has =
    let ended : tag_end_at (after_blanks (attributes_at n has.behind_name).1) ≡ Some (empty, rest) = ap (λ t. tag_end_at (after_blanks t)) has.attributes.follows ∙ has.ended in
    rw (has.named, ended) refl

-- what begins with `<` and none of the other marks of markup
abbrev pub IsTagFront : List ℕ → Type 0
IsTagFront text = (after (codes "<?xml") text ≡ None) × (after (codes "<!--") text ≡ None) × (after (codes "</") text ≡ None)

tag_item : (n : ℕ) (inner : List ℕ) (t : Tag) (rest : List ℕ) → IsTagFront (60 ∷ inner) → tag_at n (60 ∷ inner) ≡ Some (t, rest) → item_at n (60 ∷ inner) ≡ Some (opening t, rest)
unfolding item_at markup_at
tag_item n inner t rest front read = rw (front.0, front.1, front.2, read) refl

-- a tag may stand where an element is open or none has begun, and fewer than 64 are
abbrev pub takes_tag : Standing → Bool
takes_tag s = (not s.rooted || has_open s.elements) && ltb (length s.elements) most_open

pub tag_leads : (s : Standing) (n : ℕ) (inner name : List ℕ) (names : List (List ℕ)) (empty : Bool) (rest : List ℕ) → IsTagFront (60 ∷ inner) → HasTag n inner name names empty rest
    → takes_tag s ≡ true → repeats [] names ≡ false
    → fault_of s n (60 ∷ inner) ≡ fault_of (record { begun = true; rooted = true; elements = cond empty s.elements (s.elements ++ name ∷ []) }) n rest
tag_leads s n inner name names empty rest front has takes once =
    let t : Tag = record { place = n - length (60 ∷ inner); name = name; attributes = (attributes_at n has.behind_name).0; empty = empty; end = n - length rest } in
    let none : is_none (repeated t) ≡ true =
    ap is_none (none_repeated [] (attributes_at n has.behind_name).0 (ap (repeats []) has.attributes.named ∙ once)) in
    item_leads s n (60 ∷ inner) (opening t) rest (tag_item n inner t rest front (tag_read n inner name names empty rest has)) (rw (takes, none))

-- a tag whose first attribute has a plain value
pub valued_tag : (n : ℕ) (name key value more rest : List ℕ) (names : List (List ℕ)) (end : List ℕ) (empty : Bool)
    → ((x : List ℕ) → name_at (name ++ 32 ∷ x) ≡ Some (name, 32 ∷ x)) → ((x : List ℕ) → name_at (key ++ 61 ∷ x) ≡ Some (key, 61 ∷ x))
    → ((x : List ℕ) → prefix_len is_blank (key ++ x) ≡ 0) → IsPlain value → HasAttributes n more names end → tag_end_at (after_blanks end) ≡ Some (empty, rest)
    → HasTag n (name ++ 32 ∷ (key ++ 61 ∷ 34 ∷ (value ++ 34 ∷ more))) name (key ∷ names) empty rest
valued_tag n name key value more rest names end empty named keyed tight plain later ended = record {
  behind_name = 32 ∷ (key ++ 61 ∷ 34 ∷ (value ++ 34 ∷ more));
  behind_attributes = end;
  named = named (key ++ 61 ∷ 34 ∷ (value ++ 34 ∷ more));
  attributes = attribute_more n (key ++ 61 ∷ 34 ∷ (value ++ 34 ∷ more)) key value more names end (tight (61 ∷ 34 ∷ (value ++ 34 ∷ more))) (keyed (34 ∷ (value ++ 34 ∷ more))) plain later;
  ended = ended;
}
