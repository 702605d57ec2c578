-- What follows something in front of a text is shorter than the text.
use Rattle.std.proofs.Common.{◌≡◌, ◌<◌, ◌≤◌, ◌+◌, ℕ, zero, suc, Bool, true, false, not, cond, List, [], ◌∷◌, length, drop, take, codes, Option, None, Some, refl, ap, ◌∙◌, subst, arith, eqb}
use Rattle.std.specs.Option.{option_map, option_or}
use Rattle.std.specs.List.{prefix_len, list_any}
use Rattle.std.proofs.lemmas.List.{length-drop, length-append}
use Rattle.std.proofs.lemmas.Bool.{eqb-false}
use Rattle.std.proofs.lemmas.List.Sums.{prefix_len-le-length}
use Rattle.fcxml_profile.specs.Fronts.{◌>>=◌, is_blank, begins_name, continues_name, name_length, cut_at, name_at, after_blanks, after, behind, with_byte, split_at, cut_quoted, quoted_at, without_markup, value_at}
use Rattle.fcxml_profile.specs.Items.{Attribute, Tag, Item, run, attribute_at, attribute_behind_blanks, attributes_within, attributes_at, and_more, tag_end_at, tag_at, end_tag_at, markup_of, markup_at, with_rest, closing_cut, opening_cut, run_length, item_at}
use Rattle.fcxml_profile.proofs.FrontLemmas.{after_some}

-- a reading that goes on found something to go on behind
pub bind_some : {A B : Type 0} (o : Option A) (f : A → Option B) (y : B) → (o >>= f) ≡ Some y → (x : A) × (o ≡ Some x) × (f x ≡ Some y)
bind_some None f y e = absurd (cc)
bind_some (Some x) f y e = (x, refl, e)

pub goes : {A B : Type 0} (o : Option A) (f : A → Option B) (x : A) (y : Option B) → o ≡ Some x → f x ≡ y → (o >>= f) ≡ y
goes o f x y found next = ap (λ z. z >>= f) found ∙ next

pub not_true : (b : Bool) → not b ≡ true → b ≡ false
not_true true e = absurd (cc)
not_true false e = refl

pub cond_none : {A : Type 0} (b : Bool) (x y : A) → cond b None (Some x) ≡ Some y → (b ≡ false) × (x ≡ y)
cond_none true x y e = absurd (cc)
cond_none false x y e = (refl, cc)

pub map_some : {A B : Type 0} (f : A → B) (o : Option A) (y : B) → option_map f o ≡ Some y → (x : A) × (o ≡ Some x) × (f x ≡ y)
map_some f None y e = absurd (cc)
map_some f (Some x) y e = (x, refl, cc)

pub blanks-le : (text : List ℕ) → length (after_blanks text) ≤ length text
blanks-le text = omega (arith, length-drop (prefix_len is_blank text) text)

name_length-le : (text : List ℕ) → name_length text ≤ length text
name_length-le [] = omega arith
name_length-le (c ∷ cs) = elim (begins_name c) as (λ b. cond b (suc (prefix_len continues_name cs)) 0 ≤ length (c ∷ cs)) [
  | true ↦ omega (arith, prefix_len-le-length continues_name cs)
  | false ↦ omega arith
]

cut_at-shorter : (n : ℕ) (text : List ℕ) (cut : List ℕ × List ℕ) → n ≤ length text → cut_at n text ≡ Some cut → length cut.1 < length text
cut_at-shorter n text cut most e =
    let same = cond_none (eqb n 0) (take n text, drop n text) cut e in
    let P : List ℕ × List ℕ → Type 0 = λ p. length p.1 < length text in
    let some = eqb-false n 0 same.0 in
    subst P same.1 (omega (arith, length-drop n text))

pub name_at-shorter : (text : List ℕ) (cut : List ℕ × List ℕ) → name_at text ≡ Some cut → length cut.1 < length text
name_at-shorter text cut e = cut_at-shorter (name_length text) text cut (name_length-le text) e

pub after-shorter : (literal text rest : List ℕ) → after literal text ≡ Some rest → length rest + length literal ≡ length text
after-shorter literal text rest e = let size = ap length (after_some literal text rest e) in omega (arith, length-append literal rest)

pub behind-le : (literal text rest : List ℕ) → behind literal text ≡ Some rest → length rest ≤ length text
unfolding behind
behind-le literal [] rest e = omega (arith, after-shorter literal [] rest e)
behind-le literal (c ∷ cs) rest e =
    elim (after literal (c ∷ cs)) as (λ a. after literal (c ∷ cs) ≡ a → option_or a (behind literal cs) ≡ Some rest → length rest ≤ length (c ∷ cs)) [
      | None ↦ λ _ later. omega (arith, behind-le literal cs rest later)
      | Some found ↦ λ here same. omega (arith, after-shorter literal (c ∷ cs) rest (here ∙ same))
    ] refl e

with_byte-shorter : (c : ℕ) (cs : List ℕ) (q : Option (List ℕ × List ℕ)) (cut : List ℕ × List ℕ) → ((inner : List ℕ × List ℕ) → q ≡ Some inner → length inner.1 < length cs)
    → with_byte c q ≡ Some cut → length cut.1 < length (c ∷ cs)
with_byte-shorter c cs None cut shorter e = absurd (cc)
with_byte-shorter c cs (Some inner) cut shorter e =
    let same : (c ∷ inner.0, inner.1) ≡ cut = cc in
    let P : List ℕ × List ℕ → Type 0 = λ p. length p.1 < length (c ∷ cs) in
    subst P same (omega (arith, shorter inner refl))

pub split_at-shorter : (byte : ℕ) (text : List ℕ) (cut : List ℕ × List ℕ) → split_at byte text ≡ Some cut → length cut.1 < length text
unfolding split_at
split_at-shorter byte [] cut e = absurd (cc)
split_at-shorter byte (c ∷ cs) cut e =
    elim (eqb c byte) as (λ t. cond t (Some ([], cs)) (with_byte c (split_at byte cs)) ≡ Some cut → length cut.1 < length (c ∷ cs)) [
      | true ↦ λ found.
          let same : ([], cs) ≡ cut = cc in
          let P : List ℕ × List ℕ → Type 0 = λ p. length p.1 < length (c ∷ cs) in
          subst P same (omega arith)
      | false ↦ λ found. with_byte-shorter c cs (split_at byte cs) cut (λ inner e'. split_at-shorter byte cs inner e') found
    ] e

cut_quoted-shorter : (text : List ℕ) (double single : Option (List ℕ)) (cut : List ℕ × List ℕ) → ((rest : List ℕ) → double ≡ Some rest → length rest < length text)
    → ((rest : List ℕ) → single ≡ Some rest → length rest < length text) → cut_quoted double single ≡ Some cut → length cut.1 < length text
cut_quoted-shorter text (Some inner) single cut one other e = omega (arith, one inner refl, split_at-shorter 34 inner cut e)
cut_quoted-shorter text None (Some inner) cut one other e = omega (arith, other inner refl, split_at-shorter 39 inner cut e)
cut_quoted-shorter text None None cut one other e = absurd (cc)

pub value_at-shorter : (text : List ℕ) (cut : List ℕ × List ℕ) → value_at text ≡ Some cut → length cut.1 < length text
unfolding quoted_at
value_at-shorter text cut e =
    let found = bind_some (quoted_at text) without_markup cut e in
    let same = cond_none (list_any (λ c. eqb c 60) found.0.0) found.0 cut found.2 in
    let P : List ℕ × List ℕ → Type 0 = λ p. length p.1 < length text in
    subst P same.1 (cut_quoted-shorter text (after (codes "\"") text) (after (codes "'") text) found.0
    (λ rest e'. omega (arith, after-shorter (codes "\"") text rest e')) (λ rest e'. omega (arith, after-shorter (codes "'") text rest e')) found.1)

-- what is left of a reading
abbrev rest_of : {A : Type 0} → Option (A × List ℕ) → List ℕ
rest_of None = []
rest_of (Some x) = x.1

pub attribute_at-shorter : (n : ℕ) (text : List ℕ) (found : Attribute × List ℕ) → attribute_at n text ≡ Some found → length found.1 < length text
unfolding attribute_at
attribute_at-shorter n text found e =
    let name = bind_some (name_at text) _ found e in
    let sign = bind_some (after (codes "=") (after_blanks name.0.1)) _ found name.2 in
    let value = bind_some (value_at (after_blanks sign.0)) _ found sign.2 in
    let same : value.0.1 ≡ found.1 = ap (λ (x : Option (Attribute × List ℕ)). rest_of x) value.2 in
    let a = name_at-shorter text name.0 name.1 in
    let b = after-shorter (codes "=") (after_blanks name.0.1) sign.0 sign.1 in
    let c = value_at-shorter (after_blanks sign.0) value.0 value.1 in
    let size = ap length same in
    omega (arith, blanks-le name.0.1, blanks-le sign.0)

pub behind_blanks-shorter : (n : ℕ) (text : List ℕ) (found : Attribute × List ℕ) → attribute_behind_blanks n text ≡ Some found → length found.1 < length text
unfolding attribute_behind_blanks
behind_blanks-shorter n text found e =
    elim (eqb (prefix_len is_blank text) 0) as (λ b. cond b None (attribute_at n (after_blanks text)) ≡ Some found → length found.1 < length text) [
      | true ↦ λ none. absurd (cc)
      | false ↦ λ some. omega (arith, blanks-le text, attribute_at-shorter n (after_blanks text) found some)
    ] e

-- ---- tags and items

and_more-le : (text : List ℕ) (found : Option (Attribute × List ℕ)) (more : List ℕ → List Attribute × List ℕ) → ((x : Attribute × List ℕ) → found ≡ Some x → length x.1 < length text)
    → ((rest : List ℕ) → length (more rest).1 ≤ length rest) → length (and_more found text more).1 ≤ length text
and_more-le text None more shorter le = omega arith
and_more-le text (Some x) more shorter le = omega (arith, shorter x refl, le x.1)

attributes-le : (k n : ℕ) (text : List ℕ) → length (attributes_within k n text).1 ≤ length text
unfolding attributes_within
attributes-le zero n text = omega arith
attributes-le (suc k) n text = and_more-le text (attribute_behind_blanks n text) (attributes_within k n) (λ x e. behind_blanks-shorter n text x e) (λ rest. attributes-le k n rest)

tag_end-shorter : (text : List ℕ) (end : Bool × List ℕ) → tag_end_at text ≡ Some end → length end.1 < length text
tag_end-shorter text end e =
    elim (after (codes ">") text) as (λ a. after (codes ">") text ≡ a → option_or (option_map (λ rest. (false, rest)) a) (option_map (λ rest. (true, rest)) (after (codes "/>") text)) ≡ Some end → length end.1 < length text) [
      | Some rest ↦ λ here found.
          let same : (false, rest) ≡ end = cc in
          let P : Bool × List ℕ → Type 0 = λ p. length p.1 < length text in
          subst P same (omega (arith, after-shorter (codes ">") text rest here))
      | None ↦ λ _ found.
          let empty = map_some (λ rest. (true, rest)) (after (codes "/>") text) end found in
          let P : Bool × List ℕ → Type 0 = λ p. length p.1 < length text in
          subst P empty.2 (omega (arith, after-shorter (codes "/>") text empty.0 empty.1))
    ] refl e

tag_at-shorter : (n : ℕ) (text : List ℕ) (found : Tag × List ℕ) → tag_at n text ≡ Some found → length found.1 < length text
unfolding tag_at
tag_at-shorter n text found e =
    let inner = bind_some (after (codes "<") text) _ found e in
    let name = bind_some (name_at inner.0) _ found inner.2 in
    let end = bind_some (tag_end_at (after_blanks (attributes_at n name.0.1).1)) _ found name.2 in
    let same : end.0.1 ≡ found.1 = ap (λ (x : Option (Tag × List ℕ)). rest_of x) end.2 in
    let a = after-shorter (codes "<") text inner.0 inner.1 in
    let b = name_at-shorter inner.0 name.0 name.1 in
    let c = attributes-le (length name.0.1) n name.0.1 in
    let d = tag_end-shorter (after_blanks (attributes_at n name.0.1).1) end.0 end.1 in
    let size = ap length same in
    omega (arith, blanks-le (attributes_at n name.0.1).1)

end_tag-shorter : (text : List ℕ) (found : List ℕ × List ℕ) → end_tag_at text ≡ Some found → length found.1 < length text
unfolding end_tag_at
end_tag-shorter text found e =
    let name = bind_some (name_at text) _ found e in
    let rest = bind_some (after (codes ">") (after_blanks name.0.1)) _ found name.2 in
    let same : rest.0 ≡ found.1 = ap (λ (x : Option (List ℕ × List ℕ)). rest_of x) rest.2 in
    let a = name_at-shorter text name.0 name.1 in
    let b = after-shorter (codes ">") (after_blanks name.0.1) rest.0 rest.1 in
    let size = ap length same in
    omega (arith, blanks-le name.0.1)

-- what a literal in front leaves is shorter than the text
abbrev IsRest : List ℕ → Option (List ℕ) → Type 0
IsRest text found = (inner : List ℕ) → found ≡ Some inner → length inner < length text

markup_of-shorter : (n : ℕ) (a b c : Option (List ℕ)) (text : List ℕ) (found : Item × List ℕ) → IsRest text a → IsRest text b → IsRest text c → markup_of n a b c text ≡ Some found → length found.1 < length text
markup_of-shorter n (Some inner) b c text found ra rb rc e =
    let it = map_some (with_rest _) (behind (codes "?>") inner) found e in
    let same = ap (λ (x : Item × List ℕ). length x.1) it.2 in
    omega (arith, ra inner refl, behind-le (codes "?>") inner it.0 it.1)
markup_of-shorter n None (Some inner) c text found ra rb rc e =
    let it = map_some (with_rest _) (behind (codes "-->") inner) found e in
    let same = ap (λ (x : Item × List ℕ). length x.1) it.2 in
    omega (arith, rb inner refl, behind-le (codes "-->") inner it.0 it.1)
markup_of-shorter n None None (Some inner) text found ra rb rc e =
    let it = map_some (closing_cut n) (end_tag_at inner) found e in
    let same = ap (λ (x : Item × List ℕ). length x.1) it.2 in
    omega (arith, rc inner refl, end_tag-shorter inner it.0 it.1)
markup_of-shorter n None None None text found ra rb rc e =
    let it = map_some opening_cut (tag_at n text) found e in
    let same = ap (λ (x : Item × List ℕ). length x.1) it.2 in
    omega (arith, tag_at-shorter n text it.0 it.1)

literal-rest : (literal text : List ℕ) → 0 < length literal → IsRest text (after literal text)
literal-rest literal text some inner e = omega (arith, after-shorter literal text inner e)

-- an item has a byte at least
pub item_at-shorter : (n : ℕ) (text : List ℕ) (found : Item × List ℕ) → item_at n text ≡ Some found → length found.1 < length text
unfolding item_at markup_at
item_at-shorter n [] found e = absurd (cc)
item_at-shorter n (c ∷ cs) found e =
    elim (eqb c 60) as (λ b. eqb c 60 ≡ b → cond b (markup_at n (c ∷ cs)) (Some (run (take (run_length (c ∷ cs)) (c ∷ cs)), drop (run_length (c ∷ cs)) (c ∷ cs))) ≡ Some found → length found.1 < length (c ∷ cs)) [
      | true ↦ λ _ e'. markup_of-shorter n (after (codes "<?xml") (c ∷ cs)) (after (codes "<!--") (c ∷ cs)) (after (codes "</") (c ∷ cs)) (c ∷ cs) found
          (literal-rest (codes "<?xml") (c ∷ cs) (omega arith)) (literal-rest (codes "<!--") (c ∷ cs) (omega arith)) (literal-rest (codes "</") (c ∷ cs) (omega arith)) e'
      | false ↦ λ other e'.
          let same : drop (run_length (c ∷ cs)) (c ∷ cs) ≡ found.1 = ap (λ (x : Option (Item × List ℕ)). rest_of x) e' in
          let size = ap length same in
          let some : 0 < run_length (c ∷ cs) = rw other (omega arith) in
          omega (arith, length-drop (run_length (c ∷ cs)) (c ∷ cs))
    ] refl e
