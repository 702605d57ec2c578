-- What spells an item is read as it, and what is read as an item spells it.
use Rattle.std.proofs.Common.{◌≡◌, ◌⊎◌, inl, inr, ◌<◌, ◌+◌, ◌-◌, ℕ, zero, suc, Bool, true, false, cond, not, eqb, List, [], ◌∷◌, ◌++◌, length, take, drop, codes, Option, None, Some, refl, sym, ap, ◌∙◌, subst, arith}
use Rattle.std.specs.List.{list_all, list_any, prefix_len}
use Rattle.std.specs.Option.{option_map, option_or}
use Rattle.std.proofs.lemmas.Bool.{eqb-true, and_parts, or_parts}
use Rattle.std.proofs.lemmas.List.{length-take-le}
use Rattle.std.proofs.lemmas.List.Sums.{prefix_len-le-length}
use Rattle.std.proofs.lemmas.Bool.Decides.{nat_tests}
use Rattle.std.proofs.Math.Seq.{take-append_seam, drop-append_seam}
use Rattle.fcxml_profile.specs.Fronts.{with_byte, is_blank, after_blanks, begins_name, continues_name, name_length, cut_at, name_at, after, behind, split_at, cut_quoted, quoted_at, without_markup, value_at}
use Rattle.fcxml_profile.specs.Items.{Attribute, Tag, Item, declaration, comment, opening, closing, run, run_length, with_rest, closing_cut, opening_cut, attribute_at, attribute_behind_blanks, attributes_within, attributes_at, and_more, tag_end_at, tag_at, end_tag_at, markup_of, markup_at, item_at}
use Rattle.fcxml_profile.specs.Spelled.{AreBlanks, IsName, Lacks, SpellsValue, SpellsAttribute, SpellsAttributes, tag_end, SpellsTag, EndsAtFirst, SpellsEndTag, begins_markup, SpellsItem}
use Rattle.fcxml_profile.proofs.FrontLemmas.{after-append, after_some, behind-first, IsWithout, split_at-append}
use Rattle.fcxml_profile.proofs.Shorter.{bind_some, goes, not_true, cond_none, map_some}
use Rattle.fcxml_profile.proofs.AttributeLemmas.{behind_attributes, attributes-more, attributes-end}

-- ---- what is spelled is read

-- the first byte fails a test, if there is one
abbrev fails_front : (ℕ → Bool) → List ℕ → Bool
fails_front p [] = true
fails_front p (c ∷ cs) = not (p c)

-- the front that passes is as long as it is spelled
prefix_whole : (p : ℕ → Bool) (xs ys : List ℕ) → list_all p xs ≡ true → fails_front p ys ≡ true → prefix_len p (xs ++ ys) ≡ length xs
prefix_whole p [] [] all fails = refl
prefix_whole p [] (y ∷ ys) all fails = rw (not_true (p y) fails) refl
prefix_whole p (x ∷ xs) ys all fails =
    let parts = and_parts (p x) (list_all p xs) all in
    rw (parts.0, prefix_whole p xs ys parts.1 fails) (omega arith)

after_blanks-blanks : (blanks text : List ℕ) → AreBlanks blanks → fails_front is_blank text ≡ true → after_blanks (blanks ++ text) ≡ text
after_blanks-blanks blanks text are fails = ap (λ (n : ℕ). drop n (blanks ++ text)) (prefix_whole is_blank blanks text are fails) ∙ drop-append_seam blanks text

not_zero : (n : ℕ) → eqb (suc n) 0 ≡ false
not_zero n = grind (arith, nat_tests)

name_at-name : (name text : List ℕ) → IsName name → fails_front continues_name text ≡ true → name_at (name ++ text) ≡ Some (name, text)
name_at-name [] text is fails = absurd (cc)
name_at-name (c ∷ cs) text is fails =
    let parts = and_parts (begins_name c) (list_all continues_name cs) is in
    let long : name_length (c ∷ (cs ++ text)) ≡ length (c ∷ cs) = rw (parts.0, prefix_whole continues_name cs text parts.1 fails) refl in
    ap (λ (n : ℕ). cut_at n (c ∷ (cs ++ text))) long ∙ rw (take-append_seam (c ∷ cs) text, drop-append_seam (c ∷ cs) text, not_zero (length cs)) refl

-- blanks go on in no name
blank_ends : (c : ℕ) → is_blank c ≡ true → continues_name c ≡ false
blank_ends c e = grind (arith, nat_tests)

ends_name : (blanks text : List ℕ) → AreBlanks blanks → fails_front continues_name text ≡ true → fails_front continues_name (blanks ++ text) ≡ true
ends_name [] text are fails = fails
ends_name (c ∷ cs) text are fails = let parts = and_parts (is_blank c) (list_all is_blank cs) are in rw (blank_ends c parts.0) refl

name_no_blank : (c : ℕ) → begins_name c ≡ true → is_blank c ≡ false
name_no_blank c e = grind (arith, nat_tests)

without : (byte : ℕ) (text : List ℕ) → Lacks byte text → IsWithout byte text
without byte [] lacks = tt
without byte (c ∷ cs) lacks = let parts = or_parts (eqb c byte) (list_any (λ b. eqb b byte) cs) lacks in (parts.0, without byte cs parts.1)

value_quoted : (text value rest : List ℕ) (quote : ℕ) → (quote ≡ 34) ⊎ (quote ≡ 39) → text ≡ quote ∷ (value ++ quote ∷ rest) → Lacks quote value → quoted_at text ≡ Some (value, rest)
unfolding quoted_at after
value_quoted text value rest quote (inl double) stands lacks =
    ap quoted_at (stands ∙ ap (λ (q : ℕ). q ∷ (value ++ q ∷ rest)) double) ∙ split_at-append 34 value rest (without 34 value (subst (λ (q : ℕ). Lacks q value) double lacks))
value_quoted text value rest quote (inr single) stands lacks =
    ap quoted_at (stands ∙ ap (λ (q : ℕ). q ∷ (value ++ q ∷ rest)) single) ∙ split_at-append 39 value rest (without 39 value (subst (λ (q : ℕ). Lacks q value) single lacks))

value_read : (text value rest : List ℕ) → SpellsValue text value rest → value_at text ≡ Some (value, rest)
value_read text value rest is =
    goes (quoted_at text) without_markup (value, rest) _ (value_quoted text value rest is.quote is.kind is.stands is.unquoted)
    (ap (λ b. cond b None (Some (value, rest))) is.no_markup)

quote_no_blank : (text value rest : List ℕ) → SpellsValue text value rest → fails_front is_blank text ≡ true
quote_no_blank text value rest is = elim is.kind [
  | inl double ↦ ap (fails_front is_blank) (is.stands ∙ ap (λ (q : ℕ). q ∷ (value ++ q ∷ rest)) double)
  | inr single ↦ ap (fails_front is_blank) (is.stands ∙ ap (λ (q : ℕ). q ∷ (value ++ q ∷ rest)) single)
]

attribute_same : (a : Attribute) (place value_place end : ℕ) → a.place ≡ place → a.value.place ≡ value_place → a.end ≡ end
    → record { name = a.name; value = record { text = a.value.text; place = value_place }; place = place; end = end } ≡ a
attribute_same a place value_place end p v e = λ i. record { name = a.name; value = record { text = a.value.text; place = sym v i }; place = sym p i; end = sym e i }

attribute_read : (n : ℕ) (text : List ℕ) (a : Attribute) (rest : List ℕ) → SpellsAttribute n text a rest → attribute_at n text ≡ Some (a, rest)
unfolding attribute_at after
attribute_read n text a rest is =
    let inner : List ℕ = is.before ++ 61 ∷ (is.behind ++ is.quoted) in
    goes (name_at text) _ (a.name, inner) _ (ap name_at is.stands ∙ name_at-name a.name inner is.name (ends_name is.before (61 ∷ (is.behind ++ is.quoted)) is.blanks_before refl))
    (goes (after (codes "=") (after_blanks inner)) _ (is.behind ++ is.quoted) _ (ap (after (codes "=")) (after_blanks-blanks is.before (61 ∷ (is.behind ++ is.quoted)) is.blanks_before refl))
    (goes (value_at (after_blanks (is.behind ++ is.quoted))) _ (a.value.text, rest) _
    (ap value_at (after_blanks-blanks is.behind is.quoted is.blanks_behind (quote_no_blank is.quoted a.value.text rest is.value)) ∙ value_read is.quoted a.value.text rest is.value)
    (ap (λ (x : Attribute). Some (x, rest)) (attribute_same a (n - length text) (n - (length (after_blanks (is.behind ++ is.quoted)) - 1)) (n - length rest) is.place
    (is.value_place ∙ ap (λ (t : List ℕ). n - (length t - 1)) (sym (after_blanks-blanks is.behind is.quoted is.blanks_behind (quote_no_blank is.quoted a.value.text rest is.value)))) is.end))))

name_front : (name text : List ℕ) → IsName name → fails_front is_blank (name ++ text) ≡ true
name_front [] text is = absurd (cc)
name_front (c ∷ cs) text is = let parts = and_parts (begins_name c) (list_all continues_name cs) is in rw (name_no_blank c parts.0) refl

behind_blanks_read : (n : ℕ) (text blanks inner : List ℕ) (a : Attribute) (rest : List ℕ) → text ≡ blanks ++ inner → AreBlanks blanks → 0 < length blanks → SpellsAttribute n inner a rest
    → attribute_behind_blanks n text ≡ Some (a, rest)
unfolding attribute_behind_blanks
behind_blanks_read n text [] inner a rest stands are some is = absurd (omega arith)
behind_blanks_read n text (c ∷ cs) inner a rest stands are some is =
    let fails : fails_front is_blank inner ≡ true = ap (fails_front is_blank) is.stands ∙ name_front a.name (is.before ++ 61 ∷ (is.behind ++ is.quoted)) is.name in
    let whole : prefix_len is_blank text ≡ suc (length cs) = ap (prefix_len is_blank) stands ∙ prefix_whole is_blank (c ∷ cs) inner are fails in
    let left : after_blanks text ≡ inner = ap after_blanks stands ∙ after_blanks-blanks (c ∷ cs) inner are fails in
    ap (λ (k : ℕ). cond (eqb k 0) None (attribute_at n (after_blanks text))) whole
    ∙ ap (λ b. cond b None (attribute_at n (after_blanks text))) (not_zero (length cs))
    ∙ ap (attribute_at n) left ∙ attribute_read n inner a rest is

attributes_read : (n : ℕ) (text : List ℕ) (found : List Attribute) (rest : List ℕ) → SpellsAttributes n text found rest → attribute_behind_blanks n rest ≡ None → attributes_at n text ≡ (found, rest)
attributes_read n text [] rest is ends = ap (attributes_at n) is ∙ attributes-end n rest ends
attributes_read n text (a ∷ later) rest (blanks, inner, behind, stands, are, some, first, more) ends =
    attributes-more n text (a, behind) (behind_blanks_read n text blanks inner a behind stands are some first)
    ∙ ap (behind_attributes (a ∷ [])) (attributes_read n behind later rest more ends)

-- the end of a tag begins no attribute
no_attribute : (n : ℕ) (text : List ℕ) → fails_front begins_name text ≡ true → attribute_at n text ≡ None
unfolding attribute_at
no_attribute n [] fails = refl
no_attribute n (c ∷ cs) fails = rw (not_true (begins_name c) fails) refl

end_fails : (empty : Bool) (rest : List ℕ) → (fails_front is_blank (tag_end empty ++ rest) ≡ true) × (fails_front begins_name (tag_end empty ++ rest) ≡ true) × (fails_front continues_name (tag_end empty ++ rest) ≡ true)
end_fails true rest = (refl, refl, refl)
end_fails false rest = (refl, refl, refl)

attributes_ended : (n : ℕ) (text blanks : List ℕ) (empty : Bool) (rest : List ℕ) → text ≡ blanks ++ (tag_end empty ++ rest) → AreBlanks blanks → attribute_behind_blanks n text ≡ None
unfolding attribute_behind_blanks
attributes_ended n text blanks empty rest stands are =
    let left : after_blanks text ≡ tag_end empty ++ rest = ap after_blanks stands ∙ after_blanks-blanks blanks (tag_end empty ++ rest) are (end_fails empty rest).0 in
    let none : attribute_at n (after_blanks text) ≡ None = ap (attribute_at n) left ∙ no_attribute n (tag_end empty ++ rest) (end_fails empty rest).1 in
    ap (cond (eqb (prefix_len is_blank text) 0) None) none ∙ same_arms (eqb (prefix_len is_blank text) 0)
  where
    same_arms : (b : Bool) → cond {A = Option (Attribute × List ℕ)} b None None ≡ None
    same_arms true = refl
    same_arms false = refl

end_read : (empty : Bool) (rest : List ℕ) → tag_end_at (tag_end empty ++ rest) ≡ Some (empty, rest)
unfolding after
end_read true rest = refl
end_read false rest = refl

-- a name of a tag ends where its attributes begin
name_ends : (n : ℕ) (text : List ℕ) (found : List Attribute) (rest blanks : List ℕ) (empty : Bool) (follows : List ℕ) → SpellsAttributes n text found rest → rest ≡ blanks ++ (tag_end empty ++ follows)
    → AreBlanks blanks → fails_front continues_name text ≡ true
name_ends n text [] rest blanks empty follows is stands are = ap (fails_front continues_name) (is ∙ stands) ∙ ends_name blanks (tag_end empty ++ follows) are (end_fails empty follows).2
name_ends n text (a ∷ later) rest blanks empty follows ([], inner, after_first, first, are_blanks, some, attribute, more) stands are = absurd (omega arith)
name_ends n text (a ∷ later) rest blanks empty follows (c ∷ cs, inner, after_first, first, are_blanks, some, attribute, more) stands are =
    let parts = and_parts (is_blank c) (list_all is_blank cs) are_blanks in
    ap (fails_front continues_name) first ∙ (rw (blank_ends c parts.0) refl)

tag_same : (t : Tag) (place end : ℕ) → t.place ≡ place → t.end ≡ end → record { place = place; name = t.name; attributes = t.attributes; empty = t.empty; end = end } ≡ t
tag_same t place end p e = λ i. record { place = sym p i; name = t.name; attributes = t.attributes; empty = t.empty; end = sym e i }

tag_read : (n : ℕ) (text : List ℕ) (t : Tag) (rest : List ℕ) → SpellsTag n text t rest → tag_at n text ≡ Some (t, rest)
unfolding tag_at after
tag_read n text t rest is =
    let found : attributes_at n is.behind_name ≡ (t.attributes, is.behind_attributes) =
    attributes_read n is.behind_name t.attributes is.behind_attributes is.attributes (attributes_ended n is.behind_attributes is.blanks t.empty rest is.closes is.are_blanks) in
    let ended : tag_end_at (after_blanks is.behind_attributes) ≡ Some (t.empty, rest) =
    ap (λ (x : List ℕ). tag_end_at (after_blanks x)) is.closes ∙ ap tag_end_at (after_blanks-blanks is.blanks (tag_end t.empty ++ rest) is.are_blanks (end_fails t.empty rest).0) ∙ end_read t.empty rest in
    goes (after (codes "<") text) _ (t.name ++ is.behind_name) _ (ap (after (codes "<")) is.stands)
    (goes (name_at (t.name ++ is.behind_name)) _ (t.name, is.behind_name) _
    (name_at-name t.name is.behind_name is.name (name_ends n is.behind_name t.attributes is.behind_attributes is.blanks t.empty rest is.attributes is.closes is.are_blanks))
    (goes (tag_end_at (after_blanks (attributes_at n is.behind_name).1)) _ (t.empty, rest) _ (ap (λ (x : List Attribute × List ℕ). tag_end_at (after_blanks x.1)) found ∙ ended)
    (ap (λ (x : List Attribute × List ℕ). Some (record { place = n - length text; name = t.name; attributes = x.0; empty = t.empty; end = n - length rest }, rest)) found
    ∙ ap (λ (x : Tag). Some (x, rest)) (tag_same t (n - length text) (n - length rest) is.place is.end))))

-- a tag is told from other markup by its name
no_mark : (c : ℕ) → begins_name c ≡ true → (eqb 63 c ≡ false) × (eqb 33 c ≡ false) × (eqb 47 c ≡ false)
no_mark c e = (grind (arith, nat_tests), grind (arith, nat_tests), grind (arith, nat_tests))

opening_read : (n : ℕ) (text : List ℕ) (t : Tag) (rest : List ℕ) → SpellsTag n text t rest → item_at n text ≡ Some (opening t, rest)
unfolding item_at markup_at after
opening_read n text t rest is = ap (item_at n) is.stands ∙ of t.name is.name (ap (tag_at n) (sym is.stands) ∙ tag_read n text t rest is)
  where
    of : (name : List ℕ) → IsName name → tag_at n (60 ∷ (name ++ is.behind_name)) ≡ Some (t, rest) → item_at n (60 ∷ (name ++ is.behind_name)) ≡ Some (opening t, rest)
    of [] named read = absurd (cc)
    of (c ∷ cs) named read =
        let marks = no_mark c (and_parts (begins_name c) (list_all continues_name cs) named).0 in
        rw (marks.0, marks.1, marks.2, read) refl

closing_read : (n : ℕ) (text word rest : List ℕ) (end : ℕ) → SpellsEndTag text word rest → end ≡ n - length rest → item_at n text ≡ Some (closing word end, rest)
unfolding item_at markup_at end_tag_at after
closing_read n text word rest end is place =
    ap (item_at n) is.stands
    ∙ ap (option_map (closing_cut n))
    (goes (name_at (word ++ (is.blanks ++ 62 ∷ rest))) _ (word, is.blanks ++ 62 ∷ rest) _ (name_at-name word (is.blanks ++ 62 ∷ rest) is.name (ends_name is.blanks (62 ∷ rest) is.are_blanks refl))
    (goes (after (codes ">") (after_blanks (is.blanks ++ 62 ∷ rest))) _ rest _ (ap (after (codes ">")) (after_blanks-blanks is.blanks (62 ∷ rest) is.are_blanks refl)) refl))
    ∙ ap (λ (k : ℕ). Some (closing word k, rest)) (sym place)

first_found : (mark text rest : List ℕ) → EndsAtFirst mark text rest → behind mark text ≡ Some rest
first_found mark text rest is =
    behind-first mark text rest (length is.inner)
    (λ k below other stands. let none = is.first k below in let found : after mark (drop k text) ≡ Some other = ap (after mark) stands ∙ after-append mark other in absurd (cc))
    (ap (drop (length is.inner)) is.stands ∙ drop-append_seam is.inner (mark ++ rest))

run_read : (n : ℕ) (text bytes rest : List ℕ) → text ≡ bytes ++ rest → 0 < length bytes → Lacks 60 bytes → begins_markup rest ≡ true → item_at n text ≡ Some (run bytes, rest)
unfolding item_at
run_read n text [] rest stands some lacks ends = absurd (omega arith)
run_read n text (c ∷ cs) rest stands some lacks ends =
    let parts = or_parts (eqb c 60) (list_any (λ b. eqb b 60) cs) lacks in
    let long : run_length ((c ∷ cs) ++ rest) ≡ length (c ∷ cs) = prefix_whole (λ b. not (eqb b 60)) (c ∷ cs) rest (none_stands (c ∷ cs) lacks) (markup_ends rest ends) in
    ap (item_at n) stands ∙ ap (λ b. cond b (markup_at n ((c ∷ cs) ++ rest)) (Some (run (take (run_length ((c ∷ cs) ++ rest)) ((c ∷ cs) ++ rest)), drop (run_length ((c ∷ cs) ++ rest)) ((c ∷ cs) ++ rest)))) parts.0
    ∙ ap (λ (k : ℕ). Some (run (take k ((c ∷ cs) ++ rest)), drop k ((c ∷ cs) ++ rest))) long ∙ rw (take-append_seam (c ∷ cs) rest, drop-append_seam (c ∷ cs) rest) refl
  where
    none_stands : (xs : List ℕ) → Lacks 60 xs → list_all (λ b. not (eqb b 60)) xs ≡ true
    none_stands [] lacks = refl
    none_stands (x ∷ xs) lacks = let parts = or_parts (eqb x 60) (list_any (λ b. eqb b 60) xs) lacks in rw (parts.0, none_stands xs parts.1) refl

    markup_ends : (text : List ℕ) → begins_markup text ≡ true → fails_front (λ b. not (eqb b 60)) text ≡ true
    markup_ends [] e = refl
    markup_ends (x ∷ xs) e = rw e refl

pub item_read : (n : ℕ) (text : List ℕ) (item : Item) (rest : List ℕ) → SpellsItem n text item rest → item_at n text ≡ Some (item, rest)
unfolding item_at markup_at after
item_read n text declaration rest (inner, stands, ends) = ap (item_at n) stands ∙ ap (option_map (with_rest declaration)) (first_found (codes "?>") inner rest ends)
item_read n text comment rest (inner, stands, ends) = ap (item_at n) stands ∙ ap (option_map (with_rest comment)) (first_found (codes "-->") inner rest ends)
item_read n text (opening t) rest is = opening_read n text t rest is
item_read n text (closing name end) rest (is, place) = closing_read n text name rest end is place
item_read n text (run bytes) rest (stands, some, lacks, ends) = run_read n text bytes rest stands some lacks ends

-- ---- what is read spells it

-- the longest front that passes a test, and what follows it
record HasPrefix (p : ℕ → Bool) (text front rest : List ℕ) : Type 0 where
  stands : text ≡ front ++ rest
  all : list_all p front ≡ true
  fails : fails_front p rest ≡ true

prefix_of : (p : ℕ → Bool) (text : List ℕ) → HasPrefix p text (take (prefix_len p text) text) (drop (prefix_len p text) text)
prefix_of p [] = record { stands = refl; all = refl; fails = refl }
prefix_of p (c ∷ cs) =
    elim (p c) as (λ b. p c ≡ b → HasPrefix p (c ∷ cs) (take (cond b (1 + prefix_len p cs) 0) (c ∷ cs)) (drop (cond b (1 + prefix_len p cs) 0) (c ∷ cs))) [
      | true ↦ λ e.
          let more = prefix_of p cs in
          let next : suc (prefix_len p cs) ≡ 1 + prefix_len p cs = omega arith in
          subst (λ (k : ℕ). HasPrefix p (c ∷ cs) (take k (c ∷ cs)) (drop k (c ∷ cs))) next
          (record { stands = ap (λ t. c ∷ t) more.stands; all = rw (e, more.all) refl; fails = more.fails })
      | false ↦ λ e. record { stands = refl; all = refl; fails = rw e refl }
    ] refl

blanks_of : (text : List ℕ) → HasPrefix is_blank text (take (prefix_len is_blank text) text) (after_blanks text)
blanks_of text = prefix_of is_blank text

some_is : {A : Type 0} (x y : A) → Some x ≡ Some y → x ≡ y
some_is x y e = cc

-- a name that is cut off
record IsNamed (text : List ℕ) (cut : List ℕ × List ℕ) : Type 0 where
  stands : text ≡ cut.0 ++ cut.1
  name : IsName cut.0

cut_named : (c : ℕ) (cs : List ℕ) (cut : List ℕ × List ℕ) (b : Bool) → begins_name c ≡ b → cut_at (cond b (suc (prefix_len continues_name cs)) 0) (c ∷ cs) ≡ Some cut → IsNamed (c ∷ cs) cut
cut_named c cs cut false begins e = absurd (cc)
cut_named c cs cut true begins e =
    let more = prefix_of continues_name cs in
    let front : List ℕ = take (prefix_len continues_name cs) cs in
    let rest : List ℕ = drop (prefix_len continues_name cs) cs in
    let made : Some (c ∷ front, rest) ≡ Some cut = sym (ap (λ b. cond b None (Some (c ∷ front, rest))) (not_zero (prefix_len continues_name cs))) ∙ e in
    subst (IsNamed (c ∷ cs)) (some_is (c ∷ front, rest) cut made) (record { stands = ap (λ t. c ∷ t) more.stands; name = rw (begins, more.all) refl })

name_at_some : (text : List ℕ) (cut : List ℕ × List ℕ) → name_at text ≡ Some cut → IsNamed text cut
name_at_some [] cut e = absurd (cc)
name_at_some (c ∷ cs) cut e = cut_named c cs cut (begins_name c) refl e

-- what is cut off before a byte
record IsSplit (byte : ℕ) (text : List ℕ) (cut : List ℕ × List ℕ) : Type 0 where
  stands : text ≡ cut.0 ++ byte ∷ cut.1
  lacks : Lacks byte cut.0

with_byte_some : (byte c : ℕ) (cs : List ℕ) (q : Option (List ℕ × List ℕ)) (cut : List ℕ × List ℕ) → eqb c byte ≡ false → ((inner : List ℕ × List ℕ) → q ≡ Some inner → IsSplit byte cs inner)
    → with_byte c q ≡ Some cut → IsSplit byte (c ∷ cs) cut
with_byte_some byte c cs None cut other inner e = absurd (cc)
with_byte_some byte c cs (Some q) cut other inner e =
    let more = inner q refl in
    subst (IsSplit byte (c ∷ cs)) (some_is (c ∷ q.0, q.1) cut e) (record { stands = ap (λ t. c ∷ t) more.stands; lacks = rw (other, more.lacks) refl })

split_at_some : (byte : ℕ) (text : List ℕ) (cut : List ℕ × List ℕ) → split_at byte text ≡ Some cut → IsSplit byte text cut
unfolding split_at
split_at_some byte [] cut e = absurd (cc)
split_at_some byte (c ∷ cs) cut e =
    elim (eqb c byte) as (λ t. eqb c byte ≡ t → cond t (Some ([], cs)) (with_byte c (split_at byte cs)) ≡ Some cut → IsSplit byte (c ∷ cs) cut) [
      | true ↦ λ same found. subst (IsSplit byte (c ∷ cs)) (some_is ([], cs) cut found) (record { stands = ap (λ d. d ∷ cs) (eqb-true c byte same); lacks = refl })
      | false ↦ λ other found. with_byte_some byte c cs (split_at byte cs) cut other (λ inner e'. split_at_some byte cs inner e') found
    ] refl e

-- a value between quotes
record IsQuoted (text : List ℕ) (cut : List ℕ × List ℕ) : Type 0 where
  quote : ℕ
  kind : (quote ≡ 34) ⊎ (quote ≡ 39)
  stands : text ≡ quote ∷ (cut.0 ++ quote ∷ cut.1)
  lacks : Lacks quote cut.0

cut_quoted_some : (text : List ℕ) (double single : Option (List ℕ)) (cut : List ℕ × List ℕ) → ((inner : List ℕ) → double ≡ Some inner → text ≡ 34 ∷ inner) → ((inner : List ℕ) → single ≡ Some inner → text ≡ 39 ∷ inner)
    → cut_quoted double single ≡ Some cut → IsQuoted text cut
cut_quoted_some text (Some inner) single cut one other e =
    let split = split_at_some 34 inner cut e in
    record { quote = 34; kind = inl refl; stands = one inner refl ∙ ap (λ t. 34 ∷ t) split.stands; lacks = split.lacks }
cut_quoted_some text None (Some inner) cut one other e =
    let split = split_at_some 39 inner cut e in
    record { quote = 39; kind = inr refl; stands = other inner refl ∙ ap (λ t. 39 ∷ t) split.stands; lacks = split.lacks }
cut_quoted_some text None None cut one other e = absurd (cc)

quoted_at_some : (text : List ℕ) (cut : List ℕ × List ℕ) → quoted_at text ≡ Some cut → IsQuoted text cut
unfolding quoted_at
quoted_at_some text cut e =
    cut_quoted_some text (after (codes "\"") text) (after (codes "'") text) cut (λ inner f. after_some (codes "\"") text inner f) (λ inner f. after_some (codes "'") text inner f) e

value_at_some : (text : List ℕ) (cut : List ℕ × List ℕ) → value_at text ≡ Some cut → SpellsValue text cut.0 cut.1
value_at_some text cut e =
    let found = bind_some (quoted_at text) without_markup cut e in
    let same = cond_none (list_any (λ c. eqb c 60) found.0.0) found.0 cut found.2 in
    let quoted = quoted_at_some text found.0 found.1 in
    subst (λ (x : List ℕ × List ℕ). SpellsValue text x.0 x.1) same.1
    (record { quote = quoted.quote; kind = quoted.kind; stands = quoted.stands; unquoted = quoted.lacks; no_markup = same.0 })

attribute_at_some : (n : ℕ) (text : List ℕ) (x : Attribute × List ℕ) → attribute_at n text ≡ Some x → SpellsAttribute n text x.0 x.1
unfolding attribute_at
attribute_at_some n text x e =
    let name = bind_some (name_at text) _ x e in
    let sign = bind_some (after (codes "=") (after_blanks name.0.1)) _ x name.2 in
    let value = bind_some (value_at (after_blanks sign.0)) _ x sign.2 in
    let named = name_at_some text name.0 name.1 in
    let before = blanks_of name.0.1 in
    let behind = blanks_of sign.0 in
    let equals = after_some (codes "=") (after_blanks name.0.1) sign.0 sign.1 in
    subst (λ (y : Attribute × List ℕ). SpellsAttribute n text y.0 y.1) (some_is _ x value.2)
    (record {
      before = take (prefix_len is_blank name.0.1) name.0.1;
      behind = take (prefix_len is_blank sign.0) sign.0;
      quoted = after_blanks sign.0;
      stands = named.stands ∙ ap (λ t. name.0.0 ++ t) (before.stands ∙ ap (λ t. take (prefix_len is_blank name.0.1) name.0.1 ++ t) (equals ∙ ap (λ t. 61 ∷ t) behind.stands));
      name = named.name;
      blanks_before = before.all;
      blanks_behind = behind.all;
      value = value_at_some (after_blanks sign.0) value.0 value.1;
      place = refl;
      value_place = refl;
      end = refl;
    })

prefix_some : (k : ℕ) → eqb k 0 ≡ false → 0 < k
prefix_some k e = grind (arith, nat_tests)

attributes_spelled : (k n : ℕ) (text : List ℕ) → SpellsAttributes n text (attributes_within k n text).0 (attributes_within k n text).1
unfolding attributes_within attribute_behind_blanks
attributes_spelled zero n text = refl
attributes_spelled (suc k) n text =
    elim (attribute_behind_blanks n text) as (λ o. attribute_behind_blanks n text ≡ o → SpellsAttributes n text (and_more o text (attributes_within k n)).0 (and_more o text (attributes_within k n)).1) [
      | None ↦ λ _. refl
      | Some x ↦ λ e.
          let cut = cond_arm (eqb (prefix_len is_blank text) 0) (attribute_at n (after_blanks text)) x e in
          let blanks = blanks_of text in (
            take (prefix_len is_blank text) text,
            after_blanks text,
            x.1,
            blanks.stands,
            blanks.all,
            omega (arith, length-take-le (prefix_len is_blank text) text (prefix_len-le-length is_blank text), prefix_some (prefix_len is_blank text) cut.0),
            attribute_at_some n (after_blanks text) x cut.1,
            attributes_spelled k n x.1,
          )
    ] refl
  where
    cond_arm : {A : Type 0} (b : Bool) (o : Option A) (x : A) → cond b None o ≡ Some x → (b ≡ false) × (o ≡ Some x)
    cond_arm true o x e = absurd (cc)
    cond_arm false o x e = (refl, e)

tag_end_by : (text : List ℕ) (one two : Option (List ℕ)) (x : Bool × List ℕ) → ((rest : List ℕ) → one ≡ Some rest → text ≡ codes ">" ++ rest) → ((rest : List ℕ) → two ≡ Some rest → text ≡ codes "/>" ++ rest)
    → option_or (option_map (λ rest. (false, rest)) one) (option_map (λ rest. (true, rest)) two) ≡ Some x → text ≡ tag_end x.0 ++ x.1
tag_end_by text (Some rest) two x first second e = subst (λ (y : Bool × List ℕ). text ≡ tag_end y.0 ++ y.1) (some_is (false, rest) x e) (first rest refl)
tag_end_by text None (Some rest) x first second e = subst (λ (y : Bool × List ℕ). text ≡ tag_end y.0 ++ y.1) (some_is (true, rest) x e) (second rest refl)
tag_end_by text None None x first second e = absurd (cc)

tag_end_some : (text : List ℕ) (x : Bool × List ℕ) → tag_end_at text ≡ Some x → text ≡ tag_end x.0 ++ x.1
tag_end_some text x e =
    tag_end_by text (after (codes ">") text) (after (codes "/>") text) x (λ rest f. after_some (codes ">") text rest f) (λ rest f. after_some (codes "/>") text rest f) e

tag_at_some : (n : ℕ) (text : List ℕ) (x : Tag × List ℕ) → tag_at n text ≡ Some x → SpellsTag n text x.0 x.1
unfolding tag_at
tag_at_some n text x e =
    let inner = bind_some (after (codes "<") text) _ x e in
    let name = bind_some (name_at inner.0) _ x inner.2 in
    let ended = bind_some (tag_end_at (after_blanks (attributes_at n name.0.1).1)) _ x name.2 in
    let named = name_at_some inner.0 name.0 name.1 in
    let blanks = blanks_of (attributes_at n name.0.1).1 in
    subst (λ (y : Tag × List ℕ). SpellsTag n text y.0 y.1) (some_is _ x ended.2)
    (record {
      behind_name = name.0.1;
      behind_attributes = (attributes_at n name.0.1).1;
      blanks = take (prefix_len is_blank (attributes_at n name.0.1).1) (attributes_at n name.0.1).1;
      stands = after_some (codes "<") text inner.0 inner.1 ∙ ap (λ t. 60 ∷ t) named.stands;
      name = named.name;
      attributes = attributes_spelled (length name.0.1) n name.0.1;
      closes = blanks.stands ∙ ap (λ t. take (prefix_len is_blank (attributes_at n name.0.1).1) (attributes_at n name.0.1).1 ++ t) (tag_end_some (after_blanks (attributes_at n name.0.1).1) ended.0 ended.1);
      are_blanks = blanks.all;
      place = refl;
      end = refl;
    })

-- what follows the first place of a mark
first_step : (mark text inner : List ℕ) (c : ℕ) → after mark (c ∷ text) ≡ None → ((k : ℕ) → k < length inner → after mark (drop k text) ≡ None)
    → (k : ℕ) → k < length (c ∷ inner) → after mark (drop k (c ∷ text)) ≡ None
first_step mark text inner c none later zero below = none
first_step mark text inner c none later (suc k) below = later k (omega arith)

behind_some : (mark text rest : List ℕ) → behind mark text ≡ Some rest → EndsAtFirst mark text rest
unfolding behind
behind_some mark [] rest e = record { inner = []; stands = after_some mark [] rest e; first = λ k below. absurd (omega arith) }
behind_some mark (c ∷ cs) rest e =
    elim (after mark (c ∷ cs)) as (λ o. after mark (c ∷ cs) ≡ o → option_or o (behind mark cs) ≡ Some rest → EndsAtFirst mark (c ∷ cs) rest) [
      | Some x ↦ λ found same. record { inner = []; stands = after_some mark (c ∷ cs) rest (found ∙ same); first = λ k below. absurd (omega arith) }
      | None ↦ λ none later.
          let more = behind_some mark cs rest later in
          record { inner = c ∷ more.inner; stands = ap (λ t. c ∷ t) more.stands; first = first_step mark cs more.inner c none more.first }
    ] refl e

end_tag_some : (text inner : List ℕ) (cut : List ℕ × List ℕ) → text ≡ codes "</" ++ inner → end_tag_at inner ≡ Some cut → SpellsEndTag text cut.0 cut.1
unfolding end_tag_at
end_tag_some text inner cut opens e =
    let name = bind_some (name_at inner) _ cut e in
    let rest = bind_some (after (codes ">") (after_blanks name.0.1)) _ cut name.2 in
    let named = name_at_some inner name.0 name.1 in
    let blanks = blanks_of name.0.1 in
    let front : List ℕ = take (prefix_len is_blank name.0.1) name.0.1 in
    subst (λ (y : List ℕ × List ℕ). SpellsEndTag text y.0 y.1) (some_is _ cut rest.2)
    (record {
      blanks = front;
      stands = opens ∙ ap (λ t. codes "</" ++ t) (named.stands ∙ ap (λ t. name.0.0 ++ t) (blanks.stands ∙ ap (λ t. front ++ t) (after_some (codes ">") (after_blanks name.0.1) rest.0 rest.1)));
      name = named.name;
      are_blanks = blanks.all;
    })

-- a run
lacks_markup : (text : List ℕ) → list_all (λ b. not (eqb b 60)) text ≡ true → Lacks 60 text
lacks_markup [] all = refl
lacks_markup (c ∷ cs) all =
    let parts = and_parts (not (eqb c 60)) (list_all (λ b. not (eqb b 60)) cs) all in
    rw (not_true (eqb c 60) parts.0) (lacks_markup cs parts.1)

twice_not : (b : Bool) → not (not b) ≡ true → b ≡ true
twice_not true e = refl
twice_not false e = e

markup_follows : (text : List ℕ) → fails_front (λ b. not (eqb b 60)) text ≡ true → begins_markup text ≡ true
markup_follows [] e = refl
markup_follows (c ∷ cs) e = twice_not (eqb c 60) e

run_spelled : (n c : ℕ) (cs : List ℕ) → eqb c 60 ≡ false → SpellsItem n (c ∷ cs) (run (take (run_length (c ∷ cs)) (c ∷ cs))) (drop (run_length (c ∷ cs)) (c ∷ cs))
run_spelled n c cs other =
    let cut = prefix_of (λ b. not (eqb b 60)) (c ∷ cs) in
    let long : run_length (c ∷ cs) ≡ 1 + run_length cs = rw other refl in
    (cut.stands, omega (arith, long, length-take-le (run_length (c ∷ cs)) (c ∷ cs) (prefix_len-le-length (λ b. not (eqb b 60)) (c ∷ cs))), lacks_markup (take (run_length (c ∷ cs)) (c ∷ cs)) cut.all, markup_follows (drop (run_length (c ∷ cs)) (c ∷ cs)) cut.fails)

-- markup, by the mark that it begins with
abbrev SpellsCut : ℕ → List ℕ → Item × List ℕ → Type 0
SpellsCut n text cut = SpellsItem n text cut.0 cut.1

markup_of_some : (n : ℕ) (text : List ℕ) (declared commented ended : Option (List ℕ)) (x : Item × List ℕ) → ((inner : List ℕ) → declared ≡ Some inner → text ≡ codes "<?xml" ++ inner)
    → ((inner : List ℕ) → commented ≡ Some inner → text ≡ codes "<!--" ++ inner) → ((inner : List ℕ) → ended ≡ Some inner → text ≡ codes "</" ++ inner)
    → markup_of n declared commented ended text ≡ Some x → SpellsCut n text x
markup_of_some n text (Some inner) commented ended x is_declared is_comment is_end e =
    let found = map_some (with_rest declaration) (behind (codes "?>") inner) x e in
    subst (SpellsCut n text) found.2 (inner, is_declared inner refl, behind_some (codes "?>") inner found.0 found.1)
markup_of_some n text None (Some inner) ended x is_declared is_comment is_end e =
    let found = map_some (with_rest comment) (behind (codes "-->") inner) x e in
    subst (SpellsCut n text) found.2 (inner, is_comment inner refl, behind_some (codes "-->") inner found.0 found.1)
markup_of_some n text None None (Some inner) x is_declared is_comment is_end e =
    let found = map_some (closing_cut n) (end_tag_at inner) x e in
    subst (SpellsCut n text) found.2 (end_tag_some text inner found.0 (is_end inner refl) found.1, refl)
markup_of_some n text None None None x is_declared is_comment is_end e =
    let found = map_some opening_cut (tag_at n text) x e in
    subst (SpellsCut n text) found.2 (tag_at_some n text found.0 found.1)

item_some : (n : ℕ) (text : List ℕ) (x : Item × List ℕ) → item_at n text ≡ Some x → SpellsCut n text x
unfolding item_at markup_at
item_some n [] x e = absurd (cc)
item_some n (c ∷ cs) x e =
    elim (eqb c 60) as (λ b. eqb c 60 ≡ b → cond b (markup_at n (c ∷ cs)) (Some (run (take (run_length (c ∷ cs)) (c ∷ cs)), drop (run_length (c ∷ cs)) (c ∷ cs))) ≡ Some x → SpellsCut n (c ∷ cs) x) [
      | true ↦ λ same found.
          markup_of_some n (c ∷ cs) (after (codes "<?xml") (c ∷ cs)) (after (codes "<!--") (c ∷ cs)) (after (codes "</") (c ∷ cs)) x
          (λ inner f. after_some (codes "<?xml") (c ∷ cs) inner f) (λ inner f. after_some (codes "<!--") (c ∷ cs) inner f) (λ inner f. after_some (codes "</") (c ∷ cs) inner f) found
      | false ↦ λ other found. subst (SpellsCut n (c ∷ cs)) (some_is _ x found) (run_spelled n c cs other)
    ] refl e

pub item_spelled : (n : ℕ) (text : List ℕ) (item : Item) (rest : List ℕ) → item_at n text ≡ Some (item, rest) → SpellsItem n text item rest
item_spelled n text item rest e = item_some n text (item, rest) e
