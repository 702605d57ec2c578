-- Blanks at the ends of a text, and the parts between its dots.
use Rattle.std.proofs.Common.{◌≡◌, ℕ, Bool, true, false, cond, not, ◌||◌, ◌==◌, List, [], ◌∷◌, ◌++◌, map, reverse, refl, sym, ap, ◌∙◌, arith, append_assoc, append-nil}
use Rattle.std.specs.List.{list_all, All, slice_split, onto_first}
use Rattle.std.proofs.lemmas.Bool.{and_parts, and_from, or_parts, cond-true, cond-false, cond_both, not-true}
use Rattle.std.proofs.lemmas.Bool.Decides.{nat_tests}
use Rattle.std.proofs.lemmas.List.{reverse-append, reverse-reverse}
use Rattle.std.proofs.lemmas.List.Folds.{list_all-append}
use Rattle.std.proofs.lemmas.List.Sums.{AllPass-from_list_all}
use Rattle.std.proofs.lemmas.List.Splits.{slice_split_none, slice_split_at}
use Rattle.object_paths.specs.PathParts.{is_blank, after_blanks, trimmed, parts_of}

-- blanks alone
abbrev pub AreBlanks : List ℕ → Type 0
AreBlanks text = list_all is_blank text ≡ true

-- a byte that ends no part: no blank and no dot
abbrev pub is_inner : ℕ → Bool
is_inner c = not (is_blank c || (c == 46))

-- bytes of one part
abbrev pub IsInner : List ℕ → Type 0
IsInner text = list_all is_inner text ≡ true

pub inner_parts : (c : ℕ) → is_inner c ≡ true → (is_blank c ≡ false) × ((c == 46) ≡ false)
inner_parts c h = or_parts (is_blank c) (c == 46) (not-true _ h)

-- a text with blanks at its ends
pub record IsPadded (text part : List ℕ) : Type 0 where
  pub front : List ℕ
  pub back : List ℕ
  pub blank_front : AreBlanks front
  pub blank_back : AreBlanks back
  pub whole : text ≡ front ++ (part ++ back)

-- ---- blanks in front

after_blanks-dark : (c : ℕ) (text : List ℕ) → is_blank c ≡ false → after_blanks (c ∷ text) ≡ c ∷ text
after_blanks-dark c text dark = cond-false (is_blank c) (after_blanks text) (c ∷ text) dark

after_blanks-blanks : (blanks text : List ℕ) → AreBlanks blanks → after_blanks (blanks ++ text) ≡ after_blanks text
after_blanks-blanks [] text h = refl
after_blanks-blanks (b ∷ bs) text h =
    let parts = and_parts (is_blank b) (list_all is_blank bs) h in
    cond-true (is_blank b) (after_blanks (bs ++ text)) (b ∷ (bs ++ text)) parts.0 ∙ after_blanks-blanks bs text parts.1

after_blanks-split : (text : List ℕ) → (blanks : List ℕ) × (AreBlanks blanks × (text ≡ blanks ++ after_blanks text))
after_blanks-split [] = ([], (refl, refl))
after_blanks-split (c ∷ text) =
    cond_both (is_blank c) (after_blanks text) (c ∷ text) (λ u. (blanks : List ℕ) × (AreBlanks blanks × (c ∷ text ≡ blanks ++ u)))
    (λ e. let rest = after_blanks-split text in (c ∷ rest.0, (and_from (is_blank c) (list_all is_blank rest.0) e rest.1.0, ap (λ (u : List ℕ). c ∷ u) rest.1.1)))
    (λ e. ([], (refl, refl)))

-- a byte that is no blank stays, with all behind it
after_blanks-behind : (front : List ℕ) (c : ℕ) (rest : List ℕ) → is_blank c ≡ false → after_blanks (front ++ c ∷ rest) ≡ after_blanks front ++ c ∷ rest
after_blanks-behind [] c rest dark = after_blanks-dark c rest dark
after_blanks-behind (f ∷ fs) c rest dark =
    elim (is_blank f) as (λ b. cond b (after_blanks (fs ++ c ∷ rest)) (f ∷ (fs ++ c ∷ rest)) ≡ cond b (after_blanks fs) (f ∷ fs) ++ c ∷ rest)
    [ true ↦ after_blanks-behind fs c rest dark | false ↦ refl ]

-- ---- blanks at the end

-- without the blanks at the end
abbrev pub before_blanks : List ℕ → List ℕ
before_blanks text = reverse (after_blanks (reverse text))

blanks-reverse : (blanks : List ℕ) → AreBlanks blanks → AreBlanks (reverse blanks)
blanks-reverse [] h = refl
blanks-reverse (b ∷ bs) h =
    let parts = and_parts (is_blank b) (list_all is_blank bs) h in
    ap (list_all is_blank) (reverse-append (b ∷ []) bs)
    ∙ list_all-append is_blank (reverse bs) (b ∷ []) ∙ and_from _ _ (blanks-reverse bs parts.1) (and_from (is_blank b) true parts.0 refl)

before_blanks-blanks : (text blanks : List ℕ) → AreBlanks blanks → before_blanks (text ++ blanks) ≡ before_blanks text
before_blanks-blanks text blanks h =
    ap (λ u. reverse (after_blanks u)) (reverse-append text blanks) ∙ ap reverse (after_blanks-blanks (reverse blanks) (reverse text) (blanks-reverse blanks h))

pub before_blanks-split : (text : List ℕ) → (blanks : List ℕ) × (AreBlanks blanks × (text ≡ before_blanks text ++ blanks))
before_blanks-split text =
    let split = after_blanks-split (reverse text) in
    (reverse split.0, (blanks-reverse split.0 split.1.0, sym (reverse-reverse text) ∙ ap reverse split.1.1 ∙ reverse-append split.0 (after_blanks (reverse text))))

-- a byte that is no blank stays, with all before it
pub before_blanks-behind : (front : List ℕ) (c : ℕ) (rest : List ℕ) → is_blank c ≡ false → before_blanks (front ++ c ∷ rest) ≡ front ++ c ∷ before_blanks rest
before_blanks-behind front c rest dark =
    let turned : reverse (front ++ c ∷ rest) ≡ reverse rest ++ c ∷ reverse front =
    reverse-append front (c ∷ rest) ∙ ap (λ u. u ++ reverse front) (reverse-append (c ∷ []) rest) ∙ append_assoc (reverse rest) (c ∷ []) (reverse front) in
    let back : reverse (c ∷ reverse front) ≡ front ++ c ∷ [] = reverse-append (c ∷ []) (reverse front) ∙ ap (λ u. u ++ c ∷ []) (reverse-reverse front) in
    ap (λ u. reverse (after_blanks u)) turned
    ∙ ap reverse (after_blanks-behind (reverse rest) c (reverse front) dark)
    ∙ reverse-append (after_blanks (reverse rest)) (c ∷ reverse front)
    ∙ ap (λ u. u ++ before_blanks rest) back
    ∙ append_assoc front (c ∷ []) (before_blanks rest)

-- ---- both ends

pub padded : (text : List ℕ) → IsPadded text (trimmed text)
padded text =
    let front = after_blanks-split text in
    let back = before_blanks-split (after_blanks text) in
    record {
      front = front.0;
      back = back.0;
      blank_front = front.1.0;
      blank_back = back.1.0;
      whole = front.1.1 ∙ ap (λ u. front.0 ++ u) back.1.1;
    }

-- blanks in front make no difference
pub trimmed-blanks : (blanks text : List ℕ) → AreBlanks blanks → trimmed (blanks ++ text) ≡ trimmed text
trimmed-blanks blanks text h = ap before_blanks (after_blanks-blanks blanks text h)

-- nor at the end
trimmed-end : (text blanks : List ℕ) → AreBlanks blanks → trimmed (text ++ blanks) ≡ trimmed text
trimmed-end [] blanks h = ap trimmed (sym (append-nil blanks)) ∙ trimmed-blanks blanks [] h
trimmed-end (c ∷ text) blanks h =
    elim (is_blank c) as (λ b. before_blanks (cond b (after_blanks (text ++ blanks)) (c ∷ (text ++ blanks))) ≡ before_blanks (cond b (after_blanks text) (c ∷ text)))
    [ true ↦ trimmed-end text blanks h | false ↦ before_blanks-blanks (c ∷ text) blanks h ]

-- a text that begins with no blank has its first bytes
pub trimmed-behind : (c : ℕ) (front : List ℕ) (d : ℕ) (rest : List ℕ) → is_blank c ≡ false → is_blank d ≡ false
    → trimmed (c ∷ (front ++ d ∷ rest)) ≡ c ∷ (front ++ d ∷ before_blanks rest)
trimmed-behind c front d rest first dark =
    ap before_blanks (after_blanks-dark c (front ++ d ∷ rest) first) ∙ before_blanks-behind (c ∷ front) d rest dark

pub trimmed-first : (c : ℕ) (rest : List ℕ) → is_blank c ≡ false → trimmed (c ∷ rest) ≡ c ∷ before_blanks rest
trimmed-first c rest first = ap before_blanks (after_blanks-dark c rest first) ∙ before_blanks-behind [] c rest first

before_blanks-inner : (part : List ℕ) → IsInner part → before_blanks part ≡ part
before_blanks-inner [] h = refl
before_blanks-inner (c ∷ part) h =
    let parts = and_parts (is_inner c) (list_all is_inner part) h in
    before_blanks-behind [] c part (inner_parts c parts.0).0 ∙ ap (λ (u : List ℕ). c ∷ u) (before_blanks-inner part parts.1)

trimmed-inner : (part : List ℕ) → IsInner part → trimmed part ≡ part
trimmed-inner [] h = refl
trimmed-inner (c ∷ part) h =
    let parts = and_parts (is_inner c) (list_all is_inner part) h in
    trimmed-first c part (inner_parts c parts.0).0 ∙ ap (λ (u : List ℕ). c ∷ u) (before_blanks-inner part parts.1)

trimmed-padded : (text part : List ℕ) → IsPadded text part → IsInner part → trimmed text ≡ part
trimmed-padded text part pad inner =
    ap trimmed pad.whole ∙ trimmed-blanks pad.front (part ++ pad.back) pad.blank_front ∙ trimmed-end part pad.back pad.blank_back ∙ trimmed-inner part inner

-- ---- parts

abbrev no_dot : ℕ → Bool
no_dot c = not (c == 46)

blank_no_dot : (c : ℕ) → is_blank c ≡ true → (c == 46) ≡ false
blank_no_dot c h = grind (arith, nat_tests)

no_dots : (text : List ℕ) → list_all no_dot text ≡ true → All (λ c. (c == 46) ≡ false) text
no_dots text h = λ k d within. not-true _ (AllPass-from_list_all no_dot text h k d within)

blanks_no_dots : (blanks : List ℕ) → AreBlanks blanks → list_all no_dot blanks ≡ true
blanks_no_dots [] h = refl
blanks_no_dots (b ∷ bs) h =
    let parts = and_parts (is_blank b) (list_all is_blank bs) h in and_from (no_dot b) _ (ap not (blank_no_dot b parts.0)) (blanks_no_dots bs parts.1)

inner_no_dots : (part : List ℕ) → IsInner part → list_all no_dot part ≡ true
inner_no_dots [] h = refl
inner_no_dots (c ∷ part) h =
    let parts = and_parts (is_inner c) (list_all is_inner part) h in and_from (no_dot c) _ (ap not (inner_parts c parts.0).1) (inner_no_dots part parts.1)

padded_no_dots : (text part : List ℕ) → IsPadded text part → IsInner part → list_all no_dot text ≡ true
padded_no_dots text part pad inner =
    ap (list_all no_dot) pad.whole ∙ list_all-append no_dot pad.front (part ++ pad.back)
    ∙ and_from _ _ (blanks_no_dots pad.front pad.blank_front)
    (list_all-append no_dot part pad.back ∙ and_from _ _ (inner_no_dots part inner) (blanks_no_dots pad.back pad.blank_back))

-- one part, and a part before a dot
pub parts_of-one : (text part : List ℕ) → IsPadded text part → IsInner part → parts_of text ≡ part ∷ []
parts_of-one text part pad inner =
    ap (map trimmed) (slice_split_none (λ c. c == 46) text (no_dots text (padded_no_dots text part pad inner))) ∙ ap (λ u. u ∷ []) (trimmed-padded text part pad inner)

pub parts_of-more : (text part rest : List ℕ) → IsPadded text part → IsInner part → parts_of (text ++ 46 ∷ rest) ≡ part ∷ parts_of rest
parts_of-more text part rest pad inner =
    ap (map trimmed) (slice_split_at (λ c. c == 46) text 46 rest (no_dots text (padded_no_dots text part pad inner)) refl)
    ∙ ap (λ u. u ∷ parts_of rest) (trimmed-padded text part pad inner)

-- parts with so many bytes more at the end
abbrev at_end : List ℕ → List (List ℕ) → List (List ℕ)
at_end bytes [] = bytes ∷ []
at_end bytes (part ∷ []) = (part ++ bytes) ∷ []
at_end bytes (part ∷ next ∷ more) = part ∷ at_end bytes (next ∷ more)

at_end-dot : (bytes text : List ℕ) → [] ∷ at_end bytes (slice_split (λ c. c == 46) text) ≡ at_end bytes ([] ∷ slice_split (λ c. c == 46) text)
at_end-dot bytes [] = refl
at_end-dot bytes (c ∷ text) =
    elim (c == 46) as (λ b. [] ∷ at_end bytes (cond b ([] ∷ slice_split (λ d. d == 46) text) (onto_first c (slice_split (λ d. d == 46) text)))
    ≡ at_end bytes ([] ∷ cond b ([] ∷ slice_split (λ d. d == 46) text) (onto_first c (slice_split (λ d. d == 46) text))))
    [ true ↦ refl | false ↦ first (slice_split (λ d. d == 46) text) ]
  where
    first : (parts : List (List ℕ)) → [] ∷ at_end bytes (onto_first c parts) ≡ at_end bytes ([] ∷ onto_first c parts)
    first [] = refl
    first (part ∷ parts) = refl

-- where there is a part
abbrev IsSome : List (List ℕ) → Type 0
IsSome [] = ⊥
IsSome (part ∷ parts) = Unit {0}

onto_first-some : (c : ℕ) (parts : List (List ℕ)) → IsSome (onto_first c parts)
onto_first-some c [] = tt
onto_first-some c (part ∷ parts) = tt

split-some : (text : List ℕ) → IsSome (slice_split (λ c. c == 46) text)
split-some [] = tt
split-some (c ∷ text) =
    cond_both (c == 46) ([] ∷ slice_split (λ d. d == 46) text) (onto_first c (slice_split (λ d. d == 46) text)) IsSome (λ _. tt) (λ _. onto_first-some c (slice_split (λ d. d == 46) text))

onto_first-at_end : (c : ℕ) (bytes : List ℕ) (parts : List (List ℕ)) → IsSome parts → onto_first c (at_end bytes parts) ≡ at_end bytes (onto_first c parts)
onto_first-at_end c bytes [] some = absurd some
onto_first-at_end c bytes (part ∷ []) some = refl
onto_first-at_end c bytes (part ∷ next ∷ more) some = refl

split-end : (text bytes : List ℕ) → list_all no_dot bytes ≡ true → slice_split (λ c. c == 46) (text ++ bytes) ≡ at_end bytes (slice_split (λ c. c == 46) text)
split-end [] bytes h = slice_split_none (λ c. c == 46) bytes (no_dots bytes h)
split-end (c ∷ text) bytes h =
    let later = split-end text bytes h in
    elim (c == 46) as (λ b. cond b ([] ∷ slice_split (λ d. d == 46) (text ++ bytes)) (onto_first c (slice_split (λ d. d == 46) (text ++ bytes)))
    ≡ at_end bytes (cond b ([] ∷ slice_split (λ d. d == 46) text) (onto_first c (slice_split (λ d. d == 46) text)))) [
      | true ↦ ap (λ (parts : List (List ℕ)). [] ∷ parts) later ∙ at_end-dot bytes text
      | false ↦ ap (onto_first c) later ∙ onto_first-at_end c bytes (slice_split (λ d. d == 46) text) (split-some text)
    ]

at_end-trimmed : (blanks : List ℕ) (parts : List (List ℕ)) → AreBlanks blanks → IsSome parts → map trimmed (at_end blanks parts) ≡ map trimmed parts
at_end-trimmed blanks [] h some = absurd some
at_end-trimmed blanks (part ∷ []) h some = ap (λ u. u ∷ []) (trimmed-end part blanks h)
at_end-trimmed blanks (part ∷ next ∷ more) h some = ap (λ (parts : List (List ℕ)). trimmed part ∷ parts) (at_end-trimmed blanks (next ∷ more) h tt)

parts_of-blanks : (text blanks : List ℕ) → AreBlanks blanks → parts_of (text ++ blanks) ≡ parts_of text
parts_of-blanks text blanks h =
    ap (map trimmed) (split-end text blanks (blanks_no_dots blanks h)) ∙ at_end-trimmed blanks (slice_split (λ c. c == 46) text) h (split-some text)

onto_first-trimmed : (c : ℕ) (parts : List (List ℕ)) → is_blank c ≡ true → IsSome parts → map trimmed (onto_first c parts) ≡ map trimmed parts
onto_first-trimmed c [] blank some = absurd some
onto_first-trimmed c (part ∷ parts) blank some = ap (λ u. u ∷ map trimmed parts) (trimmed-blanks (c ∷ []) part (and_from (is_blank c) true blank refl))

blanks-parts_of : (blanks text : List ℕ) → AreBlanks blanks → parts_of (blanks ++ text) ≡ parts_of text
blanks-parts_of [] text h = refl
blanks-parts_of (b ∷ bs) text h =
    let parts = and_parts (is_blank b) (list_all is_blank bs) h in
    let rest : List (List ℕ) = slice_split (λ d. d == 46) (bs ++ text) in
    ap (map trimmed) (cond-false (b == 46) ([] ∷ rest) (onto_first b rest) (blank_no_dot b parts.0))
    ∙ onto_first-trimmed b rest parts.0 (split-some (bs ++ text)) ∙ blanks-parts_of bs text parts.1

-- blanks at the ends make no difference
pub parts_of-before_blanks : (text : List ℕ) → parts_of (before_blanks text) ≡ parts_of text
parts_of-before_blanks text =
    let split = before_blanks-split text in
    sym (ap parts_of split.1.1 ∙ parts_of-blanks (before_blanks text) split.0 split.1.0)

pub parts_of-trimmed : (text : List ℕ) → parts_of (trimmed text) ≡ parts_of text
parts_of-trimmed text =
    let pad = padded text in
    sym (ap parts_of pad.whole ∙ blanks-parts_of pad.front (trimmed text ++ pad.back) pad.blank_front ∙ parts_of-blanks (trimmed text) pad.back pad.blank_back)
