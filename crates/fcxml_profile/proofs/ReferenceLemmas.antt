-- A value is read from the front on, character by character.
use Rattle.std.proofs.Common.{◌≡◌, ◌≢◌, ◌<◌, ◌≤◌, ◌-◌, ℕ, zero, suc, true, false, cond, List, [], ◌∷◌, ◌++◌, length, Option, None, Some, Result, Ok, Err, refl, sym, ap, ◌∙◌, subst, arith, eqb, get_or, inl, inr, append_assoc}
use Rattle.std.specs.Prelude.{encode_utf8}
use Rattle.std.specs.List.{AllByRecursion}
use Rattle.std.specs.Option.{unwrap_or}
use Rattle.std.proofs.lemmas.Bool.{eq-eqb, ne_eqb, cases_eq, cases_lt}
use Rattle.std.proofs.lemmas.List.{append-nil, length-append}
use Rattle.std.proofs.lemmas.Str.{encode_ascii, inside_one, len_utf8_bounds, length-encode}
use Rattle.fcxml_profile.specs.Fronts.{after, split_at}
use Rattle.fcxml_profile.specs.References.{replacement_of, reference_at, with_front, replaced, is_spacing, after_return, plain, read_within}
use Rattle.fcxml_profile.specs.Meanings.{meaning_of}
use Rattle.fcxml_profile.proofs.Shorter.{bind_some, after-shorter, split_at-shorter}

-- ---- what follows is shorter

reference_at-shorter : (text : List ℕ) (found : List ℕ × List ℕ) → reference_at text ≡ Some found → length found.1 < length text
unfolding reference_at
reference_at-shorter text found e =
    let cut = bind_some (split_at 59 text) _ found e in
    let bytes = bind_some (replacement_of cut.0.0) _ found cut.2 in
    let same : (bytes.0, cut.0.1) ≡ found = cc in
    let P : List ℕ × List ℕ → Type 0 = λ p. length p.1 < length text in
    subst P same (split_at-shorter 59 text cut.0 cut.1)

after_return-le : (text : List ℕ) → length (after_return text) ≤ length text
after_return-le text =
    elim (after (10 ∷ []) text) as (λ a. after (10 ∷ []) text ≡ a → length (unwrap_or a text) ≤ length text) [
      | None ↦ λ _. omega arith
      | Some rest ↦ λ found. omega (arith, after-shorter (10 ∷ []) text rest found)
    ] refl

pub meaning_of-le : (c : ℕ) (text : List ℕ) (found : List ℕ × List ℕ) → meaning_of c text ≡ Some found → length found.1 ≤ length text
meaning_of-le c text found e =
    let P : List ℕ × List ℕ → Type 0 = λ p. length p.1 ≤ length text in
    elim (eqb c 38) as (λ b. cond b (reference_at text) (cond (eqb c 13) (Some (32 ∷ [], after_return text)) (Some (cond (is_spacing c) (32 ∷ []) (encode_utf8 c), text))) ≡ Some found → length found.1 ≤ length text) [
      | true ↦ λ reference. omega (arith, reference_at-shorter text found reference)
      | false ↦ λ other. elim (eqb c 13) as (λ b. cond b (Some (32 ∷ [], after_return text)) (Some (cond (is_spacing c) (32 ∷ []) (encode_utf8 c), text)) ≡ Some found → length found.1 ≤ length text) [
        | true ↦ λ return.
            let same : (32 ∷ [], after_return text) ≡ found = cc in
            subst P same (after_return-le text)
        | false ↦ λ single.
            let same : (cond (is_spacing c) (32 ∷ []) (encode_utf8 c), text) ≡ found = cc in
            subst P same (omega arith)
      ] other
    ] e

-- what follows a character
pub length-behind : (c : ℕ) (text rest : List ℕ) → text ≡ encode_utf8 c ++ rest → length rest < length text
length-behind c text rest split =
    let size = ap length split in
    let bounds = len_utf8_bounds c in
    omega (arith, length-append (encode_utf8 c) rest, length-encode c)

-- ---- byte by byte

replaced-same : (found : Option (List ℕ × List ℕ)) (place : ℕ) (f g : List ℕ → Result (List ℕ) ℕ) → ((x : List ℕ × List ℕ) → found ≡ Some x → f x.1 ≡ g x.1) → replaced found place f ≡ replaced found place g
replaced-same None place f g same = refl
replaced-same (Some x) place f g same = ap (with_front x.0) (same x refl)

plain-same : (c : ℕ) (cs : List ℕ) (f g : List ℕ → Result (List ℕ) ℕ) → ((rest : List ℕ) → length rest ≤ length cs → f rest ≡ g rest) → plain c cs f ≡ plain c cs g
plain-same c cs f g same = rw (same cs (omega arith), same (after_return cs) (after_return-le cs)) refl

-- more characters than there are bytes need not be looked for
read-enough : (k m end : ℕ) (text : List ℕ) → length text ≤ k → length text ≤ m → read_within k end text ≡ read_within m end text
unfolding read_within
read-enough zero zero end text a b = refl
read-enough zero (suc m) end [] a b = refl
read-enough zero (suc m) end (c ∷ cs) a b = absurd (omega arith)
read-enough (suc k) zero end [] a b = refl
read-enough (suc k) zero end (c ∷ cs) a b = absurd (omega arith)
read-enough (suc k) (suc m) end [] a b = refl
read-enough (suc k) (suc m) end (c ∷ cs) a b =
    let replaced_alike = replaced-same (reference_at cs) (end - length (c ∷ cs)) (read_within k end) (read_within m end)
    (λ x e. let less = reference_at-shorter cs x e in read-enough k m end x.1 (omega arith) (omega arith)) in
    let plain_alike = plain-same c cs (read_within k end) (read_within m end) (λ rest most. read-enough k m end rest (omega arith) (omega arith)) in
    rw (replaced_alike, plain_alike) refl

-- what is read of a text that ends at that place
abbrev pub read_from : ℕ → List ℕ → Result (List ℕ) ℕ
read_from end text = read_within (length text) end text

read_from-reference : (end c : ℕ) (cs : List ℕ) → c ≡ 38 → read_from end (c ∷ cs) ≡ replaced (reference_at cs) (end - length (c ∷ cs)) (read_from end)
unfolding read_within
read_from-reference end c cs mark =
    rw (eq-eqb c 38 mark) (replaced-same (reference_at cs) (end - length (c ∷ cs)) (read_within (length cs) end) (read_from end)
    (λ x e. let less = reference_at-shorter cs x e in read-enough (length cs) (length x.1) end x.1 (omega arith) (omega arith)))

read_from-plain : (end c : ℕ) (cs : List ℕ) → c ≢ 38 → read_from end (c ∷ cs) ≡ plain c cs (read_from end)
unfolding read_within
read_from-plain end c cs other =
    rw (ne_eqb c 38 other) (plain-same c cs (read_within (length cs) end) (read_from end) (λ rest most. read-enough (length cs) (length rest) end rest (omega arith) (omega arith)))

-- ---- character by character

with_front-append : (front more : List ℕ) (r : Result (List ℕ) ℕ) → with_front (front ++ more) r ≡ with_front front (with_front more r)
with_front-append front more (Ok bytes) = ap Ok (append_assoc front more bytes)
with_front-append front more (Err place) = refl

-- bytes of characters past ASCII
abbrev pub ArePastAscii : List ℕ → Type 0
ArePastAscii bytes = AllByRecursion (λ b. 128 ≤ b) bytes

past_ascii : (bytes : List ℕ) → ((i : ℕ) → i < length bytes → 128 ≤ get_or bytes i 0) → ArePastAscii bytes
past_ascii [] each = tt
past_ascii (b ∷ bs) each = (each 0 (omega arith), past_ascii bs (λ i below. each (suc i) (omega arith)))

encode-past_ascii : (c : ℕ) → 128 ≤ c → ArePastAscii (encode_utf8 c)
encode-past_ascii c past = past_ascii (encode_utf8 c) (λ i below.
    elim (cases_lt (get_or (encode_utf8 c) i 0) 128) [
      | inr high ↦ high
      | inl low ↦ absurd (let same = inside_one c [] (encode_utf8 c) i (sym (append-nil (encode_utf8 c))) below low in omega arith)
    ])

plain-past_ascii : (c : ℕ) (cs : List ℕ) (f : List ℕ → Result (List ℕ) ℕ) → 128 ≤ c → plain c cs f ≡ with_front (c ∷ []) (f cs)
plain-past_ascii c cs f past =
    rw (ne_eqb c 13 (λ e. omega arith), ne_eqb c 9 (λ e. omega arith), ne_eqb c 10 (λ e. omega arith)) refl

read_from-past_ascii : (end : ℕ) (front rest : List ℕ) → ArePastAscii front → read_from end (front ++ rest) ≡ with_front front (read_from end rest)
read_from-past_ascii end [] rest past = sym (with_front-nil (read_from end rest))
  where
    with_front-nil : (r : Result (List ℕ) ℕ) → with_front [] r ≡ r
    with_front-nil (Ok bytes) = refl
    with_front-nil (Err place) = refl
read_from-past_ascii end (c ∷ cs) rest past =
    read_from-plain end c (cs ++ rest) (λ e. let high = past.0 in omega arith)
    ∙ plain-past_ascii c (cs ++ rest) (read_from end) past.0
    ∙ ap (with_front (c ∷ [])) (read_from-past_ascii end cs rest past.1)
    ∙ sym (with_front-append (c ∷ []) cs (read_from end rest))

-- what is read of a text is what its first character means, and what is read behind it
pub read_from-character : (end c : ℕ) (text rest : List ℕ) → text ≡ encode_utf8 c ++ rest → read_from end text ≡ replaced (meaning_of c rest) (end - length text) (read_from end)
read_from-character end c text rest split = elim (cases_lt c 128) [
  | inl low ↦
      let here : text ≡ c ∷ rest = split ∙ ap (λ bytes. bytes ++ rest) (encode_ascii c low) in
      rw here (ascii low)
  | inr high ↦
      rw (split, ne_eqb c 38 (λ e. omega arith), ne_eqb c 13 (λ e. omega arith), ne_eqb c 9 (λ e. omega arith), ne_eqb c 10 (λ e. omega arith))
      (read_from-past_ascii end (encode_utf8 c) rest (encode-past_ascii c high))
]
  where
    ascii : c < 128 → read_from end (c ∷ rest) ≡ replaced (meaning_of c rest) (end - length (c ∷ rest)) (read_from end)
    ascii low = elim (cases_eq c 38) [
      | inl mark ↦ rw (eq-eqb c 38 mark) (read_from-reference end c rest mark)
      | inr other ↦ rw (ne_eqb c 38 other) (read_from-plain end c rest other ∙ single low)
    ]
      where
        single : c < 128 → plain c rest (read_from end) ≡ replaced (cond (eqb c 13) (Some (32 ∷ [], after_return rest)) (Some (cond (is_spacing c) (32 ∷ []) (encode_utf8 c), rest))) (end - length (c ∷ rest)) (read_from end)
        single below = rw (encode_ascii c below) (elim (eqb c 13) as (λ b. cond b (with_front (32 ∷ []) (read_from end (after_return rest))) (with_front (cond (is_spacing c) 32 c ∷ []) (read_from end rest))
            ≡ replaced (cond b (Some (32 ∷ [], after_return rest)) (Some (cond (is_spacing c) (32 ∷ []) (c ∷ []), rest))) (end - length (c ∷ rest)) (read_from end)) [
              | true ↦ refl
              | false ↦ elim (is_spacing c) as (λ s. with_front (cond s 32 c ∷ []) (read_from end rest) ≡ with_front (cond s (32 ∷ []) (c ∷ [])) (read_from end rest)) [ true ↦ refl | false ↦ refl ]
            ])

-- ---- the value so far

-- one character more
pub read-more : (value : List ℕ) (end c : ℕ) (text tail : List ℕ) (found : List ℕ × List ℕ) (all : Result (List ℕ) ℕ) → text ≡ encode_utf8 c ++ tail → meaning_of c tail ≡ Some found
    → with_front value (read_from end text) ≡ all → with_front (value ++ found.0) (read_from end found.1) ≡ all
read-more value end c text tail found all split means so_far =
    with_front-append value found.0 (read_from end found.1)
    ∙ ap (with_front value) (sym (read_from-character end c text tail split ∙ ap (λ m. replaced m (end - length text) (read_from end)) means))
    ∙ so_far

-- a `&` that begins no reference
pub read-stops : (value : List ℕ) (end c place : ℕ) (text tail : List ℕ) (all : Result (List ℕ) ℕ) → text ≡ encode_utf8 c ++ tail → meaning_of c tail ≡ None
    → place ≡ end - length text → with_front value (read_from end text) ≡ all → all ≡ Err place
read-stops value end c place text tail all split means here so_far =
    sym so_far
    ∙ ap (with_front value) (read_from-character end c text tail split ∙ ap (λ m. replaced m (end - length text) (read_from end)) means)
    ∙ ap Err (sym here)

-- the end
pub read-ends : (value : List ℕ) (end : ℕ) (text : List ℕ) (all : Result (List ℕ) ℕ) → length text ≡ 0 → with_front value (read_from end text) ≡ all → all ≡ Ok value
unfolding read_within
read-ends value end [] all none so_far = sym so_far ∙ ap Ok (append-nil value)
read-ends value end (c ∷ cs) all none so_far = absurd (omega arith)
