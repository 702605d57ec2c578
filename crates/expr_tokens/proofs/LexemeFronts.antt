-- A lexeme in front of a text has a byte at least, and the text may be cut behind it.
use Rattle.std.proofs.Common.{◌≡◌, ℕ, ◌+◌, ◌<◌, Bool, true, false, cond, ◌&&◌, ◌==◌, nat_lt, nat_eq, List, [], ◌∷◌, ◌++◌, length, take, get_or, Option, Some, None, Result, Ok, Err, ℤ, refl, sym, ap, subst, ◌∙◌, append_assoc, ⊎_elim, length-append, length-take, arith}
use Rattle.std.specs.Prelude.{find}
use Rattle.std.specs.Char.{is_ascii_digit}
use Rattle.std.specs.Cmp.Lexicographic.{pointwise, same_text}
use Rattle.std.specs.List.{list_all, starts_with}
use Rattle.std.specs.Option.{option_map}
use Rattle.std.specs.Str.{IsUtf8, IsAscii, IsCharBoundary}
use Rattle.std.proofs.lemmas.Bool.{and_parts, cases_Bool, cond-true, cond-false, ltb-true, eqb-true, true_from_ne_false}
use Rattle.std.proofs.lemmas.Str.{IsCharBoundary-after_ascii, IsCharBoundary-from_take, IsUtf8-from_ascii}
use Rattle.std.proofs.lemmas.List.{get_or_at}
use Rattle.fc_base.specs.Texts.{is_name, is_text_value}
use Rattle.fc_base.proofs.NameLemmas.{is_name-length}
use Rattle.quantities.specs.Decimals.{is_decimal, decimal_value}
use Rattle.quantities.specs.declared.decimal_fault.DecimalFault.{DecimalFault}
use Rattle.quantities.specs.declared.decimal_fault.DecimalFault.TheVariants.{NotDecimal}
use Rattle.quantities.proofs.DecimalLemmas.{value-not_decimal}
use Rattle.object_paths.specs.PathParts.{opened, until_closing}
use Rattle.expr_tokens.specs.Signs.{sign_at, sign_text, signs}
use Rattle.expr_tokens.specs.Longest.{longest}
use Rattle.expr_tokens.specs.Lexemes.{numeral_of, numeral_at, of_length, spells_word, is_marked_address, identifier_of, marked_of, word_at, quoted, mark_or_word, lexeme_at}
use Rattle.expr_tokens.specs.declared.sign.Sign as s
use Rattle.expr_tokens.specs.declared.token.Lexeme.{Lexeme}
use Rattle.expr_tokens.specs.declared.token.Lexeme.TheVariants as lexeme
use Rattle.expr_tokens.proofs.LongestFronts.{longest-le}
use Rattle.expr_tokens.proofs.WordLemmas.{word-boundary}
use Rattle.expr_tokens.proofs.MarkedLemmas.{marked-boundary, ascii-nil, ascii-cons}
use Rattle.expr_tokens.proofs.NumeralBytes.{decimal-cut, decimal-some}

-- the text may be cut behind so many bytes, one at least
pub record IsFront (text : List ℕ) (n : ℕ) : Type 0 where
  pub some : 0 < n
  pub boundary : IsCharBoundary text n

-- a lexeme of that length is one of those bytes
length-of : (n : ℕ) (o : Option Lexeme) (x : Lexeme × ℕ) → of_length n o ≡ Some x → (z : Lexeme) × (o ≡ Some z) × (x.1 ≡ n)
length-of n None x e = absurd (cc)
length-of n (Some z) x e = let same : (z, n) ≡ x = cc in (z, refl, ap (λ p. p.1) (sym same))

-- ---- a numeral

numeral-decimal : (text : List ℕ) (z : Lexeme) → numeral_of (decimal_value text) text ≡ Some z → is_decimal text ≡ true
numeral-decimal text z e = true_from_ne_false _ (λ none.
    let bad = value-not_decimal text none in
    absurd (nothing (decimal_value text) bad e))
  where
    nothing : (r : Result ℤ DecimalFault) → r ≡ Err NotDecimal → numeral_of r text ≡ Some z → ⊥
    nothing (Ok a) bad some = absurd (cc)
    nothing (Err fault) bad some = absurd (cc)

numeral-front : (text : List ℕ) (x : Lexeme × ℕ) → IsUtf8 text → is_ascii_digit (get_or text 0 0) ≡ true → numeral_at text ≡ Some x → IsFront text x.1
unfolding numeral_at
numeral-front text x utf8 digit e =
    let n : ℕ = longest is_decimal text in
    let found = length-of n (numeral_of (decimal_value (take n text)) (take n text)) x e in
    let decimal = numeral-decimal (take n text) found.0 found.1 in
    subst (IsFront text) (sym found.2) (record {
      some = decimal-some text n decimal;
      boundary = decimal-cut text n utf8 (longest-le is_decimal text) digit decimal;
    })

-- ---- a word

word-front : (text : List ℕ) (x : Lexeme × ℕ) → IsUtf8 text → word_at text ≡ Some x → IsFront text x.1
unfolding word_at
word-front text x utf8 e =
    let word : ℕ = longest spells_word text in
    let address : ℕ = longest is_marked_address text in
    ⊎_elim
    (λ more.
    let found = length-of address (marked_of (take address text)) x
    (sym (cond-true (nat_lt word address) (of_length address (marked_of (take address text))) (of_length word (identifier_of (take word text))) more) ∙ e) in
    let some : 0 < address = omega (arith, ltb-true word address more) in
    subst (IsFront text) (sym found.2) (record { some = some; boundary = marked-boundary text utf8 }))
    (λ less.
    let found = length-of word (identifier_of (take word text)) x
    (sym (cond-false (nat_lt word address) (of_length address (marked_of (take address text))) (of_length word (identifier_of (take word text))) less) ∙ e) in
    let some : 0 < length (take word text) = is_name-length (take word text) (named (take word text) found.0 found.1) in
    subst (IsFront text) (sym found.2) (record { some = omega (arith, length-take word text); boundary = word-boundary text utf8 }))
    (cases_Bool (nat_lt word address))
  where
    named : (name : List ℕ) (z : Lexeme) → identifier_of name ≡ Some z → is_name name ≡ true
    named name z h = true_from_ne_false _ (λ none.
        let nothing : identifier_of name ≡ None = cond-false (is_name name) _ _ none in
        absurd (cc))

-- ---- a text in its marks

opened-front : (text rest : List ℕ) → opened text ≡ Some rest → text ≡ 60 ∷ 60 ∷ rest
opened-front [] rest e = absurd (cc)
opened-front (a ∷ []) rest e = absurd (cc)
opened-front (a ∷ b ∷ cs) rest e = ⊎_elim
    (λ marks.
    let parts = and_parts (a == 60) (b == 60) marks in
    let left : cs ≡ rest = cc (cond-true ((a == 60) && (b == 60)) (Some cs) None marks) in
    λ i. eqb-true a 60 parts.0 i ∷ eqb-true b 60 parts.1 i ∷ left i)
    (λ none. absurd (cc (cond-false ((a == 60) && (b == 60)) (Some cs) None none)))
    (cases_Bool ((a == 60) && (b == 60)))

closing-front : (text : List ℕ) (cut : List ℕ × List ℕ) → until_closing text ≡ Some cut → text ≡ cut.0 ++ 62 ∷ 62 ∷ cut.1
closing-front [] cut e = absurd (cc)
closing-front (a ∷ []) cut e = absurd (cc)
closing-front (a ∷ b ∷ rest) cut e =
    elim ((a == 62) && (b == 62)) as (λ t. ((a == 62) && (b == 62)) ≡ t → cond {A = Option (List ℕ × List ℕ)} t (Some ([], rest)) (option_map (λ p. (a ∷ p.0, p.1)) (until_closing (b ∷ rest))) ≡ Some cut → a ∷ b ∷ rest ≡ cut.0 ++ 62 ∷ 62 ∷ cut.1) [
      | true ↦ λ marks h.
          let parts = and_parts (a == 62) (b == 62) marks in
          let same : ([], rest) ≡ cut = cc in
          (λ i. eqb-true a 62 parts.0 i ∷ eqb-true b 62 parts.1 i ∷ rest) ∙ ap (λ (p : List ℕ × List ℕ). p.0 ++ 62 ∷ 62 ∷ p.1) same
      | false ↦ λ _ h. further (until_closing (b ∷ rest)) (λ p found. closing-front (b ∷ rest) p found) h
    ] refl e
  where
    further : (o : Option (List ℕ × List ℕ)) → ((p : List ℕ × List ℕ) → o ≡ Some p → b ∷ rest ≡ p.0 ++ 62 ∷ 62 ∷ p.1) → option_map (λ (p : List ℕ × List ℕ). (a ∷ p.0, p.1)) o ≡ Some cut → a ∷ b ∷ rest ≡ cut.0 ++ 62 ∷ 62 ∷ cut.1
    further None known h = absurd (cc)
    further (Some p) known h =
        let same : (a ∷ p.0, p.1) ≡ cut = cc in
        ap (λ (xs : List ℕ). a ∷ xs) (known p refl) ∙ ap (λ (q : List ℕ × List ℕ). q.0 ++ 62 ∷ 62 ∷ q.1) same

quoted-front : (text rest : List ℕ) (x : Lexeme × ℕ) → IsUtf8 text → opened text ≡ Some rest → quoted (until_closing rest) ≡ Some x → IsFront text x.1
quoted-front text rest x utf8 opens e = found (until_closing rest) refl e
  where
    sized : (cut : List ℕ × List ℕ) → quoted (Some cut) ≡ Some x → x.1 ≡ length cut.0 + 4
    sized cut h = ⊎_elim
        (λ value.
        let text_of : Lexeme × ℕ = (lexeme.Text cut.0, length cut.0 + 4) in
        let same : text_of ≡ x = cc (cond-true (is_text_value cut.0) (Some text_of) None value) in
        ap (λ (p : Lexeme × ℕ). p.1) (sym same))
        (λ none.
        let text_of : Lexeme × ℕ = (lexeme.Text cut.0, length cut.0 + 4) in
        absurd (cc (cond-false (is_text_value cut.0) (Some text_of) None none)))
        (cases_Bool (is_text_value cut.0))

    found : (o : Option (List ℕ × List ℕ)) → until_closing rest ≡ o → quoted o ≡ Some x → IsFront text x.1
    found None closed h = absurd (cc)
    found (Some cut) closed h =
        let n : ℕ = length cut.0 + 4 in
        let size : x.1 ≡ n = sized cut h in
        let split : text ≡ (60 ∷ 60 ∷ cut.0 ++ 62 ∷ []) ++ 62 ∷ cut.1 =
        opened-front text rest opens ∙ ap (λ (xs : List ℕ). 60 ∷ 60 ∷ xs) (closing-front rest cut closed ∙ sym (append_assoc cut.0 (62 ∷ []) (62 ∷ cut.1))) in
        let front : length (60 ∷ 60 ∷ cut.0 ++ 62 ∷ []) ≡ length cut.0 + 3 = omega (arith, length-append cut.0 (62 ∷ [])) in
        let long : length text ≡ length cut.0 + 4 + length cut.1 = omega (arith, ap length split, length-append (60 ∷ 60 ∷ cut.0 ++ 62 ∷ []) (62 ∷ cut.1)) in
        let byte : get_or text (length cut.0 + 3) 0 ≡ 62 = ap (λ t. get_or t (length cut.0 + 3) 0) split ∙ get_or_at (60 ∷ 60 ∷ cut.0 ++ 62 ∷ []) 62 cut.1 0 (length cut.0 + 3) front in
        let cuts : IsCharBoundary text (length cut.0 + 3 + 1) = IsCharBoundary-after_ascii text (length cut.0 + 3) utf8 (omega arith) (omega arith) in
        let same : length cut.0 + 3 + 1 ≡ x.1 = omega arith in
        subst (IsFront text) same (record { some = omega arith; boundary = cuts })

-- ---- a sign

find-passes : {X : Type 0} (p q : X → Bool) (xs : List X) (x : X) → list_all q xs ≡ true → find p xs ≡ Some x → (p x ≡ true) × (q x ≡ true)
find-passes p q [] x all e = absurd (cc)
find-passes p q (y ∷ ys) x all e =
    let parts = and_parts (q y) (list_all q ys) all in
    ⊎_elim
    (λ here.
    let same : y ≡ x = cc (cond-true (p y) (Some y) (find p ys) here) in
    (ap p (sym same) ∙ here, ap q (sym same) ∙ parts.0))
    (λ later. find-passes p q ys x parts.1 (sym (cond-false (p y) (Some y) (find p ys) later) ∙ e))
    (cases_Bool (p y))

-- a sign has bytes, and they are ASCII
abbrev is_sign_text : s.Sign → Bool
is_sign_text x = nat_lt 0 (length (sign_text x)) && list_all (λ b. nat_lt b 128) (sign_text x)

low-ascii : (bs : List ℕ) → list_all (λ b. nat_lt b 128) bs ≡ true → IsAscii bs
low-ascii [] all = ascii-nil
low-ascii (b ∷ bs) all =
    let parts = and_parts (nat_lt b 128) (list_all (λ c. nat_lt c 128) bs) all in ascii-cons b bs (ltb-true b 128 parts.0) (low-ascii bs parts.1)

pointwise-same : (xs ys : List ℕ) → pointwise nat_eq xs ys ≡ true → xs ≡ ys
pointwise-same xs ys e = same_text xs ys (sym e)

sign-front : (text : List ℕ) (x : s.Sign) → IsUtf8 text → sign_at text ≡ Some x → IsFront text (length (sign_text x))
unfolding sign_at
sign-front text x utf8 e =
    let found = find-passes (λ y. starts_with nat_eq text (sign_text y)) is_sign_text signs x refl e in
    let parts = and_parts (nat_lt 0 (length (sign_text x))) (list_all (λ b. nat_lt b 128) (sign_text x)) found.1 in
    let same : sign_text x ≡ take (length (sign_text x)) text = pointwise-same (sign_text x) (take (length (sign_text x)) text) found.0 in
    record {
      some = ltb-true 0 (length (sign_text x)) parts.0;
      boundary = IsCharBoundary-from_take text (length (sign_text x)) utf8 (omega (arith, ap length same, length-take (length (sign_text x)) text))
          (subst IsUtf8 same (IsUtf8-from_ascii (sign_text x) (low-ascii (sign_text x) parts.1)));
    }

-- ---- one of them

mark_or_word-front : (text : List ℕ) (x : Lexeme × ℕ) → IsUtf8 text → mark_or_word (opened text) (sign_at text) text ≡ Some x → IsFront text x.1
mark_or_word-front text x utf8 e = by_marks (opened text) refl (sign_at text) refl e
  where
    by_marks : (o : Option (List ℕ)) → opened text ≡ o → (sign : Option s.Sign) → sign_at text ≡ sign → mark_or_word o sign text ≡ Some x → IsFront text x.1
    by_marks (Some rest) opens sign signed h = quoted-front text rest x utf8 opens h
    by_marks None opens (Some sign) signed h = let same : (lexeme.Sign sign, length (sign_text sign)) ≡ x = cc in let size : length (sign_text sign) ≡ x.1 = ap (λ (p : Lexeme × ℕ). p.1) same in subst (IsFront text) size (sign-front text sign utf8 signed)
    by_marks None opens None signed h = word-front text x utf8 h

pub lexeme-front : (text : List ℕ) (x : Lexeme × ℕ) → IsUtf8 text → Some x ≡ lexeme_at text → IsFront text x.1
unfolding lexeme_at
lexeme-front [] x utf8 e = absurd (cc)
lexeme-front (c ∷ cs) x utf8 e = ⊎_elim
    (λ digit. numeral-front (c ∷ cs) x utf8 digit (sym (cond-true (is_ascii_digit c) (numeral_at (c ∷ cs)) _ digit) ∙ sym e))
    (λ other. mark_or_word-front (c ∷ cs) x utf8 (sym (cond-false (is_ascii_digit c) (numeral_at (c ∷ cs)) (mark_or_word (opened (c ∷ cs)) (sign_at (c ∷ cs)) (c ∷ cs)) other) ∙ sym e))
    (cases_Bool (is_ascii_digit c))
