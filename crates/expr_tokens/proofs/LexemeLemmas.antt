-- Texts as their lexemes, the places aside.
use Rattle.std.proofs.Common.{◌≡◌, ℕ, suc, ◌+◌, ◌-◌, ◌<◌, ◌≤◌, ℤ, Bool, true, false, not, ◌&&◌, ◌||◌, nat_le, List, [], ◌∷◌, ◌++◌, length, take, get_or, map, Some, None, Ok, Err, refl, sym, ap, subst, ◌∙◌, append_assoc, length-append, arith}
use Rattle.std.specs.Prelude.{◌==◌, nat_eq, nat_lt, if◌then◌else◌}
use Rattle.std.specs.List.{list_all}
use Rattle.std.specs.Char.{is_ascii_digit, is_ascii_alphabetic}
use Rattle.unicode_ident.specs.Ident.{is_xid_continue}
use Rattle.unicode_ident.proofs.IdentLemmas.{is_xid_start-ascii}
use Rattle.std.specs.Str.{is_utf8, chars, chars_after, continuation_len, lead_bits}
use Rattle.std.specs.Option.{option_map}
use Rattle.fc_base.proofs.NameLemmas.{is_name-length}
use Rattle.std.proofs.lemmas.Bool.{and_parts, and_from, or_parts, or_from, false_from_ne_true, ne_eqb, not-true, both_ways, true_from_ne_false, cond-true, cond-false, le-ltb, lt-ltb}
use Rattle.std.proofs.lemmas.Bool.Decides.{nat_tests}
use Rattle.std.proofs.Math.Seq.{take-append_seam}
use Rattle.std.proofs.lemmas.List.Sums.{AllPass-from_list_all}
use Rattle.fc_base.specs.Texts.{begins_name, spells_name, is_name, is_name_byte, is_text_value, has_closing_mark, ends_in_mark}
use Rattle.fc_base.specs.Places.{Place, IsPlace, address_text, address_of}
use Rattle.fc_base.proofs.AddressLemmas.{address_of-address_text}
use Rattle.quantities.specs.Decimals.{is_decimal, decimal_value}
use Rattle.quantities.specs.declared.decimal_fault.DecimalFault.TheVariants.{NotDecimal}
use Rattle.quantities.proofs.DecimalLemmas.{value-not_decimal}
use Rattle.object_paths.specs.PathParts.{is_blank, opened, until_closing}
use Rattle.expr_tokens.specs.declared.sign.Sign as s
use Rattle.expr_tokens.specs.declared.sign.Sign.TheVariants as sign
use Rattle.expr_tokens.specs.declared.token.Lexeme.{Lexeme}
use Rattle.expr_tokens.specs.declared.token.Lexeme.TheVariants.{Numeral, Identifier, Marked, Text, Sign}
use Rattle.expr_tokens.specs.declared.token.Placed.{Placed}
use Rattle.expr_tokens.specs.Lexemes.{short_number, numeral_of, spells_word, has_mark, is_marked_address, identifier_of, marked_of, of_length, numeral_at, word_at, quoted, mark_or_word, lexeme_at, in_front, with_lexeme, lexed_from}
use Rattle.expr_tokens.specs.Longest.{longest}
use Rattle.expr_tokens.specs.Signs.{sign_at, sign_text}
use Rattle.expr_tokens.proofs.AsciiNames.{dollar_spelled, address_by}
use Rattle.expr_tokens.proofs.AlphabetLemmas.{begins_past, longest-word, longest-word_le, longest-short}
use Rattle.expr_tokens.proofs.ByteLemmas.{spells_word-bytes, is_address_byte, is_marked_address-bytes, is_decimal_byte, is_decimal-bytes}

-- The text is these lexemes, with blanks between them.
pub data Lexes : List ℕ → List Lexeme → Type 0 where
  finished : Lexes [] []
  gap : {c : ℕ} {cs : List ℕ} {xs : List Lexeme} → is_blank c ≡ true → Lexes cs xs → Lexes (c ∷ cs) xs
  front : {x : Lexeme} {c : ℕ} (w rest : List ℕ) {xs : List Lexeme} → is_blank c ≡ false
      → lexeme_at (c ∷ (w ++ rest)) ≡ Some (x, suc (length w)) → Lexes rest xs → Lexes (c ∷ (w ++ rest)) (x ∷ xs)

-- with their places, from the place on where the text stands
pub record PlacedFrom (place : ℕ) (text : List ℕ) (xs : List Lexeme) : Type 0 where
  pub placed : List Placed
  pub lexed : lexed_from 0 place text ≡ Ok placed
  pub lexemes : map (λ (x : Placed). x.lexeme) placed ≡ xs

skipped : (w rest : List ℕ) (place : ℕ) → lexed_from (length w) place (w ++ rest) ≡ lexed_from 0 (place + length w) rest
unfolding lexed_from
skipped [] rest place = ap (λ n. lexed_from 0 n rest) (omega arith)
skipped (c ∷ w) rest place = skipped w rest (place + 1) ∙ ap (λ n. lexed_from 0 n rest) (omega arith)

pub placed_from : {text : List ℕ} {xs : List Lexeme} → Lexes text xs → (place : ℕ) → PlacedFrom place text xs
unfolding lexed_from
placed_from finished place = record { placed = []; lexed = refl; lexemes = refl }
placed_from (gap {c} {cs} {xs} blank rest) place =
    let later = placed_from rest (place + 1) in
    record {
      placed = later.placed;
      lexed = cond-true (is_blank c) _ _ blank ∙ later.lexed;
      lexemes = later.lexemes;
    }
placed_from (front {x} {c} w rest {xs} dark here more) place =
    let later = placed_from more (place + 1 + length w) in
    let less : suc (length w) - 1 ≡ length w = omega arith in
    let first : Placed = record { place = place; lexeme = x } in
    record {
      placed = first ∷ later.placed;
      lexed =
          cond-false (is_blank c) _ _ dark
          ∙ ap (λ o. with_lexeme o place (λ n. lexed_from (n - 1) (place + 1) (w ++ rest))) here
          ∙ ap (λ n. in_front first (lexed_from n (place + 1) (w ++ rest))) less
          ∙ ap (in_front first) (skipped w rest (place + 1) ∙ later.lexed);
      lexemes = ap (λ ys. x ∷ ys) later.lexemes;
    }

-- ---- which kind of lexeme begins

opened-other : (c : ℕ) (cs : List ℕ) → (c == 60) ≡ false → opened (c ∷ cs) ≡ None
opened-other c [] h = refl
opened-other c (d ∷ cs) h = rw h refl

-- what begins with no digit and no `<` is a sign, or else a word
marked_front : (c : ℕ) (cs : List ℕ) → is_ascii_digit c ≡ false → (c == 60) ≡ false
    → lexeme_at (c ∷ cs) ≡ mark_or_word None (sign_at (c ∷ cs)) (c ∷ cs)
unfolding lexeme_at
marked_front c cs other angle =
    cond-false (is_ascii_digit c) _ _ other ∙ ap (λ o. mark_or_word o (sign_at (c ∷ cs)) (c ∷ cs)) (opened-other c cs angle)

-- ---- numerals

digit_dark : (c : ℕ) → is_ascii_digit c ≡ true → is_blank c ≡ false
digit_dark c h = grind (arith, nat_tests)

decimal_passes : (w : List ℕ) (amount : ℤ) → decimal_value w ≡ Ok amount → is_decimal w ≡ true
decimal_passes w amount h = true_from_ne_false (is_decimal w) (λ e. let none : Err NotDecimal ≡ Ok amount = sym (value-not_decimal w e) ∙ h in cc)

numeral_front : (w rest : List ℕ) (amount : ℤ) → decimal_value w ≡ Ok amount → begins_past is_decimal_byte rest ≡ true
    → numeral_at (w ++ rest) ≡ Some (Numeral amount (short_number w), length w)
unfolding numeral_at
numeral_front w rest amount value past =
    ap (λ n. of_length n (numeral_of (decimal_value (take n (w ++ rest))) (take n (w ++ rest))))
    (longest-word is_decimal is_decimal_byte is_decimal-bytes w rest past (decimal_passes w amount value))
    ∙ ap (λ t. of_length (length w) (numeral_of (decimal_value t) t)) (take-append_seam w rest)
    ∙ ap (λ r. of_length (length w) (numeral_of r w)) value

-- a numeral, and what no decimal goes on with
pub lexes_numeral : (w rest : List ℕ) (amount : ℤ) {xs : List Lexeme} → 0 < length w → is_ascii_digit (get_or w 0 0) ≡ true → decimal_value w ≡ Ok amount
    → begins_past is_decimal_byte rest ≡ true → Lexes rest xs → Lexes (w ++ rest) (Numeral amount (short_number w) ∷ xs)
unfolding lexeme_at
lexes_numeral [] rest amount some digit value past more = absurd (omega arith)
lexes_numeral (c ∷ w) rest amount some digit value past more =
    front w rest (digit_dark c digit)
    (cond-true (is_ascii_digit c) _ _ digit ∙ numeral_front (c ∷ w) rest amount value past) more

-- ---- words

-- the first bytes of the signs
abbrev sign_bytes : List ℕ
sign_bytes = 61 ∷ 33 ∷ 60 ∷ 62 ∷ 43 ∷ 45 ∷ 42 ∷ 47 ∷ 37 ∷ 94 ∷ 63 ∷ 58 ∷ 59 ∷ 44 ∷ 40 ∷ 41 ∷ 46 ∷ []

-- a byte of an alphabet is none that the alphabet lacks
apart : (alphabet : ℕ → Bool) (c k : ℕ) → alphabet c ≡ true → alphabet k ≡ false → nat_eq k c ≡ false
apart alphabet c k inside outside = ne_eqb k c (λ e. both_ways _ outside (subst (λ d. alphabet d ≡ true) (sym e) inside))

other_byte : (alphabet : ℕ → Bool) (c k : ℕ) → alphabet c ≡ true → alphabet k ≡ false → (c == k) ≡ false
other_byte alphabet c k inside outside = ne_eqb c k (λ e. both_ways _ outside (subst (λ d. alphabet d ≡ true) e inside))

module _ (alphabet : ℕ → Bool) (lacks : list_all (λ k. not (alphabet k)) sign_bytes ≡ true) (c : ℕ) (inside : alphabet c ≡ true) where
  no_sign_byte : (i : ℕ) → i < 17 → nat_eq (get_or sign_bytes i 0) c ≡ false
  no_sign_byte i within =
      apart alphabet c (get_or sign_bytes i 0) inside (not-true _ (AllPass-from_list_all (λ k. not (alphabet k)) sign_bytes lacks i 0 within))

  sign_at-none : (cs : List ℕ) → sign_at (c ∷ cs) ≡ None
  unfolding sign_at
  sign_at-none cs =
      rw (no_sign_byte 0 (omega arith), no_sign_byte 1 (omega arith), no_sign_byte 2 (omega arith), no_sign_byte 3 (omega arith), no_sign_byte 4 (omega arith), no_sign_byte 5 (omega arith), no_sign_byte 6 (omega arith), no_sign_byte 7 (omega arith), no_sign_byte 8 (omega arith), no_sign_byte 9 (omega arith), no_sign_byte 10 (omega arith), no_sign_byte 11 (omega arith), no_sign_byte 12 (omega arith), no_sign_byte 13 (omega arith), no_sign_byte 14 (omega arith), no_sign_byte 15 (omega arith), no_sign_byte 16 (omega arith)) refl

  dark : alphabet 32 ≡ false → alphabet 9 ≡ false → is_blank c ≡ false
  dark space tab = or_from (c == 32) (c == 9) (other_byte alphabet c 32 inside space) (other_byte alphabet c 9 inside tab)

  -- what begins with such a byte, that is no digit, is a word
  begins_word : (cs : List ℕ) → is_ascii_digit c ≡ false → alphabet 60 ≡ false → lexeme_at (c ∷ cs) ≡ word_at (c ∷ cs)
  begins_word cs letter angle =
      marked_front c cs letter (other_byte alphabet c 60 inside angle) ∙ ap (λ o. mark_or_word None o (c ∷ cs)) (sign_at-none cs)

after_first : (b : ℕ) (bs : List ℕ) → (cs : List ℕ) × (chars_after 0 b bs ≡ b ∷ cs)
after_first b [] = ([], refl)
after_first b (c ∷ bs) = (chars_after (continuation_len c) (lead_bits c) bs, refl)

first_char : (b : ℕ) (bs : List ℕ) → b < 128 → (cs : List ℕ) × (chars (b ∷ bs) ≡ b ∷ cs)
unfolding chars
first_char b bs low =
    let is : nat_lt b 128 ≡ true = lt-ltb b 128 low in
    let start : chars (b ∷ bs) ≡ chars_after 0 b bs = rw is refl in
    ((after_first b bs).0, start ∙ (after_first b bs).1)

digit_low : (c : ℕ) → is_ascii_digit c ≡ true → c < 128
digit_low c h = grind (arith, nat_tests)

digit_no_letter : (c : ℕ) → is_ascii_digit c ≡ true → (is_ascii_alphabetic c || (c == 95)) ≡ false
digit_no_letter c h = grind (arith, nat_tests)

digit_begins_none : (c : ℕ) → is_ascii_digit c ≡ true → begins_name c ≡ false
digit_begins_none c h = ap (λ b. b || (c == 95)) (is_xid_start-ascii c (digit_low c h)) ∙ digit_no_letter c h

-- a word begins with no digit
no_digit_first : (c : ℕ) (w : List ℕ) → spells_word (c ∷ w) ≡ true → is_ascii_digit c ≡ false
no_digit_first c w word =
    false_from_ne_true (is_ascii_digit c) (λ digit.
    let first = first_char c w (digit_low c digit) in
    let spells : spells_name (c ∷ first.0) ≡ true = ap spells_name (sym first.1) ∙ (and_parts (is_utf8 (c ∷ w)) (spells_name (chars (c ∷ w))) word).1 in
    both_ways (begins_name c) (digit_begins_none c digit) (and_parts (begins_name c) (list_all is_xid_continue first.0) spells).0)

word_of_name : (w : List ℕ) → is_name w ≡ true → spells_word w ≡ true
word_of_name w name =
    let parts = and_parts (is_utf8 w && nat_le (length w) 64) (spells_name (chars w)) name in
    and_from (is_utf8 w) (spells_name (chars w)) (and_parts (is_utf8 w) (nat_le (length w) 64) parts.0).0 parts.1

name_at : (w rest : List ℕ) → is_name w ≡ true → begins_past is_name_byte rest ≡ true → begins_past is_address_byte rest ≡ true
    → word_at (w ++ rest) ≡ Some (Identifier w, length w)
unfolding word_at
name_at w rest name past past_address =
    let text : List ℕ = w ++ rest in
    let address : ℕ = longest is_marked_address text in
    let shorter : address ≤ length w = longest-word_le is_marked_address is_address_byte is_marked_address-bytes w rest past_address in
    ap (λ n. if nat_lt n address then of_length address (marked_of (take address text)) else of_length n (identifier_of (take n text)))
    (longest-word spells_word is_name_byte spells_word-bytes w rest past (word_of_name w name))
    ∙ cond-false (nat_lt (length w) address) _ _ (le-ltb (length w) address shorter)
    ∙ ap (λ t. of_length (length w) (identifier_of t)) (take-append_seam w rest)
    ∙ ap (λ b. of_length (length w) (if b then Some (Identifier w) else None)) name

-- a name, and what neither a name nor an address goes on with
pub lexes_name : (w rest : List ℕ) {xs : List Lexeme} → is_name w ≡ true → begins_past is_name_byte rest ≡ true → begins_past is_address_byte rest ≡ true
    → Lexes rest xs → Lexes (w ++ rest) (Identifier w ∷ xs)
lexes_name [] rest name past past_address more = absurd (omega (arith, is_name-length [] name))
lexes_name (c ∷ w) rest name past past_address more =
    let word : spells_word (c ∷ w) ≡ true = word_of_name (c ∷ w) name in
    let inside : is_name_byte c ≡ true = spells_word-bytes (c ∷ w) word 0 0 (omega arith) in
    front w rest (dark is_name_byte refl c inside refl refl)
    (begins_word is_name_byte refl c inside (w ++ rest) (no_digit_first c w word) refl ∙ name_at (c ∷ w) rest name past past_address) more

marked_at : (w rest : List ℕ) (place : Place) → address_of w ≡ Some place → is_marked_address w ≡ true → (i : ℕ) → i < length w → get_or w i 0 ≡ 36
    → begins_past is_address_byte rest ≡ true → word_at (w ++ rest) ≡ Some (Marked place, length w)
unfolding word_at
marked_at w rest place address mark i within dollar past =
    let text : List ℕ = w ++ rest in
    let word : ℕ = longest spells_word text in
    let shorter : word < length w = longest-short spells_word is_name_byte spells_word-bytes w rest i within (ap is_name_byte dollar) in
    ap (λ n. if nat_lt word n then of_length n (marked_of (take n text)) else of_length word (identifier_of (take word text)))
    (longest-word is_marked_address is_address_byte is_marked_address-bytes w rest past mark)
    ∙ cond-true (nat_lt word (length w)) _ _ (lt-ltb word (length w) shorter)
    ∙ ap (λ t. of_length (length w) (marked_of t)) (take-append_seam w rest)
    ∙ ap (λ o. of_length (length w) (option_map Marked o)) address

-- a marked address, and what neither a name nor an address goes on with
pub lexes_marked : (p : Place) → IsPlace p → (p.fixed_column || p.fixed_row) ≡ true → (rest : List ℕ) {xs : List Lexeme} → begins_past is_address_byte rest ≡ true
    → Lexes rest xs → Lexes (address_text p ++ rest) (Marked p ∷ xs)
lexes_marked p place marked rest {xs} past more =
    let read : address_of (address_text p) ≡ Some p = address_of-address_text p place in
    let dollar = dollar_spelled p marked in
    address_by p place
    (λ t. address_of t ≡ Some p → is_marked_address t ≡ true → (i : ℕ) → i < length t → get_or t i 0 ≡ 36 → Lexes (t ++ rest) (Marked p ∷ xs))
    (λ c cs other address mark i within is.
    let inside : is_address_byte c ≡ true = is_marked_address-bytes (c ∷ cs) mark 0 0 (omega arith) in
    front cs rest (dark is_address_byte refl c inside refl refl)
    (begins_word is_address_byte refl c inside (cs ++ rest) other refl ∙ marked_at (c ∷ cs) rest p address mark i within is past) more)
    read (ap has_mark read ∙ marked) dollar.0 dollar.1.0 dollar.1.1

-- ---- texts

until_closing-text : (t rest : List ℕ) → has_closing_mark t ≡ false → ends_in_mark t ≡ false → until_closing (t ++ 62 ∷ 62 ∷ rest) ≡ Some (t, rest)
until_closing-text [] rest closing ends = refl
until_closing-text (a ∷ []) rest closing ends = rw ends
until_closing-text (a ∷ b ∷ more) rest closing ends =
    let parts = or_parts ((a == 62) && (b == 62)) (has_closing_mark (b ∷ more)) closing in
    rw (parts.0, until_closing-text (b ∷ more) rest parts.1 ends)

-- a text between `<<` and `>>`, whatever follows
pub lexes_text : (t rest : List ℕ) {xs : List Lexeme} → is_text_value t ≡ true → has_closing_mark t ≡ false → ends_in_mark t ≡ false → Lexes rest xs
    → Lexes ((60 ∷ 60 ∷ (t ++ 62 ∷ 62 ∷ [])) ++ rest) (Text t ∷ xs)
unfolding lexeme_at
lexes_text t rest value closing ends more =
    let size : length t + 4 ≡ suc (suc (length (t ++ 62 ∷ 62 ∷ []))) = omega (arith, length-append t (62 ∷ 62 ∷ [])) in
    front (60 ∷ (t ++ 62 ∷ 62 ∷ [])) rest refl
    (ap (λ r. quoted (until_closing r)) (append_assoc t (62 ∷ 62 ∷ []) rest)
    ∙ ap quoted (until_closing-text t rest closing ends)
    ∙ cond-true (is_text_value t) _ _ value
    ∙ ap (λ n. Some (Text t, n)) size)
    more

-- ---- signs

one_sign : (c : ℕ) (x : s.Sign) → is_blank c ≡ false → is_ascii_digit c ≡ false → (c == 60) ≡ false → sign_text x ≡ c ∷ []
    → (rest : List ℕ) → sign_at (c ∷ rest) ≡ Some x → {xs : List Lexeme} → Lexes rest xs → Lexes (c ∷ rest) (Sign x ∷ xs)
one_sign c x dark other angle text rest is more =
    front [] rest dark (marked_front c rest other angle ∙ ap (λ o. mark_or_word None o (c ∷ rest)) is ∙ ap (λ t. Some (Sign x, length t)) text) more

module _ (rest : List ℕ) {xs : List Lexeme} (more : Lexes rest xs) where
  pub lexes_open : Lexes (40 ∷ rest) (Sign sign.Open ∷ xs)
  unfolding sign_at
  lexes_open = one_sign 40 sign.Open refl refl refl refl rest refl more

  pub lexes_close : Lexes (41 ∷ rest) (Sign sign.Close ∷ xs)
  unfolding sign_at
  lexes_close = one_sign 41 sign.Close refl refl refl refl rest refl more

  pub lexes_semicolon : Lexes (59 ∷ rest) (Sign sign.Semicolon ∷ xs)
  unfolding sign_at
  lexes_semicolon = one_sign 59 sign.Semicolon refl refl refl refl rest refl more

  pub lexes_colon : Lexes (58 ∷ rest) (Sign sign.Colon ∷ xs)
  unfolding sign_at
  lexes_colon = one_sign 58 sign.Colon refl refl refl refl rest refl more

  pub lexes_caret : Lexes (94 ∷ rest) (Sign sign.Caret ∷ xs)
  unfolding sign_at
  lexes_caret = one_sign 94 sign.Caret refl refl refl refl rest refl more

  pub lexes_dot : Lexes (46 ∷ rest) (Sign sign.Dot ∷ xs)
  unfolding sign_at
  lexes_dot = one_sign 46 sign.Dot refl refl refl refl rest refl more

  pub lexes_minus : Lexes (45 ∷ rest) (Sign sign.Minus ∷ xs)
  unfolding sign_at
  lexes_minus = one_sign 45 sign.Minus refl refl refl refl rest refl more

  -- a sign before a space
  pub lexes_spaced : (x : s.Sign) → Lexes (sign_text x ++ 32 ∷ rest) (Sign x ∷ xs)
  unfolding sign_at lexeme_at
  lexes_spaced sign.Equal = front (61 ∷ []) (32 ∷ rest) refl refl (gap refl more)
  lexes_spaced sign.NotEqual = front (61 ∷ []) (32 ∷ rest) refl refl (gap refl more)
  lexes_spaced sign.LessOrEqual = front (61 ∷ []) (32 ∷ rest) refl refl (gap refl more)
  lexes_spaced sign.GreaterOrEqual = front (61 ∷ []) (32 ∷ rest) refl refl (gap refl more)
  lexes_spaced x = front [] (32 ∷ rest) refl refl (gap refl more)
