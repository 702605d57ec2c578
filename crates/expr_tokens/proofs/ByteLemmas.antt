-- The bytes that words, addresses and decimals are made of.
use Rattle.std.proofs.Common.{◌≡◌, ℕ, ◌+◌, ◌-◌, ◌/◌, ◌%◌, ◌<◌, ◌≤◌, Bool, true, false, not, ◌&&◌, ◌||◌, nat_le, List, [], ◌∷◌, ◌++◌, length, get_or, Option, Some, None, refl, sym, subst, ◌∙◌, ⊎_elim, arith}
use Rattle.std.specs.Prelude.{◌==◌, if◌then◌else◌}
use Rattle.std.specs.List.{list_all, AllPass}
use Rattle.std.specs.Char.{is_ascii_alphanumeric, is_ascii_uppercase, is_ascii_digit}
use Rattle.std.specs.Str.{chars, NonePass, NoCharPasses}
use Rattle.std.specs.Fmt.{decimal}
use Rattle.std.proofs.lemmas.Bool.{and_parts, and_from, or_cases, or_left, or_right, not_from_true, not-false, eqb-true, leb-true, leb-false, le-leb, cases_lt, cond_both, false≢true}
use Rattle.std.proofs.lemmas.Bool.Decides.{nat_tests}
use Rattle.std.proofs.lemmas.Str.{IsUtf8-from_is_utf8, NoCharPasses-byte, encodes-chars}
use Rattle.std.proofs.lemmas.List.Folds.{list_all-append}
use Rattle.std.proofs.lemmas.List.Elements.{All-from_get_or}
use Rattle.std.proofs.lemmas.List.Sums.{AllPass-from_list_all}
use Rattle.unicode_ident.specs.Ident.{is_xid_continue}
use Rattle.unicode_ident.proofs.IdentLemmas.{is_xid_continue-ascii, is_xid_start-is_xid_continue}
use Rattle.fc_base.specs.Texts.{begins_name, spells_name, is_name_byte}
use Rattle.fc_base.specs.Places.{Place, IsPlace, mark_text, column_text, address_text, address_of}
use Rattle.fc_base.proofs.AddressLemmas.{address_of-iff}
use Rattle.quantities.specs.declared.mark.Mark.{Mark}
use Rattle.quantities.specs.declared.mark.Mark.TheVariants.{Point, Exponent}
use Rattle.quantities.specs.Decimals.{is_mark, has, before, behind, without_sign, are_digits, is_mantissa, mantissa, exponent, has_exponent, is_decimal}
use Rattle.quantities.proofs.TextLemmas as digits
use Rattle.expr_tokens.specs.Lexemes.{spells_word, has_mark, is_marked_address}

-- ---- words

begins_name-continues : (c : ℕ) → begins_name c ≡ true → is_xid_continue c ≡ true
begins_name-continues c begins =
    ⊎_elim (is_xid_start-is_xid_continue c) (λ e. subst (λ d. is_xid_continue d ≡ true) (sym (eqb-true c 95 e)) (is_xid_continue-ascii 95 (omega arith))) (or_cases _ _ begins)

none_other : (cs : List ℕ) → list_all is_xid_continue cs ≡ true → NonePass (λ c. not (is_xid_continue c)) cs
none_other [] continues = tt
none_other (c ∷ cs) continues =
    let parts = and_parts (is_xid_continue c) (list_all is_xid_continue cs) continues in
    (not_from_true _ parts.0, none_other cs parts.1)

spelled_none_other : (cs : List ℕ) → spells_name cs ≡ true → NonePass (λ c. not (is_xid_continue c)) cs
spelled_none_other [] spells = absurd (false≢true spells)
spelled_none_other (c ∷ cs) spells =
    let parts = and_parts (begins_name c) (list_all is_xid_continue cs) spells in
    (not_from_true _ (begins_name-continues c parts.0), none_other cs parts.1)

from_ascii : (b : ℕ) → (is_ascii_alphanumeric b || (b == 95)) ≡ true → is_name_byte b ≡ true
from_ascii b ascii =
    ⊎_elim (λ e. or_left _ _ (or_right _ _ e)) (λ e. or_right (nat_le 128 b || is_ascii_alphanumeric b) _ e) (or_cases _ _ ascii)

word_byte : (text : List ℕ) → spells_word text ≡ true → (i : ℕ) → i < length text → is_name_byte (get_or text i 0) ≡ true
word_byte text word i within =
    let parts = and_parts _ _ word in
    let p : ℕ → Bool = λ c. not (is_xid_continue c) in
    let none : NoCharPasses p text = (chars text, encodes-chars text (IsUtf8-from_is_utf8 text parts.0), spelled_none_other (chars text) parts.1) in
    ⊎_elim
    (λ low. from_ascii (get_or text i 0) (sym (is_xid_continue-ascii _ low) ∙ not-false _ (NoCharPasses-byte p text i none within low)))
    (λ high. or_left _ _ (or_left _ _ (le-leb 128 _ high)))
    (cases_lt (get_or text i 0) 128)

-- every byte of a word may stand in a name
pub spells_word-bytes : (text : List ℕ) → spells_word text ≡ true → AllPass is_name_byte text
spells_word-bytes text word = All-from_get_or (λ b. is_name_byte b ≡ true) text 0 (word_byte text word)

-- ---- addresses

-- a capital letter, a digit or `$`
abbrev pub is_address_byte : ℕ → Bool
is_address_byte c = is_ascii_uppercase c || is_ascii_digit c || (c == 36)

digit_in_address : (d : ℕ) → d < 10 → is_address_byte (48 + d) ≡ true
digit_in_address d below = grind (arith, nat_tests)

letter_in_address : (c : ℕ) → 65 ≤ c → c ≤ 90 → is_address_byte c ≡ true
letter_in_address c low high = grind (arith, nat_tests)

mark_in_address : (marked : Bool) → list_all is_address_byte (mark_text marked) ≡ true
mark_in_address true = refl
mark_in_address false = refl

column_in_address : (column : ℕ) → 1 ≤ column → column ≤ 702 → list_all is_address_byte (column_text column) ≡ true
column_in_address column low high =
    cond_both (nat_le column 26) ((column + 64) ∷ []) (((column - 1) / 26 + 64) ∷ ((column - 1) % 26 + 65) ∷ []) (λ t. list_all is_address_byte t ≡ true)
    (λ e. and_from (is_address_byte (column + 64)) true (letter_in_address (column + 64) (omega arith) (omega (arith, leb-true column 26 e))) refl)
    (λ e. let large : 26 < column = leb-false column 26 e in
    and_from (is_address_byte ((column - 1) / 26 + 64)) _ (letter_in_address ((column - 1) / 26 + 64) (omega arith) (omega arith))
    (and_from (is_address_byte ((column - 1) % 26 + 65)) true (letter_in_address ((column - 1) % 26 + 65) (omega arith) (omega arith)) refl))

joined : (p : ℕ → Bool) (xs ys : List ℕ) → list_all p xs ≡ true → list_all p ys ≡ true → list_all p (xs ++ ys) ≡ true
joined p xs ys h k = list_all-append p xs ys ∙ and_from _ _ h k

address_bytes : (p : Place) → IsPlace p → list_all is_address_byte (address_text p) ≡ true
unfolding address_text
address_bytes p place =
    joined is_address_byte (mark_text p.fixed_column) _ (mark_in_address p.fixed_column)
    (joined is_address_byte (column_text p.column) _ (column_in_address p.column place.column_low place.column_high)
    (joined is_address_byte (mark_text p.fixed_row) (decimal p.row) (mark_in_address p.fixed_row) (digits.list_all-decimal is_address_byte digit_in_address p.row (omega (arith, place.row_high)))))

marked_parts : (o : Option Place) → has_mark o ≡ true → (p : Place) × (o ≡ Some p)
marked_parts None h = absurd (false≢true h)
marked_parts (Some p) h = (p, refl)

-- every byte of a marked address may stand in an address
pub is_marked_address-bytes : (text : List ℕ) → is_marked_address text ≡ true → AllPass is_address_byte text
is_marked_address-bytes text h =
    let found = marked_parts (address_of text) h in
    let spelled = (address_of-iff text found.0).0 found.1 in
    AllPass-from_list_all is_address_byte text (subst (λ t. list_all is_address_byte t ≡ true) spelled.spelling (address_bytes found.0 spelled.place))

-- ---- decimals

-- a digit, a point, an `e` or a sign
abbrev pub is_decimal_byte : ℕ → Bool
is_decimal_byte c = is_ascii_digit c || (c == 46) || (c == 101) || (c == 69) || (c == 43) || (c == 45)

digit_in_decimal : (c : ℕ) → is_ascii_digit c ≡ true → is_decimal_byte c ≡ true
digit_in_decimal c h = rw h refl

mark_in_decimal : (mark : Mark) (c : ℕ) → is_mark mark c ≡ true → is_decimal_byte c ≡ true
mark_in_decimal Point c h = grind (arith, nat_tests)
mark_in_decimal Exponent c h = grind (arith, nat_tests)

digits_in_decimal : (text : List ℕ) → list_all is_ascii_digit text ≡ true → list_all is_decimal_byte text ≡ true
digits_in_decimal [] h = refl
digits_in_decimal (c ∷ cs) h =
    let parts = and_parts (is_ascii_digit c) (list_all is_ascii_digit cs) h in
    and_from (is_decimal_byte c) _ (digit_in_decimal c parts.0) (digits_in_decimal cs parts.1)

-- the bytes before a mark, the mark, and those behind it
parted : (mark : Mark) (text : List ℕ) → list_all is_decimal_byte (before mark text) ≡ true
    → (has mark text ≡ true → list_all is_decimal_byte (behind mark text) ≡ true) → list_all is_decimal_byte text ≡ true
parted mark [] h k = refl
parted mark (c ∷ cs) h k =
    elim (is_mark mark c) as (λ b. is_mark mark c ≡ b → list_all is_decimal_byte (if b then [] else c ∷ before mark cs) ≡ true
    → (b || has mark cs ≡ true → list_all is_decimal_byte (if b then cs else behind mark cs) ≡ true) → is_decimal_byte c && list_all is_decimal_byte cs ≡ true) [
      | true ↦ λ e front back. and_from (is_decimal_byte c) (list_all is_decimal_byte cs) (mark_in_decimal mark c e) (back refl)
      | false ↦ λ e front back.
          let parts = and_parts (is_decimal_byte c) (list_all is_decimal_byte (before mark cs)) front in
          and_from (is_decimal_byte c) (list_all is_decimal_byte cs) parts.0 (parted mark cs parts.1 back)
    ] refl h k

sign_in_decimal : (c : ℕ) → ((c == 43) || (c == 45)) ≡ true → is_decimal_byte c ≡ true
sign_in_decimal c h = grind (arith, nat_tests)

unsigned_in_decimal : (text : List ℕ) → list_all is_decimal_byte (without_sign text) ≡ true → list_all is_decimal_byte text ≡ true
unsigned_in_decimal [] h = refl
unsigned_in_decimal (c ∷ cs) h =
    elim ((c == 43) || (c == 45)) as (λ b. ((c == 43) || (c == 45)) ≡ b → list_all is_decimal_byte (if b then cs else c ∷ cs) ≡ true
    → is_decimal_byte c && list_all is_decimal_byte cs ≡ true)
    [ true ↦ λ e rest. and_from (is_decimal_byte c) (list_all is_decimal_byte cs) (sign_in_decimal c e) rest | false ↦ λ e rest. rest ] refl h

are_digits-bytes : (most : ℕ) (text : List ℕ) → are_digits most text ≡ true → list_all is_decimal_byte text ≡ true
are_digits-bytes most text h = digits_in_decimal text (and_parts _ _ h).1

either : (there good : Bool) → (not there || good) ≡ true → there ≡ true → good ≡ true
either true good h e = h
either false good h e = absurd (false≢true e)

mantissa_in_decimal : (text : List ℕ) → is_mantissa text ≡ true → list_all is_decimal_byte text ≡ true
mantissa_in_decimal text h =
    let parts = and_parts (are_digits 40 (before Point text)) _ h in
    parted Point text (are_digits-bytes 40 (before Point text) parts.0)
    (λ e. are_digits-bytes 40 (behind Point text) (either (has Point text) (are_digits 40 (behind Point text)) parts.1 e))

-- every byte of a decimal may stand in one
pub is_decimal-bytes : (text : List ℕ) → is_decimal text ≡ true → AllPass is_decimal_byte text
unfolding is_decimal
is_decimal-bytes text h =
    let parts = and_parts (is_mantissa (mantissa text)) _ h in
    AllPass-from_list_all is_decimal_byte text
    (unsigned_in_decimal text
    (parted Exponent (without_sign text) (mantissa_in_decimal (mantissa text) parts.0)
    (λ e. unsigned_in_decimal (exponent text) (are_digits-bytes 2 (without_sign (exponent text)) (either (has_exponent text) _ parts.1 e)))))
