-- Names of ASCII letters and digits: units, functions and addresses.
use Rattle.std.proofs.Common.{◌≡◌, ℕ, zero, suc, ◌+◌, ◌-◌, ◌/◌, ◌%◌, ◌<◌, ◌≤◌, Bool, true, false, not, ◌&&◌, ◌||◌, nat_le, List, [], ◌∷◌, ◌++◌, length, get_or, Some, None, is_some, refl, sym, ap, subst, ◌∙◌, arith}
use Rattle.std.specs.Prelude.{◌==◌, nat_eq, nat_lt, if◌then◌else◌, codes}
use Rattle.std.specs.Cmp.Lexicographic.{pointwise}
use Rattle.std.specs.List.{list_all, list_any}
use Rattle.std.specs.Char.{is_ascii_digit, is_ascii_alphabetic, is_ascii_alphanumeric}
use Rattle.std.specs.Str.{chars, is_utf8, IsAscii, bytes_eq}
use Rattle.std.specs.Fmt.{decimal}
use Rattle.std.proofs.lemmas.Bool.{and_parts, and_from, or_from, or_left, or_right, not-true, false≢true, both_ways, le-leb, ltb-true, leb-true, leb-false, cond_both, false_from_ne_true}
use Rattle.std.proofs.lemmas.Bool.Decides.{nat_tests}
use Rattle.std.proofs.lemmas.Slice.Eq.{bytes_eq-Decides}
use Rattle.std.proofs.lemmas.Str.{IsUtf8-from_ascii, chars-IsAscii, is_utf8-from_IsUtf8}
use Rattle.unicode_ident.specs.Ident.{is_xid_continue}
use Rattle.unicode_ident.proofs.IdentLemmas.{is_xid_start-ascii, is_xid_continue-ascii}
use Rattle.fc_base.specs.Texts.{begins_name, spells_name, is_name}
use Rattle.fc_base.specs.Places.{Place, IsPlace, mark_text, column_text, address_text}
use Rattle.fc_base.proofs.AddressLemmas.{before_row, written-parts, length-parts}
use Rattle.quantities.proofs.TextLemmas as digits
use Rattle.std.proofs.Math.Seq.{get_or-append_seam}
use Rattle.std.proofs.lemmas.List.{length-append}
use Rattle.std.proofs.lemmas.List.Folds.{list_all-append, list_any-append}
use Rattle.std.proofs.lemmas.Fmt.{decimal_nonempty}
use Rattle.unit_signatures.specs.Table.{Row, look_up, unit_table, unit_named}
use Rattle.object_paths.specs.PathTexts.{is_word}

-- a letter of ASCII
abbrev pub is_letter : ℕ → Bool
is_letter c = nat_lt c 128 && is_ascii_alphabetic c

-- a letter or a digit of ASCII
abbrev pub is_letter_or_digit : ℕ → Bool
is_letter_or_digit c = nat_lt c 128 && is_ascii_alphanumeric c

-- a letter, and then at most 63 letters and digits
abbrev pub is_ascii_name : List ℕ → Bool
is_ascii_name [] = false
is_ascii_name (c ∷ cs) = is_letter c && list_all is_letter_or_digit cs && nat_le (length (c ∷ cs)) 64

letter_begins : (c : ℕ) → is_letter c ≡ true → begins_name c ≡ true
letter_begins c h =
    let parts = and_parts (nat_lt c 128) (is_ascii_alphabetic c) h in
    or_left _ _ (is_xid_start-ascii c (ltb-true c 128 parts.0) ∙ parts.1)

continues : (cs : List ℕ) → list_all is_letter_or_digit cs ≡ true → list_all is_xid_continue cs ≡ true
continues [] h = refl
continues (c ∷ cs) h =
    let parts = and_parts (is_letter_or_digit c) (list_all is_letter_or_digit cs) h in
    let byte = and_parts (nat_lt c 128) (is_ascii_alphanumeric c) parts.0 in
    and_from (is_xid_continue c) (list_all is_xid_continue cs)
    (is_xid_continue-ascii c (ltb-true c 128 byte.0) ∙ or_left (is_ascii_alphanumeric c) (c == 95) byte.1) (continues cs parts.1)

low_bytes : (cs : List ℕ) → list_all is_letter_or_digit cs ≡ true → IsAscii cs
low_bytes [] h i = omega arith
low_bytes (c ∷ cs) h zero = ltb-true c 128 (and_parts (nat_lt c 128) (is_ascii_alphanumeric c) (and_parts (is_letter_or_digit c) (list_all is_letter_or_digit cs) h).0).0
low_bytes (c ∷ cs) h (suc i) = low_bytes cs (and_parts (is_letter_or_digit c) (list_all is_letter_or_digit cs) h).1 i

alphabetic_alphanumeric : (c : ℕ) → is_ascii_alphabetic c ≡ true → is_ascii_alphanumeric c ≡ true
alphabetic_alphanumeric c h = grind (arith, nat_tests)

letter_as_either : (c : ℕ) → is_letter c ≡ true → is_letter_or_digit c ≡ true
letter_as_either c h =
    let parts = and_parts (nat_lt c 128) (is_ascii_alphabetic c) h in
    and_from (nat_lt c 128) (is_ascii_alphanumeric c) parts.0 (alphabetic_alphanumeric c parts.1)

pub ascii_name : (w : List ℕ) → is_ascii_name w ≡ true → is_name w ≡ true
ascii_name [] h = absurd (false≢true h)
ascii_name (c ∷ cs) h =
    let outer = and_parts (is_letter c && list_all is_letter_or_digit cs) (nat_le (length (c ∷ cs)) 64) h in
    let inner = and_parts (is_letter c) (list_all is_letter_or_digit cs) outer.0 in
    let low : IsAscii (c ∷ cs) = low_bytes (c ∷ cs) (and_from (is_letter_or_digit c) (list_all is_letter_or_digit cs) (letter_as_either c inner.0) inner.1) in
    and_from (is_utf8 (c ∷ cs) && nat_le (length (c ∷ cs)) 64) (spells_name (chars (c ∷ cs)))
    (and_from (is_utf8 (c ∷ cs)) (nat_le (length (c ∷ cs)) 64) (is_utf8-from_IsUtf8 (c ∷ cs) (IsUtf8-from_ascii (c ∷ cs) low)) outer.1)
    (ap spells_name (chars-IsAscii (c ∷ cs) low) ∙ and_from (begins_name c) (list_all is_xid_continue cs) (letter_begins c inner.0) (continues cs inner.1))

-- ---- units

look_up-ascii : (rows : List Row) → list_all (λ r. is_ascii_name r.0) rows ≡ true → (w : List ℕ) → is_some (look_up w rows) ≡ true → is_ascii_name w ≡ true
look_up-ascii [] all w h = absurd (false≢true h)
look_up-ascii (row ∷ rows) all w h =
    let parts = and_parts (is_ascii_name row.0) (list_all (λ r. is_ascii_name r.0) rows) all in
    elim (pointwise nat_eq row.0 w) as (λ b. pointwise nat_eq row.0 w ≡ b → is_some (if b then Some (row.1, row.2) else look_up w rows) ≡ true → is_ascii_name w ≡ true) [
      | true ↦ λ e found. subst (λ t. is_ascii_name t ≡ true) ((bytes_eq-Decides row.0 w).0 e) parts.0
      | false ↦ λ e found. look_up-ascii rows parts.1 w found
    ] refl h

-- a unit's name is a name
pub unit_name : (w : List ℕ) → is_some (unit_named w) ≡ true → is_name w ≡ true
unfolding unit_named
unit_name w h = ascii_name w (look_up-ascii unit_table refl w h)

-- a text that no row has is no unit
look_up-none : (test : List ℕ → Bool) (rows : List Row) → list_all (λ r. not (test r.0)) rows ≡ true → (w : List ℕ) → test w ≡ true → look_up w rows ≡ None
look_up-none test [] none w h = refl
look_up-none test (row ∷ rows) none w h =
    let parts = and_parts (not (test row.0)) (list_all (λ r. not (test r.0)) rows) none in
    elim (pointwise nat_eq row.0 w) as (λ b. pointwise nat_eq row.0 w ≡ b → (if b then Some (row.1, row.2) else look_up w rows) ≡ None) [
      | true ↦ λ e. absurd (both_ways (test row.0) (not-true _ parts.0) (subst (λ t. test t ≡ true) (sym ((bytes_eq-Decides row.0 w).0 e)) h))
      | false ↦ λ e. look_up-none test rows parts.1 w h
    ] refl

-- a text with a digit is no unit and no flag
pub digit_no_word : (w : List ℕ) → list_any is_ascii_digit w ≡ true → is_word w ≡ false
unfolding unit_named
digit_no_word w h =
    or_from (is_some (unit_named w) || bytes_eq w (codes "true")) (bytes_eq w (codes "false"))
    (or_from (is_some (unit_named w)) (bytes_eq w (codes "true"))
    (ap is_some (look_up-none (λ t. list_any is_ascii_digit t) unit_table refl w h)) (unlike (codes "true") refl))
    (unlike (codes "false") refl)
  where
    unlike : (t : List ℕ) → list_any is_ascii_digit t ≡ false → bytes_eq w t ≡ false
    unlike t none = false_from_ne_true _ (λ e. both_ways (list_any is_ascii_digit t) none (subst (λ u. list_any is_ascii_digit u ≡ true) ((bytes_eq-Decides w t).0 e) h))

-- ---- addresses

digit_either : (d : ℕ) → d < 10 → is_letter_or_digit (48 + d) ≡ true
digit_either d below = grind (arith, nat_tests)

capital : (c : ℕ) → 65 ≤ c → c ≤ 90 → is_letter c ≡ true
capital c low high = grind (arith, nat_tests)

row_digits : (row : ℕ) → row ≤ 16384 → list_all is_letter_or_digit (decimal row) ≡ true
row_digits row high = digits.list_all-decimal is_letter_or_digit digit_either row (omega arith)

glyph_digit : (d : ℕ) → d < 10 → is_ascii_digit (48 + d) ≡ true
glyph_digit d below = grind (arith, nat_tests)

some_digit : (text : List ℕ) → 0 < length text → list_all is_ascii_digit text ≡ true → list_any is_ascii_digit text ≡ true
some_digit [] some all = absurd (omega arith)
some_digit (c ∷ cs) some all = or_left _ _ (and_parts (is_ascii_digit c) (list_all is_ascii_digit cs) all).0

row_some_digit : (row : ℕ) → row ≤ 16384 → list_any is_ascii_digit (decimal row) ≡ true
row_some_digit row high =
    some_digit (decimal row) (decimal_nonempty row (omega arith)) (digits.list_all-decimal is_ascii_digit glyph_digit row (omega arith))

-- the letters of a column
column_by : (column : ℕ) → 1 ≤ column → column ≤ 702 → (P : List ℕ → Type 0)
    → ((c : ℕ) (cs : List ℕ) → is_letter c ≡ true → list_all is_letter_or_digit cs ≡ true → P (c ∷ cs)) → P (column_text column)
column_by column low high P here =
    cond_both (nat_le column 26) ((column + 64) ∷ []) (((column - 1) / 26 + 64) ∷ ((column - 1) % 26 + 65) ∷ []) P
    (λ e. here (column + 64) [] (capital (column + 64) (omega arith) (omega (arith, leb-true column 26 e))) refl)
    (λ e. let large : 26 < column = leb-false column 26 e in
    here ((column - 1) / 26 + 64) (((column - 1) % 26 + 65) ∷ []) (capital ((column - 1) / 26 + 64) (omega arith) (omega arith))
    (and_from (is_letter_or_digit ((column - 1) % 26 + 65)) true
    (letter_as_either ((column - 1) % 26 + 65) (capital ((column - 1) % 26 + 65) (omega arith) (omega arith))) refl))

ascii_spelled : (m n : Bool) (column digits : List ℕ) → (m || n) ≡ false → is_ascii_name (column ++ digits) ≡ true
    → is_ascii_name (mark_text m ++ (column ++ (mark_text n ++ digits))) ≡ true
ascii_spelled true n column digits h name = absurd (false≢true (sym h))
ascii_spelled false true column digits h name = absurd (false≢true (sym h))
ascii_spelled false false column digits h name = name

letters_and_digits : (column row : ℕ) → 1 ≤ column → column ≤ 702 → row ≤ 16384 → length (column_text column ++ decimal row) ≤ 64
    → is_ascii_name (column_text column ++ decimal row) ≡ true
letters_and_digits column row low high below =
    column_by column low high (λ t. length (t ++ decimal row) ≤ 64 → is_ascii_name (t ++ decimal row) ≡ true)
    (λ c cs letter others short.
    and_from (is_letter c && list_all is_letter_or_digit (cs ++ decimal row)) (nat_le (length (c ∷ (cs ++ decimal row))) 64)
    (and_from (is_letter c) (list_all is_letter_or_digit (cs ++ decimal row)) letter
    (list_all-append is_letter_or_digit cs (decimal row) ∙ and_from _ _ others (row_digits row below)))
    (le-leb (length (c ∷ (cs ++ decimal row))) 64 short))

length-spelled : (p : Place) → IsPlace p → length (column_text p.column ++ decimal p.row) ≤ 64
length-spelled p place =
    let front : List ℕ = mark_text p.fixed_column in
    let column : List ℕ = column_text p.column in
    omega (arith, length-append column (decimal p.row), length-append (front ++ column) (mark_text p.fixed_row), length-append front column, length-parts p place)

-- an address without marks is a name
pub address_name : (p : Place) → IsPlace p → (p.fixed_column || p.fixed_row) ≡ false → is_name (address_text p) ≡ true
unfolding address_text
address_name p place unmarked =
    ascii_name (address_text p)
    (ascii_spelled p.fixed_column p.fixed_row (column_text p.column) (decimal p.row) unmarked
    (letters_and_digits p.column p.row place.column_low place.column_high place.row_high (length-spelled p place)))

-- an address has a digit
pub address_digit : (p : Place) → IsPlace p → list_any is_ascii_digit (address_text p) ≡ true
address_digit p place =
    ap (list_any is_ascii_digit) (sym (written-parts p)) ∙ list_any-append is_ascii_digit (before_row p) (decimal p.row)
    ∙ or_right (list_any is_ascii_digit (before_row p)) _ (row_some_digit p.row place.row_high)

dollar_at : (m n : Bool) (column digits : List ℕ) → (m || n) ≡ true
    → (i : ℕ) × ((i < length (mark_text m ++ (column ++ (mark_text n ++ digits)))) × (get_or (mark_text m ++ (column ++ (mark_text n ++ digits))) i 0 ≡ 36))
dollar_at true n column digits h = (0, (omega arith, refl))
dollar_at false true column digits h = (length column, (omega (arith, length-append column (36 ∷ digits)), get_or-append_seam column 36 digits 0))
dollar_at false false column digits h = absurd (false≢true h)

-- a marked address has a `$`
pub dollar_spelled : (p : Place) → (p.fixed_column || p.fixed_row) ≡ true → (i : ℕ) × ((i < length (address_text p)) × (get_or (address_text p) i 0 ≡ 36))
unfolding address_text
dollar_spelled p marked = dollar_at p.fixed_column p.fixed_row (column_text p.column) (decimal p.row) marked

letter_address : (c : ℕ) → is_letter c ≡ true → is_ascii_digit c ≡ false
letter_address c h = grind (arith, nat_tests)

-- an address begins with a letter or `$`
pub address_by : (p : Place) → IsPlace p → (P : List ℕ → Type 0) → ((c : ℕ) (cs : List ℕ) → is_ascii_digit c ≡ false → P (c ∷ cs)) → P (address_text p)
unfolding address_text
address_by p place P here = begun p.fixed_column
  where
    begun : (m : Bool) → P (mark_text m ++ (column_text p.column ++ (mark_text p.fixed_row ++ decimal p.row)))
    begun true = here 36 (column_text p.column ++ (mark_text p.fixed_row ++ decimal p.row)) refl
    begun false =
        column_by p.column place.column_low place.column_high (λ t. P (t ++ (mark_text p.fixed_row ++ decimal p.row)))
        (λ c cs letter others. here c (cs ++ (mark_text p.fixed_row ++ decimal p.row)) (letter_address c letter))
