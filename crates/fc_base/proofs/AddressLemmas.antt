-- The spelling of an address can be read in one way, and what is read is the spelling.
use Rattle.std.proofs.Common.{◌≡◌, ◌≢◌, ℕ, ◌+◌, ◌-◌, ◌*◌, ◌/◌, ◌%◌, ◌<◌, ◌≤◌, List, [], ◌∷◌, ◌++◌, Bool, true, false, cond, ◌↔◌, not, ◌==◌, ◌&&◌, nat_lt, nat_le, length, get_or, slice_index, take, drop, filter, Some, None, refl, sym, ap, subst, ◌∙◌, ⊎_elim, arith}
use Rattle.std.specs.List.{list_any}
use Rattle.std.specs.Char.{is_ascii_uppercase, is_ascii_digit}
use Rattle.std.specs.Fmt.{decimal}
use Rattle.std.specs.Str.{all_ascii_digits, bytes_eq}
use Rattle.std.specs.Str.Parse.{digits_value}
use Rattle.std.specs.Option.{option_map}
use Rattle.std.proofs.lemmas.Bool.{and_parts, and_from, and_left, and_right, cond_both, cond-true, leb-true, leb-false, le-leb, lt-leb, lt-ltb, ltb-true, eqb-true, eq-eqb, ne_eqb, not-true, not_from_false, cases_eq, both_ways}
use Rattle.std.proofs.lemmas.List.{append-nil, append_assoc, length-append, take_at, drop_at, take-append-drop}
use Rattle.std.proofs.lemmas.List.Elements.{filter-append}
use Rattle.std.proofs.lemmas.Slice.Eq.{bytes_eq-Decides}
use Rattle.std.proofs.lemmas.Fmt.{decimal-digits_value, decimal_digit, first_decimal, decimal_nonempty, length-decimal-le, digits_value-decimal, digits_decimal}
use Rattle.std.proofs.lemmas.Str.Parse.{IsNumeralModel, numerals_by_value, tells_all_ascii_digits}
use Rattle.fc_base.specs.Places.{Place, IsPlace, Spells, is_place, mark_text, column_text, address_text, column_of, named_place, address_of}
use Rattle.fc_base.specs.AddressParts.{is_marked, after_mark, letter_count, spells_row, row_of, place_after, read_place}

own : IsNumeralModel (λ ds. all_ascii_digits ds ≡ true) (digits_value 10)
own = numerals_by_value _ tells_all_ascii_digits

-- ---- what is read was spelled so

pub mark-after : (text : List ℕ) → mark_text (is_marked text) ++ after_mark text ≡ text
mark-after [] = refl
mark-after (c ∷ rest) =
    elim (c == 36) as (λ b. (c == 36) ≡ b → mark_text b ++ cond b rest (c ∷ rest) ≡ c ∷ rest)
    [ true ↦ λ e. ap (λ x. x ∷ rest) (sym (eqb-true c 36 e)) | false ↦ λ _. refl ] refl

-- the column that the letters in front name, and those letters
pub record IsColumn (column : ℕ) (letters : List ℕ) : Type 0 where
  pub low : 1 ≤ column
  pub high : column ≤ 702
  pub text : column_text column ≡ letters

upper_range : (c : ℕ) → is_ascii_uppercase c ≡ true → (65 ≤ c) × (c ≤ 90)
upper_range c h =
    let parts = and_parts (nat_le 65 c) (nat_le c 90) h in
    (leb-true 65 c parts.0, leb-true c 90 parts.1)

one_letter : (a : ℕ) → is_ascii_uppercase a ≡ true → IsColumn (column_of (a ∷ [])) (a ∷ [])
one_letter a upper =
    let range : (65 ≤ a) × (a ≤ 90) = upper_range a upper in
    let column : 0 * 26 + (a - 64) ≡ a - 64 = omega arith in
    let small : 0 * 26 + (a - 64) ≤ 26 = omega arith in
    let letter : 0 * 26 + (a - 64) + 64 ≡ a = omega arith in
    record {
      low = omega arith;
      high = omega arith;
      text = rw (le-leb (0 * 26 + (a - 64)) 26 small) (ap (λ x. x ∷ []) letter);
    }

two_letters : (a b : ℕ) → is_ascii_uppercase a ≡ true → is_ascii_uppercase b ≡ true → IsColumn (column_of (a ∷ b ∷ [])) (a ∷ b ∷ [])
two_letters a b upper_a upper_b =
    let range_a : (65 ≤ a) × (a ≤ 90) = upper_range a upper_a in
    let range_b : (65 ≤ b) × (b ≤ 90) = upper_range b upper_b in
    let large : 26 < (0 * 26 + (a - 64)) * 26 + (b - 64) = omega arith in
    let first : ((0 * 26 + (a - 64)) * 26 + (b - 64) - 1) / 26 + 64 ≡ a = omega arith in
    let second : ((0 * 26 + (a - 64)) * 26 + (b - 64) - 1) % 26 + 65 ≡ b = omega arith in
    record {
      low = omega arith;
      high = omega arith;
      text = rw (lt-leb ((0 * 26 + (a - 64)) * 26 + (b - 64)) 26 large) (λ i. first i ∷ second i ∷ []);
    }

pub letters-column : (text : List ℕ) → 0 < letter_count text → IsColumn (column_of (take (letter_count text) text)) (take (letter_count text) text)
letters-column [] some = absurd (omega arith)
letters-column (a ∷ []) some =
    elim (is_ascii_uppercase a) as (λ u. is_ascii_uppercase a ≡ u → 0 < cond u 1 0 → IsColumn (column_of (take (cond u 1 0) (a ∷ []))) (take (cond u 1 0) (a ∷ [])))
    [ true ↦ λ e _. one_letter a e | false ↦ λ _ s. absurd (omega (arith, s)) ] refl some
letters-column (a ∷ b ∷ rest) some =
    elim (is_ascii_uppercase a) as (λ u. is_ascii_uppercase a ≡ u → 0 < cond u (cond (is_ascii_uppercase b) 2 1) 0
    → IsColumn (column_of (take (cond u (cond (is_ascii_uppercase b) 2 1) 0) (a ∷ b ∷ rest))) (take (cond u (cond (is_ascii_uppercase b) 2 1) 0) (a ∷ b ∷ rest))) [
      | true ↦ λ e _. elim (is_ascii_uppercase b) as (λ v. is_ascii_uppercase b ≡ v → IsColumn (column_of (take (cond v 2 1) (a ∷ b ∷ rest))) (take (cond v 2 1) (a ∷ b ∷ rest)))
          [ true ↦ λ f. two_letters a b e f | false ↦ λ _. one_letter a e ] refl
      | false ↦ λ _ s. absurd (omega (arith, s))
    ] refl some

-- the row that digits spell, and the digits
pub record IsRow (row : ℕ) (digits : List ℕ) : Type 0 where
  pub low : 1 ≤ row
  pub high : row ≤ 16384
  pub text : decimal row ≡ digits

-- what the test of `row_of` says
record IsRowText (digits : List ℕ) : Type 0 where
  nonempty : 0 < length digits
  leading : get_or digits 0 0 ≢ 48
  all_digits : all_ascii_digits digits ≡ true
  small : digits_value 10 digits ≤ 16384

row_text : (digits : List ℕ) → spells_row digits ≡ true → IsRowText digits
row_text digits h =
    let outer = and_parts (nat_lt 0 (length digits) && not (slice_index digits 0 == 48) && all_ascii_digits digits) (nat_le (digits_value 10 digits) 16384) h in
    let middle = and_parts (nat_lt 0 (length digits) && not (slice_index digits 0 == 48)) (all_ascii_digits digits) outer.0 in
    let inner = and_parts (nat_lt 0 (length digits)) (not (slice_index digits 0 == 48)) middle.0 in
    record {
      nonempty = ltb-true _ _ inner.0;
      leading = λ e. both_ways _ (not-true _ inner.1) (eq-eqb _ _ e);
      all_digits = middle.1;
      small = leb-true _ _ outer.1;
    }

IsRow-value : (digits : List ℕ) → IsRowText digits → IsRow (digits_value 10 digits) digits
IsRow-value digits t =
    let text : decimal (digits_value 10 digits) ≡ digits = decimal-digits_value own digits t.all_digits t.nonempty (λ e. absurd (t.leading e)) (omega (arith, t.small)) in
    record {
      low = ⊎_elim
          (λ zero. absurd (t.leading (ap (λ ds. get_or ds 0 0) (sym text ∙ ap decimal zero ∙ decimal_digit 0 (omega arith)))))
          (λ some. omega (arith, some)) (cases_eq (digits_value 10 digits) 0);
      high = t.small;
      text = text;
    }

pub row_of-IsRow : (digits : List ℕ) (row : ℕ) → row_of digits ≡ Some row → IsRow row digits
row_of-IsRow digits row h =
    elim (spells_row digits) as (λ b. spells_row digits ≡ b → cond b (Some (digits_value 10 digits)) None ≡ Some row → IsRow row digits) [
      | true ↦ λ e found. let same : digits_value 10 digits ≡ row = cc in subst (λ (r : ℕ). IsRow r digits) same (IsRow-value digits (row_text digits e))
      | false ↦ λ _ found. absurd (cc)
    ] refl h

-- ---- a spelling is read as its place

is_upper : (c : ℕ) → 65 ≤ c → c ≤ 90 → is_ascii_uppercase c ≡ true
is_upper c low high = and_from (nat_le 65 c) (nat_le c 90) (le-leb 65 c low) (le-leb c 90 high)

-- a column's spelling is one letter, or two, of that value
column_text-by : (P : List ℕ → Type 0) (column : ℕ) → 1 ≤ column → column ≤ 702
    → ((a : ℕ) → is_ascii_uppercase a ≡ true → column_of (a ∷ []) ≡ column → P (a ∷ []))
    → ((a b : ℕ) → is_ascii_uppercase a ≡ true → is_ascii_uppercase b ≡ true → column_of (a ∷ b ∷ []) ≡ column → P (a ∷ b ∷ []))
    → P (column_text column)
column_text-by P column low high one two =
    cond_both (nat_le column 26) ((column + 64) ∷ []) (((column - 1) / 26 + 64) ∷ ((column - 1) % 26 + 65) ∷ []) P
    (λ e. let small : column ≤ 26 = leb-true column 26 e in
    one (column + 64) (is_upper (column + 64) (omega arith) (omega arith)) (omega arith))
    (λ e. let large : 26 < column = leb-false column 26 e in
    two ((column - 1) / 26 + 64) ((column - 1) % 26 + 65) (is_upper ((column - 1) / 26 + 64) (omega arith) (omega arith)) (is_upper ((column - 1) % 26 + 65) (omega arith) (omega arith)) (omega arith))

upper_not : (c d : ℕ) → is_ascii_uppercase c ≡ true → d < 65 → (c == d) ≡ false
upper_not c d upper low =
    let range : (65 ≤ c) × (c ≤ 90) = upper_range c upper in
    ne_eqb c d (λ e. omega arith)

-- the spelling of a column does not begin with `$`
column_text-first : (column : ℕ) → 1 ≤ column → column ≤ 702 → (rest : List ℕ) → is_marked (column_text column ++ rest) ≡ false
column_text-first column low high rest =
    column_text-by (λ letters. is_marked (letters ++ rest) ≡ false) column low high
    (λ a upper _. upper_not a 36 upper (omega arith)) (λ a b upper _ _. upper_not a 36 upper (omega arith))

pub is_marked-mark : (marked : Bool) (rest : List ℕ) → is_marked rest ≡ false → is_marked (mark_text marked ++ rest) ≡ marked
is_marked-mark true rest h = refl
is_marked-mark false rest h = h

pub after_mark-mark : (marked : Bool) (rest : List ℕ) → is_marked rest ≡ false → after_mark (mark_text marked ++ rest) ≡ rest
after_mark-mark true rest h = refl
after_mark-mark false rest h = rw h

-- a letter does not begin the text
abbrev NoLetterFirst : List ℕ → Type 0
NoLetterFirst rest = is_ascii_uppercase (slice_index rest 0) ≡ false

-- of a column's letters and what follows, the letters are found
letter_count-column : (column : ℕ) → 1 ≤ column → column ≤ 702 → (rest : List ℕ) → NoLetterFirst rest → letter_count (column_text column ++ rest) ≡ length (column_text column)
letter_count-column column low high rest stop =
    column_text-by (λ letters. letter_count (letters ++ rest) ≡ length letters) column low high
    (λ a upper _. rw (upper, stop)) (λ a b upper_a upper_b _. rw (upper_a, upper_b))

column_text-nonempty : (column : ℕ) → 1 ≤ column → column ≤ 702 → 0 < length (column_text column)
column_text-nonempty column low high =
    column_text-by (λ letters. 0 < length letters) column low high (λ a _ _. omega arith) (λ a b _ _ _. omega arith)

column_of-column_text : (column : ℕ) → 1 ≤ column → column ≤ 702 → column_of (column_text column) ≡ column
column_of-column_text column low high =
    column_text-by (λ letters. column_of letters ≡ column) column low high (λ a _ e. e) (λ a b _ _ e. e)

-- what decimal writes of a row
decimal-digits : (row : ℕ) → row ≤ 16384 → all_ascii_digits (decimal row) ≡ true
decimal-digits row high = digits_decimal own row (omega arith)

decimal-value : (row : ℕ) → row ≤ 16384 → digits_value 10 (decimal row) ≡ row
decimal-value row high = digits_value-decimal own row (omega arith)

decimal-first : (row : ℕ) → 1 ≤ row → row ≤ 16384 → 48 < get_or (decimal row) 0 0
decimal-first row low high = first_decimal row (omega arith) (omega arith)

decimal-spells_row : (row : ℕ) → 1 ≤ row → row ≤ 16384 → spells_row (decimal row) ≡ true
decimal-spells_row row low high =
    let digits : List ℕ = decimal row in
    let value : digits_value 10 (decimal row) ≤ 16384 = omega (arith, decimal-value row high) in
    let first : 48 < get_or (decimal row) 0 0 = decimal-first row low high in
    let nonempty : 0 < length (decimal row) = decimal_nonempty row (omega arith) in
    and_from (nat_lt 0 (length (decimal row)) && not (slice_index (decimal row) 0 == 48) && all_ascii_digits (decimal row)) _
    (and_from (nat_lt 0 (length (decimal row)) && not (slice_index (decimal row) 0 == 48)) _
    (and_from (nat_lt 0 (length (decimal row))) _ (lt-ltb _ _ nonempty) (not_from_false _ (ne_eqb _ _ (λ e. omega arith))))
    (decimal-digits row high))
    (le-leb _ _ value)

row_of-decimal : (row : ℕ) → 1 ≤ row → row ≤ 16384 → row_of (decimal row) ≡ Some row
row_of-decimal row low high = rw (decimal-spells_row row low high) (ap (λ n. Some n) (decimal-value row high))

-- a digit is no letter and no mark
digit_range : (c : ℕ) → is_ascii_digit c ≡ true → (48 ≤ c) × (c ≤ 57)
digit_range c h =
    let parts = and_parts (nat_le 48 c) (nat_le c 57) h in
    (leb-true 48 c parts.0, leb-true c 57 parts.1)

digit_not_upper : (c : ℕ) → is_ascii_digit c ≡ true → is_ascii_uppercase c ≡ false
digit_not_upper c digit =
    let range : (48 ≤ c) × (c ≤ 57) = digit_range c digit in
    and_left (nat_le 65 c) (nat_le c 90) (lt-leb 65 c (omega arith))

digit_not_mark : (c : ℕ) → is_ascii_digit c ≡ true → (c == 36) ≡ false
digit_not_mark c digit =
    let range : (48 ≤ c) × (c ≤ 57) = digit_range c digit in
    ne_eqb c 36 (λ e. omega arith)

-- digits begin with no letter and no mark
digits-first : (digits : List ℕ) → all_ascii_digits digits ≡ true → NoLetterFirst digits × (is_marked digits ≡ false)
digits-first [] h = (refl, refl)
digits-first (d ∷ ds) h =
    let parts = and_parts (is_ascii_digit d) (all_ascii_digits ds) h in
    (digit_not_upper d parts.0, digit_not_mark d parts.0)

mark-no_letter : (marked : Bool) (digits : List ℕ) → all_ascii_digits digits ≡ true → NoLetterFirst (mark_text marked ++ digits)
mark-no_letter true digits h = refl
mark-no_letter false digits h = (digits-first digits h).0

-- a place, of its column, its row and its marks
abbrev place_of : ℕ → ℕ → Bool → Bool → Place
place_of column row fixed_column fixed_row = record { column = column; row = row; fixed_column = fixed_column; fixed_row = fixed_row }

pub place_after-found : (fixed : Bool) (text rest : List ℕ) (column row : ℕ) → 0 < letter_count text → column_of (take (letter_count text) text) ≡ column → drop (letter_count text) text ≡ rest
    → row_of (after_mark rest) ≡ Some row → place_after fixed text ≡ Some (place_of column row fixed (is_marked rest))
place_after-found fixed text rest column row some at_column at_rest at_row =
    let found : (letter_count text == 0) ≡ false = ne_eqb _ _ (λ e. omega arith) in
    rw (found, at_column, at_rest, at_row)

pub place_after-no_letter : (fixed : Bool) (text : List ℕ) → letter_count text ≡ 0 → place_after fixed text ≡ None
place_after-no_letter fixed text none = rw none

pub place_after-no_row : (fixed : Bool) (text rest : List ℕ) → drop (letter_count text) text ≡ rest → row_of (after_mark rest) ≡ None → place_after fixed text ≡ None
place_after-no_row fixed text rest at_rest none =
    cond_both (letter_count text == 0) None (option_map (λ row. place_of (column_of (take (letter_count text) text)) row fixed (is_marked (drop (letter_count text) text))) (row_of (after_mark (drop (letter_count text) text)))) (λ o. o ≡ None)
    (λ _. refl) (λ _. rw (at_rest, none))

-- what stands behind the column's mark
abbrev behind_mark : Place → List ℕ
behind_mark p = column_text p.column ++ (mark_text p.fixed_row ++ decimal p.row)

spelled-after_mark : (p : Place) → IsPlace p → place_after p.fixed_column (behind_mark p) ≡ Some p
spelled-after_mark p place =
    let digits = decimal-digits p.row place.row_high in
    let count : letter_count (behind_mark p) ≡ length (column_text p.column) =
    letter_count-column p.column place.column_low place.column_high _ (mark-no_letter p.fixed_row (decimal p.row) digits) in
    let front : take (letter_count (behind_mark p)) (behind_mark p) ≡ column_text p.column =
    take_at (column_text p.column) _ _ (sym count) in
    let back : drop (letter_count (behind_mark p)) (behind_mark p) ≡ mark_text p.fixed_row ++ decimal p.row =
    drop_at (column_text p.column) _ _ (sym count) in
    let unmarked_digits : is_marked (decimal p.row) ≡ false = (digits-first (decimal p.row) digits).1 in
    let after : after_mark (mark_text p.fixed_row ++ decimal p.row) ≡ decimal p.row = after_mark-mark p.fixed_row (decimal p.row) unmarked_digits in
    place_after-found p.fixed_column (behind_mark p) (mark_text p.fixed_row ++ decimal p.row) p.column p.row
    (omega (arith, count, column_text-nonempty p.column place.column_low place.column_high))
    (ap column_of front ∙ column_of-column_text p.column place.column_low place.column_high)
    back
    (ap row_of after ∙ row_of-decimal p.row place.row_low place.row_high)
    ∙ ap (λ b. Some (place_of p.column p.row p.fixed_column b)) (is_marked-mark p.fixed_row (decimal p.row) unmarked_digits)

pub read_place-spelled : (p : Place) → IsPlace p → read_place (address_text p) ≡ Some p
unfolding read_place address_text
read_place-spelled p place =
    let first : is_marked (behind_mark p) ≡ false = column_text-first p.column place.column_low place.column_high _ in
    (λ i. place_after (is_marked-mark p.fixed_column (behind_mark p) first i) (after_mark-mark p.fixed_column (behind_mark p) first i)) ∙ spelled-after_mark p place

-- ---- what is read is the spelling

-- the spelling of what was read part by part
spelled-parts : (text rest : List ℕ) (column row : ℕ) → IsColumn column (take (letter_count (after_mark text)) (after_mark text)) → drop (letter_count (after_mark text)) (after_mark text) ≡ rest
    → IsRow row (after_mark rest) → address_text (place_of column row (is_marked text) (is_marked rest)) ≡ text
unfolding address_text
spelled-parts text rest column row at_column at_rest at_row =
    let n : ℕ = letter_count (after_mark text) in
    ap (λ ds. mark_text (is_marked text) ++ (column_text column ++ (mark_text (is_marked rest) ++ ds))) at_row.text
    ∙ ap (λ r. mark_text (is_marked text) ++ (column_text column ++ r)) (mark-after rest)
    ∙ (λ i. mark_text (is_marked text) ++ (at_column.text i ++ sym at_rest i))
    ∙ ap (λ r. mark_text (is_marked text) ++ r) (take-append-drop n (after_mark text))
    ∙ mark-after text

Spells-parts : (text rest : List ℕ) (column row : ℕ) → IsColumn column (take (letter_count (after_mark text)) (after_mark text)) → drop (letter_count (after_mark text)) (after_mark text) ≡ rest
    → IsRow row (after_mark rest) → Spells text (place_of column row (is_marked text) (is_marked rest))
Spells-parts text rest column row at_column at_rest at_row = record {
  place = record { column_low = at_column.low; column_high = at_column.high; row_low = at_row.low; row_high = at_row.high };
  spelling = spelled-parts text rest column row at_column at_rest at_row;
}

is_place-IsPlace : (cell : Place) → is_place cell ≡ true → IsPlace cell
is_place-IsPlace cell h =
    let outer = and_parts (nat_le 1 cell.column && nat_le cell.column 702 && nat_le 1 cell.row) (nat_le cell.row 16384) h in
    let middle = and_parts (nat_le 1 cell.column && nat_le cell.column 702) (nat_le 1 cell.row) outer.0 in
    let inner = and_parts (nat_le 1 cell.column) (nat_le cell.column 702) middle.0 in
    record { column_low = leb-true _ _ inner.0; column_high = leb-true _ _ inner.1; row_low = leb-true _ _ middle.1; row_high = leb-true _ _ outer.1 }

is_place-from : (cell : Place) → IsPlace cell → is_place cell ≡ true
is_place-from cell place =
    and_from (nat_le 1 cell.column && nat_le cell.column 702 && nat_le 1 cell.row) _
    (and_from (nat_le 1 cell.column && nat_le cell.column 702) _
    (and_from (nat_le 1 cell.column) _ (le-leb _ _ place.column_low) (le-leb _ _ place.column_high)) (le-leb _ _ place.row_low))
    (le-leb _ _ place.row_high)

Spells-test : (text : List ℕ) (p : Place) → (is_place p && bytes_eq (address_text p) text) ≡ true → Spells text p
Spells-test text p h =
    let parts = and_parts (is_place p) (bytes_eq (address_text p) text) h in
    record { place = is_place-IsPlace p parts.0; spelling = (bytes_eq-Decides (address_text p) text).0 parts.1 }

-- the test of `address_of`, opened
address_of-Spells : (text : List ℕ) (p : Place) → address_of text ≡ Some p → Spells text p
unfolding address_of
address_of-Spells text p h =
    elim (is_place (named_place text) && bytes_eq (address_text (named_place text)) text) as (λ b. (is_place (named_place text) && bytes_eq (address_text (named_place text)) text) ≡ b → cond b (Some (named_place text)) None ≡ Some p → Spells text p) [
      | true ↦ λ e found. let same : named_place text ≡ p = cc in subst (λ (q : Place). Spells text q) same (Spells-test text (named_place text) e)
      | false ↦ λ _ found. absurd (cc)
    ] refl h

-- ---- the letters, digits and marks of a spelling name its place

no_upper : (ds : List ℕ) → all_ascii_digits ds ≡ true → filter is_ascii_uppercase ds ≡ []
no_upper [] h = refl
no_upper (d ∷ ds) h =
    let parts = and_parts (is_ascii_digit d) (all_ascii_digits ds) h in
    rw (digit_not_upper d parts.0) (no_upper ds parts.1)

only_digits : (ds : List ℕ) → all_ascii_digits ds ≡ true → filter is_ascii_digit ds ≡ ds
only_digits [] h = refl
only_digits (d ∷ ds) h =
    let parts = and_parts (is_ascii_digit d) (all_ascii_digits ds) h in
    rw parts.0 (ap (λ xs. d ∷ xs) (only_digits ds parts.1))

no_mark : (ds : List ℕ) → all_ascii_digits ds ≡ true → list_any (λ c. c == 36) ds ≡ false
no_mark [] h = refl
no_mark (d ∷ ds) h =
    let parts = and_parts (is_ascii_digit d) (all_ascii_digits ds) h in
    rw (digit_not_mark d parts.0) (no_mark ds parts.1)

upper_not_digit : (c : ℕ) → is_ascii_uppercase c ≡ true → is_ascii_digit c ≡ false
upper_not_digit c upper =
    let range : (65 ≤ c) × (c ≤ 90) = upper_range c upper in
    and_right (nat_le 48 c) (nat_le c 57) (lt-leb c 57 (omega arith))

-- the letters of the whole spelling
upper-spelled : (p : Place) → IsPlace p → filter is_ascii_uppercase (address_text p) ≡ column_text p.column
unfolding address_text
upper-spelled p place =
    filter-append is_ascii_uppercase (mark_text p.fixed_column) (behind_mark p)
    ∙ (λ i. marks p.fixed_column i ++ filter-append is_ascii_uppercase (column_text p.column) (mark_text p.fixed_row ++ decimal p.row) i)
    ∙ (λ i. column i ++ filter-append is_ascii_uppercase (mark_text p.fixed_row) (decimal p.row) i)
    ∙ (λ i. column_text p.column ++ (marks p.fixed_row i ++ no_upper (decimal p.row) (decimal-digits p.row place.row_high) i))
    ∙ append-nil (column_text p.column)
  where
    marks : (b : Bool) → filter is_ascii_uppercase (mark_text b) ≡ []
    marks true = refl
    marks false = refl

    column : filter is_ascii_uppercase (column_text p.column) ≡ column_text p.column
    column = column_text-by (λ letters. filter is_ascii_uppercase letters ≡ letters) p.column place.column_low place.column_high (λ a u _. rw u) (λ a b u v _. rw (u, v))

-- its digits
digits-spelled : (p : Place) → IsPlace p → filter is_ascii_digit (address_text p) ≡ decimal p.row
unfolding address_text
digits-spelled p place =
    filter-append is_ascii_digit (mark_text p.fixed_column) (behind_mark p)
    ∙ (λ i. marks p.fixed_column i ++ filter-append is_ascii_digit (column_text p.column) (mark_text p.fixed_row ++ decimal p.row) i)
    ∙ (λ i. column i ++ filter-append is_ascii_digit (mark_text p.fixed_row) (decimal p.row) i)
    ∙ (λ i. marks p.fixed_row i ++ only_digits (decimal p.row) (decimal-digits p.row place.row_high) i)
  where
    marks : (b : Bool) → filter is_ascii_digit (mark_text b) ≡ []
    marks true = refl
    marks false = refl

    column : filter is_ascii_digit (column_text p.column) ≡ []
    column = column_text-by (λ letters. filter is_ascii_digit letters ≡ []) p.column place.column_low place.column_high (λ a u _. rw (upper_not_digit a u)) (λ a b u v _. rw (upper_not_digit a u, upper_not_digit b v))

-- the mark behind the first byte
row_mark : (marked : Bool) (row : ℕ) → row ≤ 16384 → list_any (λ c. c == 36) (mark_text marked ++ decimal row) ≡ marked
row_mark true row high = refl
row_mark false row high = no_mark (decimal row) (decimal-digits row high)

row_mark-spelled : (p : Place) → IsPlace p → list_any (λ c. c == 36) (drop 1 (address_text p)) ≡ p.fixed_row
unfolding address_text
row_mark-spelled p place = at_mark p.fixed_column
  where
    rest : List ℕ
    rest = mark_text p.fixed_row ++ decimal p.row

    inner : list_any (λ c. c == 36) (drop 1 (column_text p.column ++ (mark_text p.fixed_row ++ decimal p.row))) ≡ p.fixed_row
    inner = column_text-by (λ letters. list_any (λ c. c == 36) (drop 1 (letters ++ (mark_text p.fixed_row ++ decimal p.row))) ≡ p.fixed_row) p.column place.column_low place.column_high
        (λ a u _. row_mark p.fixed_row p.row place.row_high)
        (λ a b u v _. rw (upper_not b 36 v (omega arith)) (row_mark p.fixed_row p.row place.row_high))

    outer : list_any (λ c. c == 36) (column_text p.column ++ (mark_text p.fixed_row ++ decimal p.row)) ≡ p.fixed_row
    outer = column_text-by (λ letters. list_any (λ c. c == 36) (letters ++ (mark_text p.fixed_row ++ decimal p.row)) ≡ p.fixed_row) p.column place.column_low place.column_high
        (λ a u _. rw (upper_not a 36 u (omega arith)) (row_mark p.fixed_row p.row place.row_high))
        (λ a b u v _. rw (upper_not a 36 u (omega arith), upper_not b 36 v (omega arith)) (row_mark p.fixed_row p.row place.row_high))

    at_mark : (b : Bool) → list_any (λ c. c == 36) (drop 1 (mark_text b ++ (column_text p.column ++ (mark_text p.fixed_row ++ decimal p.row)))) ≡ p.fixed_row
    at_mark true = outer
    at_mark false = inner

column_mark-spelled : (p : Place) → IsPlace p → is_marked (address_text p) ≡ p.fixed_column
unfolding address_text
column_mark-spelled p place =
    is_marked-mark p.fixed_column (behind_mark p) (column_text-first p.column place.column_low place.column_high (mark_text p.fixed_row ++ decimal p.row))

named_place-spelled : (p : Place) → IsPlace p → named_place (address_text p) ≡ p
named_place-spelled p place = λ i. record {
  column = (ap column_of (upper-spelled p place) ∙ column_of-column_text p.column place.column_low place.column_high) i;
  row = (ap (digits_value 10) (digits-spelled p place) ∙ decimal-value p.row place.row_high) i;
  fixed_column = column_mark-spelled p place i;
  fixed_row = row_mark-spelled p place i;
}

-- a written address reads as itself
pub address_of-address_text : (p : Place) → IsPlace p → address_of (address_text p) ≡ Some p
unfolding address_of
address_of-address_text p place =
    let named : named_place (address_text p) ≡ p = named_place-spelled p place in
    let passes : (is_place p && bytes_eq (address_text p) (address_text p)) ≡ true =
    and_from (is_place p) _ (is_place-from p place) ((bytes_eq-Decides (address_text p) (address_text p)).1 refl) in
    (λ i. cond (is_place (named i) && bytes_eq (address_text (named i)) (address_text p)) (Some (named i)) None)
    ∙ cond-true _ _ _ passes

-- a text is read as the place of which it is the spelling, and as no other
pub address_of-iff : (text : List ℕ) (p : Place) → (address_of text ≡ Some p) ↔ Spells text p
address_of-iff text p =
    (address_of-Spells text p, λ s. ap address_of (sym s.spelling) ∙ address_of-address_text p s.place)

-- ---- what the reader finds part by part

no_address : (text : List ℕ) → read_place text ≡ None → address_of text ≡ None
no_address text none =
    elim (address_of text) as (λ o. address_of text ≡ o → o ≡ None) [
      | None ↦ λ _. refl
      | Some p ↦ λ e.
          let s : Spells text p = address_of-Spells text p e in
          let again : read_place text ≡ Some p = ap read_place (sym s.spelling) ∙ read_place-spelled p s.place in
          absurd (cc)
    ] refl

pub no_column : (text place : List ℕ) → place ≡ after_mark text → letter_count place ≡ 0 → address_of text ≡ None
unfolding read_place
no_column text place at_place none =
    no_address text (ap (place_after (is_marked text)) (sym at_place) ∙ place_after-no_letter (is_marked text) place none)

pub no_row : (text place rest last : List ℕ) → place ≡ after_mark text → rest ≡ drop (letter_count place) place → last ≡ after_mark rest → row_of last ≡ None → address_of text ≡ None
unfolding read_place
no_row text place rest last at_place at_rest at_last none =
    no_address text (ap (place_after (is_marked text)) (sym at_place)
    ∙ place_after-no_row (is_marked text) place rest (sym at_rest) (ap row_of (sym at_last) ∙ none))

pub found_parts : (text place rest last : List ℕ) (column row : ℕ) → place ≡ after_mark text → (letter_count place ≡ 0 → ⊥) → column ≡ column_of (take (letter_count place) place)
    → rest ≡ drop (letter_count place) place → last ≡ after_mark rest → row_of last ≡ Some row → Spells text (place_of column row (is_marked text) (is_marked rest))
found_parts text place rest last column row at_place some at_column at_rest at_last at_row =
    let letters : IsColumn (column_of (take (letter_count place) place)) (take (letter_count place) place) = letters-column place (omega (arith, some)) in
    let letters_here : IsColumn column (take (letter_count place) place) = subst (λ (n : ℕ). IsColumn n (take (letter_count place) place)) (sym at_column) letters in
    let letters_text : IsColumn column (take (letter_count (after_mark text)) (after_mark text)) = subst (λ (t : List ℕ). IsColumn column (take (letter_count t) t)) at_place letters_here in
    let digits : IsRow row (after_mark rest) = subst (λ (t : List ℕ). IsRow row t) at_last (row_of-IsRow last row at_row) in
    Spells-parts text rest column row letters_text (ap (λ t. drop (letter_count t) t) (sym at_place) ∙ sym at_rest) digits

-- ---- what the writer writes part by part

-- the bytes in front of the row
abbrev pub before_row : Place → List ℕ
before_row p = mark_text p.fixed_column ++ column_text p.column ++ mark_text p.fixed_row

pub before_row-written : (p : Place) (none one two three : List ℕ) → none ≡ [] → one ≡ none ++ mark_text p.fixed_column → two ≡ one ++ column_text p.column → three ≡ two ++ mark_text p.fixed_row → three ≡ before_row p
before_row-written p none one two three empty first second third =
    third ∙ ap (λ bytes. bytes ++ mark_text p.fixed_row) (second ∙ ap (λ bytes. bytes ++ column_text p.column) (first ∙ ap (λ bytes. bytes ++ mark_text p.fixed_column) empty))

pub written-parts : (p : Place) → before_row p ++ decimal p.row ≡ address_text p
unfolding address_text
written-parts p = simp append_assoc

length-mark_text : (marked : Bool) → length (mark_text marked) ≤ 1
length-mark_text true = omega arith
length-mark_text false = omega arith

pub length-parts : (p : Place) → IsPlace p → length (before_row p) + length (decimal p.row) ≤ 9
length-parts p place =
    let column : length (column_text p.column) ≤ 2 =
    column_text-by (λ letters. length letters ≤ 2) p.column place.column_low place.column_high (λ a _ _. omega arith) (λ a b _ _ _. omega arith) in
    let row : length (decimal p.row) ≤ 5 = length-decimal-le 5 p.row (omega arith) (omega arith) (omega arith) in
    omega (
      arith,
      length-mark_text p.fixed_column,
      length-mark_text p.fixed_row,
      length-append (mark_text p.fixed_column) (column_text p.column),
      length-append (mark_text p.fixed_column ++ column_text p.column) (mark_text p.fixed_row),
    )
