-- A row, digit by digit.
use Rattle.std.proofs.Common.{◌≡◌, ℕ, ◌+◌, ◌-◌, ◌*◌, ◌/◌, ◌%◌, ◌^◌, ◌<◌, ◌≤◌, List, true, false, not, ◌==◌, ◌&&◌, nat_lt, nat_le, length, get_or, slice_index, take, None, refl, sym, ap, ◌∙◌, arith}
use Rattle.std.specs.Char.{is_ascii_digit, digit_value}
use Rattle.std.specs.Fmt.{decimal}
use Rattle.std.specs.Str.{all_ascii_digits}
use Rattle.std.specs.Str.Parse.{digits_value}
use Rattle.std.specs.Int.{IsInRange}
use Rattle.std.proofs.lemmas.Bool.{and_parts, and_from, and_left, and_right, leb-true, lt-leb}
use Rattle.std.proofs.lemmas.Fmt.{decimal_step}
use Rattle.std.proofs.lemmas.Int.Digits.{digits_value_more}
use Rattle.std.proofs.lemmas.List.{take_more, length_push}
use Rattle.std.proofs.lemmas.List.Recursion.{and_fails_at, and_push}
use Rattle.std.proofs.lemmas.Str.{digit_value_digit}
use Rattle.std.proofs.lemmas.Str.Parse.{digits_value-take-le}
use Rattle.fc_base.specs.AddressParts.{spells_row, row_of}

no_row : (text : List ℕ) → spells_row text ≡ false → row_of text ≡ None
no_row text h = rw h

pub row_of-not_digit : (text : List ℕ) (i : ℕ) → i < length text → is_ascii_digit (get_or text i 0) ≡ false → row_of text ≡ None
row_of-not_digit text i within other =
    let none : all_ascii_digits text ≡ false = and_fails_at all_ascii_digits is_ascii_digit refl (λ _ _. refl) text i 0 within other in
    no_row text (and_left (nat_lt 0 (length text) && not (slice_index text 0 == 48) && all_ascii_digits text) _ (and_right (nat_lt 0 (length text) && not (slice_index text 0 == 48)) _ none))

pub row_of-large : (text : List ℕ) (i : ℕ) → 16384 < digits_value 10 (take i text) → row_of text ≡ None
row_of-large text i large =
    let more : 16384 < digits_value 10 text = omega (arith, large, digits_value-take-le 10 text i (omega arith)) in
    no_row text (and_right (nat_lt 0 (length text) && not (slice_index text 0 == 48) && all_ascii_digits text) _ (lt-leb _ _ more))

digit_range : (c : ℕ) → is_ascii_digit c ≡ true → IsInRange 48 57 c
digit_range c h =
    let parts = and_parts (nat_le 48 c) (nat_le c 57) h in
    (leb-true 48 c parts.0, leb-true c 57 parts.1)

pub digits_value-more : (text : List ℕ) (i row : ℕ) → i < length text → row ≡ digits_value 10 (take i text) → is_ascii_digit (get_or text i 0) ≡ true
    → row * 10 + (get_or text i 0 - 48) ≡ digits_value 10 (take (i + 1) text)
digits_value-more text i row within so_far digit =
    let value : digit_value (get_or text i 0) ≡ get_or text i 0 - 48 = omega (arith, digit_value_digit (get_or text i 0) (digit_range _ digit)) in
    (λ j. so_far j * 10 + sym value j) ∙ sym (digits_value_more 10 text i within)

pub all_digits-more : (text : List ℕ) (i : ℕ) → i < length text → all_ascii_digits (take i text) ≡ true → is_ascii_digit (get_or text i 0) ≡ true → all_ascii_digits (take (i + 1) text) ≡ true
all_digits-more text i within so_far digit =
    ap all_ascii_digits (take_more text i 0 within) ∙ and_push all_ascii_digits is_ascii_digit refl (λ _ _. refl) (take i text) (get_or text i 0)
    ∙ and_from (all_ascii_digits (take i text)) _ so_far digit

pub length-decimal_step : (n : ℕ) → 10 ≤ n → n < 2 ^ 64 → length (decimal n) ≡ length (decimal (n / 10)) + 1
length-decimal_step n large small = ap length (decimal_step n large small) ∙ length_push (decimal (n / 10)) (48 + n % 10)
