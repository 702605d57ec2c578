-- What holds of a decimal's parts.
use Rattle.std.proofs.Common.{◌≡◌, ℕ, suc, ◌+◌, ◌-◌, ◌*◌, ◌^◌, ◌<◌, ◌≤◌, Bool, true, false, cond, not, ◌&&◌, ◌||◌, nat_le, eqb, List, [], ◌∷◌, length, refl, ap, sym, ◌∙◌, ◌⊎◌, inl, inr, Ok, Err, arith}
use Rattle.std.specs.Char.{is_ascii_digit}
use Rattle.std.specs.List.{list_all}
use Rattle.std.proofs.lemmas.Bool.Decides.{nat_tests}
use Rattle.quantities.specs.declared.mark.Mark.{Mark}
use Rattle.quantities.specs.declared.mark.Mark.TheVariants.{Point, Exponent}
use Rattle.quantities.specs.declared.decimal_fault.DecimalFault.TheVariants.{NotDecimal, Range}
use Rattle.quantities.specs.Amounts.{greatest, signed}
use Rattle.quantities.specs.Arithmetic.{nearest}
use Rattle.quantities.specs.Digits.{begins_with_minus, number_after}
use Rattle.quantities.specs.Scaling.{kept}
use Rattle.quantities.specs.Decimals.{is_mark, has, before, behind, without_sign, are_digits, is_mantissa, mantissa, exponent, is_decimal, size_of, has_exponent, decimal_size, decimal_value}
use Rattle.quantities.proofs.RoundedDigits.{digit_count, kept-nearest, number_after-below, places_right, places_left, places_past}

pub both : (a b : Bool) → (a && b) ≡ true → (a ≡ true) × (b ≡ true)
both true b h = (refl, h)
both false b h = absurd (cc)

-- what stands behind a mark that is not there
pub behind-none : (mark : Mark) (text : List ℕ) → has mark text ≡ false → behind mark text ≡ []
behind-none mark [] h = refl
behind-none mark (c ∷ cs) h =
    elim (is_mark mark c) as (λ b. b || has mark cs ≡ false → cond b cs (behind mark cs) ≡ [])
    [ true ↦ λ e. absurd (cc) | false ↦ λ e. behind-none mark cs e ] h

-- a point is no digit
point_no_digit : (c : ℕ) → is_mark Point c ≡ true → is_ascii_digit c ≡ false
point_no_digit c h = grind (arith, nat_tests)

-- the digits of a text stand before and behind the point
count_parts : (m : List ℕ) → digit_count m ≡ digit_count (before Point m) + digit_count (behind Point m)
count_parts [] = omega arith
count_parts (c ∷ cs) =
    let more : digit_count (c ∷ cs) ≡ digit_count (c ∷ before Point cs) + digit_count (behind Point cs) =
    elim (is_ascii_digit c) as (λ b. cond b (suc (digit_count cs)) (digit_count cs)
    ≡ cond b (suc (digit_count (before Point cs))) (digit_count (before Point cs)) + digit_count (behind Point cs))
    [ true ↦ omega (arith, count_parts cs) | false ↦ count_parts cs ] in
    elim (eqb c 46) as (λ b. eqb c 46 ≡ b → digit_count (c ∷ cs) ≡ digit_count (cond b [] (c ∷ before Point cs)) + digit_count (cond b cs (behind Point cs)))
    [ true ↦ λ e. ap (λ b. cond b (suc (digit_count cs)) (digit_count cs)) (point_no_digit c e) ∙ omega arith | false ↦ λ e. more ] refl

all_count : (ds : List ℕ) → list_all is_ascii_digit ds ≡ true → digit_count ds ≡ length ds
all_count [] h = refl
all_count (c ∷ cs) h =
    let parts = both (is_ascii_digit c) (list_all is_ascii_digit cs) h in
    ap (λ b. cond b (suc (digit_count cs)) (digit_count cs)) parts.0 ∙ ap suc (all_count cs parts.1)

-- digits are as many as the text is long, and no more than may be
digits_parts : (most : ℕ) (text : List ℕ) → are_digits most text ≡ true → (length text ≤ most) × (digit_count text ≡ length text)
digits_parts most text h =
    let parts = both (nat_le 1 (length text) && nat_le (length text) most) (list_all is_ascii_digit text) h in
    let bounds = both (nat_le 1 (length text)) (nat_le (length text) most) parts.0 in
    let within : nat_le (length text) most ≡ true = bounds.1 in
    (grind (arith, nat_tests), all_count text parts.1)

-- what may stand behind a mark does, or the mark is not there
either : (there good : Bool) → (not there || good) ≡ true → (there ≡ false) ⊎ (good ≡ true)
either true good h = inr h
either false good h = inl refl

pub mantissa-whole : (m : List ℕ) → is_mantissa m ≡ true → length (before Point m) ≤ 40
mantissa-whole m h = (digits_parts 40 (before Point m) (both (are_digits 40 (before Point m)) (not (has Point m) || are_digits 40 (behind Point m)) h).0).0

pub mantissa-count : (m : List ℕ) → is_mantissa m ≡ true → digit_count m ≡ length (before Point m) + length (behind Point m)
mantissa-count m h =
    let parts = both (are_digits 40 (before Point m)) (not (has Point m) || are_digits 40 (behind Point m)) h in
    let whole = (digits_parts 40 (before Point m) parts.0).1 in
    let fraction : digit_count (behind Point m) ≡ length (behind Point m) =
    elim (either (has Point m) (are_digits 40 (behind Point m)) parts.1) [
      | inl none ↦ ap digit_count (behind-none Point m none) ∙ ap length (sym (behind-none Point m none))
      | inr good ↦ (digits_parts 40 (behind Point m) good).1
    ] in
    count_parts m ∙ ap (λ n. n + digit_count (behind Point m)) whole ∙ ap (λ n. length (before Point m) + n) fraction

unsigned_length : (e : List ℕ) → length e ≤ length (without_sign e) + 1
unsigned_length [] = omega arith
unsigned_length (c ∷ cs) =
    elim (eqb c 43 || eqb c 45) as (λ b. length (c ∷ cs) ≤ length (cond b cs (c ∷ cs)) + 1) [ true ↦ omega arith | false ↦ omega arith ]

-- the parts of a decimal
pub decimal-mantissa : (text : List ℕ) → is_decimal text ≡ true → is_mantissa (mantissa text) ≡ true
unfolding is_decimal
decimal-mantissa text h = (both (is_mantissa (mantissa text)) (not (has Exponent (without_sign text)) || are_digits 2 (without_sign (exponent text))) h).0

pub decimal-exponent : (text : List ℕ) → is_decimal text ≡ true → length (exponent text) ≤ 3
unfolding is_decimal
decimal-exponent text h =
    let good = (both (is_mantissa (mantissa text)) (not (has Exponent (without_sign text)) || are_digits 2 (without_sign (exponent text))) h).1 in
    elim (either (has Exponent (without_sign text)) (are_digits 2 (without_sign (exponent text))) good) [
      | inl none ↦ omega (arith, ap length (behind-none Exponent (without_sign text) none))
      | inr digits ↦ omega (arith, unsigned_length (exponent text), (digits_parts 2 (without_sign (exponent text)) digits).0)
    ]

-- the digits kept are the size, whichever way the point is moved
module _ (m e : List ℕ) (good : is_mantissa m ≡ true) where
  places_of : (places : ℕ) → kept places m 0 ≡ nearest (number_after 0 m * 10 ^ places) (10 ^ (length (before Point m) + length (behind Point m)))
  places_of places = kept-nearest places m 0 ∙ ap (λ k. nearest (number_after 0 m * 10 ^ places) (10 ^ k)) (mantissa-count m good)

  pub size-right : begins_with_minus e ≡ false → kept (length (before Point m) + 9 + number_after 0 e) m 0 ≡ size_of m e
  unfolding size_of
  size-right plus =
      places_of (length (before Point m) + 9 + number_after 0 e)
      ∙ places_right (number_after 0 m) (length (before Point m)) (length (behind Point m)) (number_after 0 e)
      ∙ ap (λ b. nearest (number_after 0 m * 10 ^ (9 + cond b 0 (number_after 0 e))) (10 ^ (length (behind Point m) + cond b (number_after 0 e) 0))) (sym plus)

  pub size-left : begins_with_minus e ≡ true → number_after 0 e ≤ length (before Point m) + 9
      → kept (length (before Point m) + 9 - number_after 0 e) m 0 ≡ size_of m e
  unfolding size_of
  size-left minus within =
      places_of (length (before Point m) + 9 - number_after 0 e)
      ∙ places_left (number_after 0 m) (length (before Point m)) (length (behind Point m)) (number_after 0 e) within
      ∙ ap (λ b. nearest (number_after 0 m * 10 ^ (9 + cond b 0 (number_after 0 e))) (10 ^ (length (behind Point m) + cond b (number_after 0 e) 0))) (sym minus)

  pub size-past : begins_with_minus e ≡ true → length (before Point m) + 9 < number_after 0 e → 0 ≡ size_of m e
  unfolding size_of
  size-past minus past =
      let below : number_after 0 m < 10 ^ (length (before Point m) + length (behind Point m)) =
      rw (← mantissa-count m good) (number_after-below m) in
      sym (places_past (number_after 0 m) (length (before Point m)) (length (behind Point m)) (number_after 0 e) past below)
      ∙ ap (λ b. nearest (number_after 0 m * 10 ^ (9 + cond b 0 (number_after 0 e))) (10 ^ (length (behind Point m) + cond b (number_after 0 e) 0))) (sym minus)

-- without an `e` the mantissa decides
pub decimal-plain : (text : List ℕ) → has_exponent text ≡ false → is_decimal text ≡ is_mantissa (mantissa text)
unfolding is_decimal
decimal-plain text none =
    let rest : Bool = are_digits 2 (without_sign (exponent text)) in
    ap (λ b. is_mantissa (mantissa text) && (not b || rest)) none
    ∙ elim (is_mantissa (mantissa text)) as (λ b. b && true ≡ b) [ true ↦ refl | false ↦ refl ]

-- with one, both parts
pub decimal-both : (text : List ℕ) → has_exponent text ≡ true
    → is_decimal text ≡ (is_mantissa (mantissa text) && are_digits 2 (without_sign (exponent text)))
unfolding is_decimal
decimal-both text some = ap (λ b. is_mantissa (mantissa text) && (not b || are_digits 2 (without_sign (exponent text)))) some

-- the three answers
pub value-not_decimal : (text : List ℕ) → is_decimal text ≡ false → decimal_value text ≡ Err NotDecimal
unfolding decimal_value
value-not_decimal text isnt = rw isnt refl

pub value-range : (text : List ℕ) → is_decimal text ≡ true → (decimal_size text ≤ greatest → ⊥) → decimal_value text ≡ Err Range
unfolding decimal_value
value-range text is above =
    let test : nat_le (decimal_size text) greatest ≡ false = grind (arith, nat_tests) in
    rw (is, test) refl

pub value-amount : (text : List ℕ) (negative : Bool) (size : ℕ) → is_decimal text ≡ true → decimal_size text ≤ greatest
    → size ≡ decimal_size text → negative ≡ begins_with_minus text → decimal_value text ≡ Ok (signed negative size)
unfolding decimal_value
value-amount text negative size is within same sign =
    let test : nat_le (decimal_size text) greatest ≡ true = grind (arith, nat_tests) in
    rw (is, test) (ap (λ b. Ok (signed b (decimal_size text))) (sym sign) ∙ ap (λ n. Ok (signed negative n)) (sym same))
