-- What is written is read back as the same amount.
use Rattle.std.proofs.Common.{◌≡◌, ℕ, ◌+◌, ◌-◌, ◌*◌, ◌/◌, ◌%◌, ◌^◌, ◌<◌, ◌≤◌, Bool, true, false, cond, not, ◌&&◌, ◌||◌, nat_le, eqb, ℤ, List, [], ◌∷◌, ◌++◌, length, Ok, refl, ap, sym, ◌∙◌, append-nil, append_assoc, unsigned_abs, inl, inr, arith}
use Rattle.std.specs.Char.{is_ascii_digit}
use Rattle.std.specs.Fmt.{decimal, sign_text}
use Rattle.std.specs.Int.{is_negative}
use Rattle.std.specs.List.{list_all}
use Rattle.std.proofs.Math.Nat.{div-add-mod, pow-succ'}
use Rattle.std.proofs.lemmas.Nat.{pow-add}
use Rattle.std.proofs.lemmas.Bool.{cases_eq}
use Rattle.std.proofs.lemmas.Bool.Decides.{nat_tests}
use Rattle.std.proofs.lemmas.Fmt.{decimal_by_steps_wide, decimal_nonempty, length-decimal-le}
use Rattle.quantities.specs.declared.mark.Mark.{Mark}
use Rattle.quantities.specs.declared.mark.Mark.TheVariants.{Point, Exponent}
use Rattle.quantities.specs.Amounts.{IsAmount, greatest, signed}
use Rattle.quantities.specs.Arithmetic.{nearest}
use Rattle.quantities.specs.Decimals.{is_mark, has, before, behind, without_sign, are_digits, is_mantissa, mantissa, exponent, has_exponent, is_decimal, size_of, decimal_size, decimal_value}
use Rattle.quantities.specs.Digits.{begins_with_minus, number_after}
use Rattle.quantities.specs.Texts.{billion, digits_below, without_final_zeros, whole_text, nine_text, decimal_text}
use Rattle.quantities.proofs.DecimalLemmas.{both, behind-none, decimal-plain, value-amount}
use Rattle.quantities.proofs.Digits.{length-digits_below, one_decimal, ten_power_pos}
use Rattle.quantities.proofs.ReadLemmas.{number_after-append, number_after-decimal, number_after-places, no_minus, begins-sign, signed-parts}
use Rattle.quantities.proofs.RoundedDigits.{nearest-scaled, nearest-one}
use Rattle.quantities.proofs.TextLemmas.{list_all-append, list_all-decimal, list_all-digits, decimal_text-whole, decimal_text-fraction}

-- ---- the parts of a text

unsigned_first : (m : ℕ) → m < 10 → (rest : List ℕ) → without_sign ((48 + m) ∷ rest) ≡ (48 + m) ∷ rest
unsigned_first m below rest =
    let none : (eqb (48 + m) 43 || eqb (48 + m) 45) ≡ false = grind (arith, nat_tests) in
    ap (λ b. cond b rest ((48 + m) ∷ rest)) none

-- a printed number begins with no sign
unsigned_decimal : (n : ℕ) → n < 10 ^ 64 → (rest : List ℕ) → without_sign (decimal n ++ rest) ≡ decimal n ++ rest
unsigned_decimal n small =
    decimal_by_steps_wide (λ m ds. (rest : List ℕ) → without_sign (ds ++ rest) ≡ ds ++ rest) unsigned_first
    (λ m ds above h rest.
    ap without_sign (append_assoc ds ((48 + m % 10) ∷ []) rest) ∙ h ((48 + m % 10) ∷ rest) ∙ sym (append_assoc ds ((48 + m % 10) ∷ []) rest))
    n small

unsigned_text : (negative : Bool) (body : List ℕ) → without_sign body ≡ body → without_sign (sign_text negative ++ body) ≡ body
unsigned_text true body h = refl
unsigned_text false body h = h

not_true : (b : Bool) → not b ≡ true → b ≡ false
not_true true h = sym h
not_true false h = refl

-- a text in which no byte is the mark
unmarked : (mark : Mark) (xs : List ℕ) → list_all (λ c. not (is_mark mark c)) xs ≡ true → (has mark xs ≡ false) × (before mark xs ≡ xs)
unmarked mark [] h = (refl, refl)
unmarked mark (c ∷ cs) h =
    let parts = both (not (is_mark mark c)) (list_all (λ x. not (is_mark mark x)) cs) h in
    let isnt : is_mark mark c ≡ false = not_true (is_mark mark c) parts.0 in
    let rest = unmarked mark cs parts.1 in
    (ap (λ b. b || has mark cs) isnt ∙ rest.0, ap (λ b. cond b [] (c ∷ before mark cs)) isnt ∙ ap (λ t. c ∷ t) rest.1)

-- a text that is parted by the mark
marked : (mark : Mark) (xs ys : List ℕ) (c : ℕ) → list_all (λ x. not (is_mark mark x)) xs ≡ true → is_mark mark c ≡ true
    → (has mark (xs ++ c ∷ ys) ≡ true) × (before mark (xs ++ c ∷ ys) ≡ xs) × (behind mark (xs ++ c ∷ ys) ≡ ys)
marked mark [] ys c h is =
    (ap (λ b. b || has mark ys) is, ap (λ b. cond b [] (c ∷ before mark ys)) is, ap (λ b. cond b ys (behind mark ys)) is)
marked mark (x ∷ xs) ys c h is =
    let parts = both (not (is_mark mark x)) (list_all (λ y. not (is_mark mark y)) xs) h in
    let isnt : is_mark mark x ≡ false = not_true (is_mark mark x) parts.0 in
    let rest = marked mark xs ys c parts.1 is in (
      ap (λ b. b || has mark (xs ++ c ∷ ys)) isnt ∙ rest.0,
      ap (λ b. cond b [] (x ∷ before mark (xs ++ c ∷ ys))) isnt ∙ ap (λ t. x ∷ t) rest.1,
      ap (λ b. cond b (xs ++ c ∷ ys) (behind mark (xs ++ c ∷ ys))) isnt ∙ rest.2,
    )

digits_within : (most : ℕ) (text : List ℕ) → 1 ≤ length text → length text ≤ most → list_all is_ascii_digit text ≡ true → are_digits most text ≡ true
digits_within most text some few all =
    let low : nat_le 1 (length text) ≡ true = grind (arith, nat_tests) in
    let high : nat_le (length text) most ≡ true = grind (arith, nat_tests) in
    ap (λ b. b && nat_le (length text) most && list_all is_ascii_digit text) low
    ∙ ap (λ b. true && b && list_all is_ascii_digit text) high ∙ all

glyph_digit : (d : ℕ) → d < 10 → is_ascii_digit (48 + d) ≡ true
glyph_digit d below = grind (arith, nat_tests)

glyph_no_point : (d : ℕ) → d < 10 → not (is_mark Point (48 + d)) ≡ true
glyph_no_point d below = grind (arith, nat_tests)

glyph_no_exponent : (d : ℕ) → d < 10 → not (is_mark Exponent (48 + d)) ≡ true
glyph_no_exponent d below = grind (arith, nat_tests)

-- ---- a text of a sign and a mantissa

module _ (negative : Bool) (body : List ℕ) (size : ℕ) (bare : without_sign body ≡ body) (good : is_mantissa body ≡ true)
    (no_exponent : list_all (λ c. not (is_mark Exponent c)) body ≡ true) (sized : size_of body [] ≡ size) (fits : size ≤ greatest)
    (plain : begins_with_minus body ≡ false) where
  read_signed : decimal_value (sign_text negative ++ body) ≡ Ok (signed negative size)
  read_signed =
      let t : List ℕ = sign_text negative ++ body in
      let rest : without_sign t ≡ body = unsigned_text negative body bare in
      let parts = unmarked Exponent body no_exponent in
      let none : has_exponent t ≡ false = ap (λ b. has Exponent b) rest ∙ parts.0 in
      let m : mantissa t ≡ body = ap (λ b. before Exponent b) rest ∙ parts.1 in
      let e : exponent t ≡ [] = ap (λ b. behind Exponent b) rest ∙ behind-none Exponent body parts.0 in
      let is : is_decimal t ≡ true = decimal-plain t none ∙ ap is_mantissa m ∙ good in
      let same : decimal_size t ≡ size = ap (λ x. size_of x (exponent t)) m ∙ ap (λ x. size_of body x) e ∙ sized in
      value-amount t negative size is (omega (arith, same, fits)) (sym same) (sym (begins-sign negative body plain))

grouped : (a b c : ℕ) → a * (b * c) ≡ a * b * c
grouped a b c = omega arith

once : (n : ℕ) → n ≡ 1 * n
once n = omega arith

regroup : (x unit : ℕ) → x * 10 * unit ≡ x * (10 * unit)
regroup x unit = omega arith

-- ---- the two forms

module _ (whole : ℕ) (small : whole ≤ 10000000000000000000) where
  whole_digits : are_digits 40 (decimal whole) ≡ true
  whole_digits =
      digits_within 40 (decimal whole) (decimal_nonempty whole (omega arith))
      (omega (arith, length-decimal-le 20 whole (omega arith) (omega arith) (omega arith)))
      (list_all-decimal is_ascii_digit glyph_digit whole (omega arith))

  whole_no_point : list_all (λ c. not (is_mark Point c)) (decimal whole) ≡ true
  whole_no_point = list_all-decimal (λ c. not (is_mark Point c)) glyph_no_point whole (omega arith)

  whole_no_exponent : list_all (λ c. not (is_mark Exponent c)) (decimal whole) ≡ true
  whole_no_exponent = list_all-decimal (λ c. not (is_mark Exponent c)) glyph_no_exponent whole (omega arith)

  whole_mantissa : is_mantissa (decimal whole) ≡ true
  whole_mantissa =
      let parts = unmarked Point (decimal whole) whole_no_point in
      ap (λ t. are_digits 40 t && (not (has Point (decimal whole)) || are_digits 40 (behind Point (decimal whole)))) parts.1
      ∙ ap (λ b. b && (not (has Point (decimal whole)) || are_digits 40 (behind Point (decimal whole)))) whole_digits
      ∙ ap (λ b. not b || are_digits 40 (behind Point (decimal whole))) parts.0

  whole_size : size_of (decimal whole) [] ≡ whole * billion
  unfolding size_of
  whole_size =
      let parts = unmarked Point (decimal whole) whole_no_point in
      ap (λ n. nearest (n * 10 ^ 9) (10 ^ (length (behind Point (decimal whole)) + 0))) (number_after-decimal whole (omega arith))
      ∙ ap (λ t. nearest (whole * 10 ^ 9) (10 ^ (length t + 0))) (behind-none Point (decimal whole) parts.0)
      ∙ nearest-one (whole * 10 ^ 9)

  pub read_whole : (negative : Bool) → whole * billion ≤ greatest → decimal_value (sign_text negative ++ decimal whole) ≡ Ok (signed negative (whole * billion))
  read_whole negative fits =
      read_signed negative (decimal whole) (whole * billion)
      (ap without_sign (sym (append-nil (decimal whole))) ∙ unsigned_decimal whole (omega arith) [] ∙ append-nil (decimal whole))
      whole_mantissa whole_no_exponent whole_size fits
      (ap begins_with_minus (sym (append-nil (decimal whole))) ∙ no_minus whole (omega arith) [])

  module _ (fraction : List ℕ) (left size : ℕ) (some : 1 ≤ length fraction) (few : length fraction + left ≡ 9)
      (digits : list_all is_ascii_digit fraction ≡ true) (no_mark : list_all (λ c. not (is_mark Exponent c)) fraction ≡ true)
      (number : number_after whole fraction * 10 ^ left ≡ size) (fits : size ≤ greatest) where
    parted : (has Point (decimal whole ++ 46 ∷ fraction) ≡ true) × (before Point (decimal whole ++ 46 ∷ fraction) ≡ decimal whole)
        × (behind Point (decimal whole ++ 46 ∷ fraction) ≡ fraction)
    parted = marked Point (decimal whole) fraction 46 whole_no_point refl

    parted_mantissa : is_mantissa (decimal whole ++ 46 ∷ fraction) ≡ true
    parted_mantissa =
        let body : List ℕ = decimal whole ++ 46 ∷ fraction in
        ap (λ t. are_digits 40 t && (not (has Point body) || are_digits 40 (behind Point body))) parted.1
        ∙ ap (λ b. b && (not (has Point body) || are_digits 40 (behind Point body))) whole_digits
        ∙ ap (λ b. not b || are_digits 40 (behind Point body)) parted.0
        ∙ ap (λ t. are_digits 40 t) parted.2 ∙ digits_within 40 fraction some (omega arith) digits

    parted_number : number_after 0 (decimal whole ++ 46 ∷ fraction) ≡ number_after whole fraction
    parted_number = number_after-append 0 (decimal whole) (46 ∷ fraction) ∙ ap (λ n. number_after n fraction) (number_after-decimal whole (omega arith))

    nine_places : number_after whole fraction * 10 ^ 9 ≡ size * 10 ^ length fraction
    nine_places =
        let nine : 9 ≡ left + length fraction = omega arith in
        ap (λ k. number_after whole fraction * 10 ^ k) nine
        ∙ ap (λ u. number_after whole fraction * u) (pow-add 10 left (length fraction))
        ∙ grouped (number_after whole fraction) (10 ^ left) (10 ^ length fraction)
        ∙ ap (λ p. p * 10 ^ length fraction) number

    parted_size : size_of (decimal whole ++ 46 ∷ fraction) [] ≡ size
    unfolding size_of
    parted_size =
        let places : length fraction + 0 ≡ length fraction = omega arith in
        ap (λ n. nearest (n * 10 ^ 9) (10 ^ (length (behind Point (decimal whole ++ 46 ∷ fraction)) + 0))) parted_number
        ∙ ap (λ t. nearest (number_after whole fraction * 10 ^ 9) (10 ^ (length t + 0))) parted.2
        ∙ ap (λ k. nearest (number_after whole fraction * 10 ^ 9) (10 ^ k)) places
        ∙ ap (λ p. nearest p (10 ^ length fraction)) nine_places
        ∙ ap (λ q. nearest (size * 10 ^ length fraction) q) (once (10 ^ length fraction))
        ∙ nearest-scaled size 1 (10 ^ length fraction) (ten_power_pos (length fraction)) ∙ nearest-one size

    pub read_parted : (negative : Bool) → decimal_value (sign_text negative ++ (decimal whole ++ 46 ∷ fraction)) ≡ Ok (signed negative size)
    read_parted negative =
        read_signed negative (decimal whole ++ 46 ∷ fraction) size (unsigned_decimal whole (omega arith) (46 ∷ fraction)) parted_mantissa
        (list_all-append (λ c. not (is_mark Exponent c)) (decimal whole) (46 ∷ fraction) whole_no_exponent no_mark)
        parted_size fits (no_minus whole (omega arith) (46 ∷ fraction))

-- ---- digits without the zeros at their end

-- the zeros that were dropped are a power of ten
record Trimmed (ds ts : List ℕ) : Type 0 where
  left : ℕ
  places : length ts + left ≡ length ds
  number : (x : ℕ) → number_after x ds ≡ number_after x ts * 10 ^ left

zeros : (ds : List ℕ) → list_all (λ e. eqb e 48) ds ≡ true → (x : ℕ) → number_after x ds ≡ x * 10 ^ length ds
zeros [] h x = omega arith
zeros (d ∷ ds) h x =
    let parts = both (eqb d 48) (list_all (λ e. eqb e 48) ds) h in
    let zero : d ≡ 48 = grind (arith, nat_tests) in
    let none : x * 10 + (48 - 48) ≡ x * 10 = omega arith in
    ap (λ c. number_after x (c ∷ ds)) zero ∙ ap (λ n. number_after n ds) none ∙ zeros ds parts.1 (x * 10)
    ∙ regroup x (10 ^ length ds) ∙ ap (λ u. x * u) (sym (pow-succ' 10 (length ds)))

trimmed : (ds : List ℕ) → Trimmed ds (without_final_zeros ds)
unfolding without_final_zeros
trimmed [] = record { left = 0; places = refl; number = λ x. omega arith }
trimmed (d ∷ ds) =
    let rest = trimmed ds in
    elim (list_all (λ e. eqb e 48) (d ∷ ds)) as (λ b. list_all (λ e. eqb e 48) (d ∷ ds) ≡ b → Trimmed (d ∷ ds) (cond b [] (d ∷ without_final_zeros ds))) [
      | true ↦ λ e. record { left = length (d ∷ ds); places = omega arith; number = zeros (d ∷ ds) e }
      | false ↦ λ e. record {
        left = rest.left;
        places = omega (arith, rest.places);
        number = λ x. rest.number (cond (is_ascii_digit d) (x * 10 + (d - 48)) x);
      }
    ] refl

list_all-trimmed : (p : ℕ → Bool) (ds : List ℕ) → list_all p ds ≡ true → list_all p (without_final_zeros ds) ≡ true
unfolding without_final_zeros
list_all-trimmed p [] h = refl
list_all-trimmed p (d ∷ ds) h =
    let parts = both (p d) (list_all p ds) h in
    elim (list_all (λ e. eqb e 48) (d ∷ ds)) as (λ b. list_all p (cond b [] (d ∷ without_final_zeros ds)) ≡ true)
    [ true ↦ refl | false ↦ ap (λ b. b && list_all p (without_final_zeros ds)) parts.0 ∙ list_all-trimmed p ds parts.1 ]

-- ---- the law

module _ (a : ℤ) (bounded : IsAmount a) where
  number_of_nine : number_after (unsigned_abs a / billion) (digits_below 9 (unsigned_abs a)) ≡ unsigned_abs a
  number_of_nine =
      number_after-places 9 (unsigned_abs a / billion) (unsigned_abs a) ∙ omega (arith, div-add-mod (unsigned_abs a) billion)

  pub decimal_value-nine_text : decimal_value (nine_text a) ≡ Ok a
  unfolding nine_text whole_text
  decimal_value-nine_text =
      let n : ℕ = unsigned_abs a in
      let long : length (digits_below 9 n) ≡ 9 = length-digits_below 9 n in
      ap decimal_value (append_assoc (sign_text (is_negative a)) (decimal (n / billion)) (46 ∷ digits_below 9 n))
      ∙ read_parted (n / billion) (omega arith) (digits_below 9 n) 0 n (omega arith) (omega arith)
      (list_all-digits is_ascii_digit glyph_digit 9 n) (list_all-digits (λ c. not (is_mark Exponent c)) glyph_no_exponent 9 n)
      (omega (arith, number_of_nine)) bounded (is_negative a)
      ∙ ap Ok (signed-parts a)

  whole_read : unsigned_abs a % billion ≡ 0 → decimal_value (decimal_text a) ≡ Ok a
  unfolding whole_text
  whole_read none =
      let n : ℕ = unsigned_abs a in
      let same : n / billion * billion ≡ n = omega (arith, div-add-mod n billion) in
      ap decimal_value (decimal_text-whole a none)
      ∙ read_whole (n / billion) (omega arith) (is_negative a) (omega arith)
      ∙ ap (λ k. Ok (signed (is_negative a) k)) same ∙ ap Ok (signed-parts a)

  fraction_read : (unsigned_abs a % billion ≡ 0 → ⊥) → decimal_value (decimal_text a) ≡ Ok a
  unfolding whole_text
  fraction_read some =
      let n : ℕ = unsigned_abs a in
      let fraction : List ℕ = without_final_zeros (digits_below 9 n) in
      let cut = trimmed (digits_below 9 n) in
      let long : length (digits_below 9 n) ≡ 9 = length-digits_below 9 n in
      ap decimal_value (decimal_text-fraction a some)
      ∙ ap decimal_value (append_assoc (whole_text a) (46 ∷ []) fraction)
      ∙ ap decimal_value (append_assoc (sign_text (is_negative a)) (decimal (n / billion)) (46 ∷ fraction))
      ∙ read_parted (n / billion) (omega arith) fraction cut.left n
      (omega (arith, ap length (one_decimal 8 n some))) (omega (arith, cut.places))
      (list_all-trimmed is_ascii_digit (digits_below 9 n) (list_all-digits is_ascii_digit glyph_digit 9 n))
      (list_all-trimmed (λ c. not (is_mark Exponent c)) (digits_below 9 n) (list_all-digits (λ c. not (is_mark Exponent c)) glyph_no_exponent 9 n))
      (sym (cut.number (n / billion)) ∙ number_of_nine) bounded (is_negative a)
      ∙ ap Ok (signed-parts a)

  pub decimal_value-decimal_text : decimal_value (decimal_text a) ≡ Ok a
  decimal_value-decimal_text = elim (cases_eq (unsigned_abs a % billion) 0) [ inl none ↦ whole_read none | inr some ↦ fraction_read some ]
