-- The texts of amounts: their parts, lengths and bytes.
use Rattle.std.proofs.Common.{◌≡◌, ℕ, zero, suc, ◌+◌, ◌/◌, ◌%◌, ◌^◌, ◌<◌, ◌≤◌, Bool, true, false, not, ◌&&◌, eqb, ℤ, List, [], ◌∷◌, ◌++◌, length, refl, sym, ◌∙◌, ap, append-nil, append_assoc, length-append, unsigned_abs, arith}
use Rattle.std.specs.Fmt.{decimal, sign_text}
use Rattle.std.specs.Int.{is_negative}
use Rattle.std.specs.List.{list_all}
use Rattle.std.proofs.Math.Nat.{mod-lt}
use Rattle.std.proofs.lemmas.Fmt.{length-decimal-le, decimal_by_steps_wide}
use Rattle.std.proofs.lemmas.Bool.Decides.{nat_tests}
use Rattle.quantities.specs.Amounts.{IsAmount, greatest}
use Rattle.quantities.specs.Texts.{billion, digits_below, without_final_zeros, behind_point, whole_text, decimal_text, nine_text}
use Rattle.quantities.proofs.Digits.{no_decimals, one_decimal, length-digits_below}

pub length-sign : (negative : Bool) → length (sign_text negative) ≤ 1
length-sign true = omega arith
length-sign false = omega arith

-- the whole part has at most twenty digits
pub length-whole : (magnitude : ℕ) → magnitude ≤ greatest → length (decimal (magnitude / billion)) ≤ 20
length-whole magnitude h = length-decimal-le 20 (magnitude / billion) (omega arith) (omega arith) (omega arith)

-- a whole amount is written without a point
pub decimal_text-whole : (raw : ℤ) → unsigned_abs raw % billion ≡ 0 → decimal_text raw ≡ whole_text raw
unfolding decimal_text
decimal_text-whole raw e =
    ap (λ t. whole_text raw ++ behind_point t) (no_decimals 9 (unsigned_abs raw) e) ∙ append-nil (whole_text raw)

-- any other amount has a point and digits behind it
pub decimal_text-fraction : (raw : ℤ) → (unsigned_abs raw % billion ≡ 0 → ⊥)
    → decimal_text raw ≡ (whole_text raw ++ 46 ∷ []) ++ without_final_zeros (digits_below 9 (unsigned_abs raw))
unfolding decimal_text
decimal_text-fraction raw some =
    let n : ℕ = unsigned_abs raw in
    let digits : without_final_zeros (digits_below 9 n) ≡ (48 + n / 10 ^ 8 % 10) ∷ without_final_zeros (digits_below 8 n) =
    one_decimal 8 n some in
    ap (λ t. whole_text raw ++ behind_point t) digits
    ∙ sym (append_assoc (whole_text raw) (46 ∷ []) ((48 + n / 10 ^ 8 % 10) ∷ without_final_zeros (digits_below 8 n)))
    ∙ ap (λ t. (whole_text raw ++ 46 ∷ []) ++ t) (sym digits)

-- the text of nine decimals in the order in which it is written
pub nine_text-parts : (raw : ℤ) → nine_text raw ≡ (whole_text raw ++ 46 ∷ []) ++ digits_below 9 (unsigned_abs raw)
unfolding nine_text
nine_text-parts raw = sym (append_assoc (whole_text raw) (46 ∷ []) (digits_below 9 (unsigned_abs raw)))

-- what is written step by step is the text
module _ (raw : ℤ) (negative : Bool) (magnitude : ℕ) (whole pointed bytes : List ℕ)
    (sign : negative ≡ is_negative raw) (size : magnitude ≡ unsigned_abs raw)
    (start : whole ≡ sign_text negative ++ decimal (magnitude / billion)) (point : pointed ≡ whole ++ 46 ∷ []) where
  whole_spelled : whole ≡ whole_text raw
  unfolding whole_text
  whole_spelled = start ∙ ap (λ b. sign_text b ++ decimal (magnitude / billion)) sign ∙ ap (λ n. sign_text (is_negative raw) ++ decimal (n / billion)) size

  pointed_spelled : pointed ≡ whole_text raw ++ 46 ∷ []
  pointed_spelled = point ∙ ap (λ t. t ++ 46 ∷ []) whole_spelled

  pub nine_spelled : bytes ≡ pointed ++ digits_below 9 magnitude → bytes ≡ nine_text raw
  nine_spelled e =
      e ∙ ap (λ t. t ++ digits_below 9 magnitude) pointed_spelled
      ∙ ap (λ n. (whole_text raw ++ 46 ∷ []) ++ digits_below 9 n) size ∙ sym (nine_text-parts raw)

  pub fraction_spelled : (magnitude % billion ≡ 0 → ⊥) → bytes ≡ pointed ++ without_final_zeros (digits_below 9 magnitude) → bytes ≡ decimal_text raw
  fraction_spelled some e =
      e ∙ ap (λ t. t ++ without_final_zeros (digits_below 9 magnitude)) pointed_spelled
      ∙ ap (λ n. (whole_text raw ++ 46 ∷ []) ++ without_final_zeros (digits_below 9 n)) size
      ∙ sym (decimal_text-fraction raw (λ none. some (ap (λ n. n % billion) size ∙ none)))

pub list_all-append : (p : ℕ → Bool) (xs ys : List ℕ) → list_all p xs ≡ true → list_all p ys ≡ true → list_all p (xs ++ ys) ≡ true
list_all-append p [] ys h k = k
list_all-append p (x ∷ xs) ys h k = elim (p x) as (λ b. b && list_all p xs ≡ true → b && list_all p (xs ++ ys) ≡ true) [ true ↦ λ e. list_all-append p xs ys e k | false ↦ λ e. e ] h

-- a test that digits pass
module _ (p : ℕ → Bool) (digit : (d : ℕ) → d < 10 → p (48 + d) ≡ true) where
  pub list_all-decimal : (n : ℕ) → n < 10 ^ 64 → list_all p (decimal n) ≡ true
  list_all-decimal n small =
      decimal_by_steps_wide (λ m ds. list_all p ds ≡ true) (λ m below. rw (digit m below) refl)
      (λ m ds above h. list_all-append p ds ((48 + m % 10) ∷ []) h (rw (digit (m % 10) (mod-lt m (omega arith))) refl)) n small

  pub list_all-digits : (k n : ℕ) → list_all p (digits_below k n) ≡ true
  unfolding digits_below
  list_all-digits zero n = refl
  list_all-digits (suc k) n = rw (digit (n / 10 ^ k % 10) (mod-lt (n / 10 ^ k) (omega arith))) (list_all-digits k n)

-- a test that digits, `-` and `.` pass
module _ (p : ℕ → Bool) (digit : (d : ℕ) → d < 10 → p (48 + d) ≡ true) (minus : p 45 ≡ true) (point : p 46 ≡ true) where
  list_all-sign : (negative : Bool) → list_all p (sign_text negative) ≡ true
  list_all-sign true = rw minus refl
  list_all-sign false = refl

  list_all-whole : (raw : ℤ) → IsAmount raw → list_all p (whole_text raw) ≡ true
  unfolding whole_text
  list_all-whole raw bounded =
      list_all-append p (sign_text (is_negative raw)) (decimal (unsigned_abs raw / billion)) (list_all-sign (is_negative raw))
      (list_all-decimal p digit (unsigned_abs raw / billion) (omega arith))

  -- each byte of the text of nine decimals passes
  pub list_all-nine_text : (raw : ℤ) → IsAmount raw → list_all p (nine_text raw) ≡ true
  unfolding nine_text
  list_all-nine_text raw bounded =
      list_all-append p (whole_text raw) (46 ∷ digits_below 9 (unsigned_abs raw)) (list_all-whole raw bounded)
      (rw point (list_all-digits p digit 9 (unsigned_abs raw)))

-- the text of nine decimals has no `"`
pub nine_text-no_quote : (raw : ℤ) → IsAmount raw → list_all (λ c. not (eqb c 34)) (nine_text raw) ≡ true
nine_text-no_quote raw bounded =
    list_all-nine_text (λ c. not (eqb c 34)) (λ d below. grind (arith, nat_tests)) refl refl raw bounded

-- the text of nine decimals has at least a point and nine digits
pub nine_text-not_short : (raw : ℤ) → 10 ≤ length (nine_text raw)
unfolding nine_text
nine_text-not_short raw =
    omega (arith, length-append (whole_text raw) (46 ∷ digits_below 9 (unsigned_abs raw)), length-digits_below 9 (unsigned_abs raw))
