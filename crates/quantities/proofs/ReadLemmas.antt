-- Reading what was written gives the amount back.
use Rattle.std.proofs.Common.{◌≡◌, ℕ, zero, suc, ◌+◌, ◌-◌, ◌*◌, ◌/◌, ◌%◌, ◌^◌, ◌<◌, ◌≤◌, Bool, true, false, cond, ℤ, pos, negsuc, List, [], ◌∷◌, ◌++◌, length, refl, sym, ◌∙◌, ap, add-one, append_assoc, length-append, unsigned_abs, arith}
use Rattle.std.specs.Fmt.{decimal, sign_text}
use Rattle.std.specs.Int.{is_negative}
use Rattle.std.specs.Char.{is_ascii_digit}
use Rattle.std.proofs.Math.Nat.{mod-lt, div-add-mod, pow-succ'}
use Rattle.std.proofs.lemmas.Fmt.{decimal_by_steps_wide}
use Rattle.std.proofs.lemmas.Bool.Decides.{nat_tests}
use Rattle.quantities.specs.Amounts.{IsAmount, signed}
use Rattle.quantities.specs.Digits.{number_after, begins_with_minus}
use Rattle.quantities.specs.Texts.{billion, digits_below, whole_text, nine_text}
use Rattle.quantities.proofs.Digits.{length-digits_below, last_places}
use Rattle.quantities.proofs.TextLemmas.{length-sign, length-whole}

pub number_after-append : (n : ℕ) (xs ys : List ℕ) → number_after n (xs ++ ys) ≡ number_after (number_after n xs) ys
number_after-append n [] ys = refl
number_after-append n (x ∷ xs) ys = number_after-append (cond (is_ascii_digit x) (n * 10 + (x - 48)) n) xs ys

-- one digit read
number_after-digit : (n d : ℕ) (cs : List ℕ) → d < 10 → number_after n ((48 + d) ∷ cs) ≡ number_after (n * 10 + d) cs
number_after-digit n d cs small =
    let digit : is_ascii_digit (48 + d) ≡ true = grind (arith, nat_tests) in
    let same : 48 + d - 48 ≡ d = omega arith in
    ap (λ b. number_after (cond b (n * 10 + (48 + d - 48)) n) cs) digit ∙ ap (λ e. number_after (n * 10 + e) cs) same

-- the digits of a printed number make that number
pub number_after-decimal : (n : ℕ) → n < 10 ^ 64 → number_after 0 (decimal n) ≡ n
number_after-decimal n small =
    decimal_by_steps_wide (λ m ds. number_after 0 ds ≡ m)
    (λ m below. number_after-digit 0 m [] below ∙ omega arith)
    (λ m ds above e.
    number_after-append 0 ds ((48 + m % 10) ∷ [])
    ∙ number_after-digit (number_after 0 ds) (m % 10) [] (mod-lt m (omega arith))
    ∙ ap (λ k. k * 10 + m % 10) e ∙ omega (arith, div-add-mod m 10))
    n small

shifted : (m digit unit rest : ℕ) → (m * 10 + digit) * unit + rest ≡ m * (10 * unit) + (digit * unit + rest)
shifted m digit unit rest = omega arith

-- the digits at the last places come behind what was read before
pub number_after-places : (k m n : ℕ) → number_after m (digits_below k n) ≡ m * 10 ^ k + n % 10 ^ k
unfolding digits_below
number_after-places zero m n = omega arith
number_after-places (suc k) m n =
    let digit : ℕ = n / 10 ^ k % 10 in
    let places : n % 10 ^ (k + 1) ≡ digit * 10 ^ k + n % 10 ^ k = last_places k n in
    number_after-digit m digit (digits_below k n) (mod-lt (n / 10 ^ k) (omega arith))
    ∙ number_after-places k (m * 10 + digit) n
    ∙ shifted m digit (10 ^ k) (n % 10 ^ k)
    ∙ ap (λ u. m * u + (digit * 10 ^ k + n % 10 ^ k)) (sym (pow-succ' 10 k))
    ∙ ap (λ p. m * 10 ^ suc k + p) (sym places)
    ∙ ap (λ j. m * 10 ^ suc k + n % 10 ^ j) (add-one k)

number_after-sign : (negative : Bool) (cs : List ℕ) → number_after 0 (sign_text negative ++ cs) ≡ number_after 0 cs
number_after-sign true cs = refl
number_after-sign false cs = refl

-- the digits of the text of nine decimals make the raw number without its sign
pub number_after-nine_text : (raw : ℤ) → IsAmount raw → number_after 0 (nine_text raw) ≡ unsigned_abs raw
unfolding nine_text whole_text
number_after-nine_text raw bounded =
    let n : ℕ = unsigned_abs raw in
    let whole : ℕ = n / billion in
    let read : number_after 0 (whole_text raw) ≡ whole =
    number_after-sign (is_negative raw) (decimal whole) ∙ number_after-decimal whole (omega arith) in
    number_after-append 0 (whole_text raw) (46 ∷ digits_below 9 n)
    ∙ ap (λ w. number_after w (46 ∷ digits_below 9 n)) read
    ∙ number_after-places 9 whole n ∙ omega (arith, div-add-mod n billion)

-- a text of nine decimals has at most 31 bytes
pub length-nine_text : (raw : ℤ) → IsAmount raw → length (nine_text raw) ≤ 31
unfolding nine_text whole_text
length-nine_text raw bounded =
    omega (arith, length-append (whole_text raw) (46 ∷ digits_below 9 (unsigned_abs raw)), length-append (sign_text (is_negative raw)) (decimal (unsigned_abs raw / billion)), length-sign (is_negative raw), length-whole (unsigned_abs raw) bounded, length-digits_below 9 (unsigned_abs raw))

is_negative-pos : (n : ℕ) → is_negative (pos n) ≡ false
is_negative-pos n = grind (arith, nat_tests)

-- a number is its size with its sign
pub signed-parts : (raw : ℤ) → signed (is_negative raw) (unsigned_abs raw) ≡ raw
signed-parts (pos n) = ap (λ b. signed b n) (is_negative-pos n)
signed-parts (negsuc n) = refl

-- a printed number does not begin with `-`, whatever follows it
pub no_minus : (n : ℕ) → n < 10 ^ 64 → (rest : List ℕ) → begins_with_minus (decimal n ++ rest) ≡ false
no_minus n small =
    decimal_by_steps_wide (λ m ds. (rest : List ℕ) → begins_with_minus (ds ++ rest) ≡ false)
    (λ m below rest. grind (arith, nat_tests))
    (λ m ds above h rest. ap begins_with_minus (append_assoc ds ((48 + m % 10) ∷ []) rest) ∙ h ((48 + m % 10) ∷ rest))
    n small

pub begins-sign : (negative : Bool) (cs : List ℕ) → begins_with_minus cs ≡ false → begins_with_minus (sign_text negative ++ cs) ≡ negative
begins-sign true cs h = refl
begins-sign false cs h = h

-- the text begins with `-` exactly for a negative amount
pub begins-nine_text : (raw : ℤ) → IsAmount raw → begins_with_minus (nine_text raw) ≡ is_negative raw
unfolding nine_text whole_text
begins-nine_text raw bounded =
    let whole : ℕ = unsigned_abs raw / billion in
    let rest : List ℕ = 46 ∷ digits_below 9 (unsigned_abs raw) in
    ap begins_with_minus (append_assoc (sign_text (is_negative raw)) (decimal whole) rest)
    ∙ begins-sign (is_negative raw) (decimal whole ++ rest) (no_minus whole (omega arith) rest)

-- the digits of the text and its sign give the amount back
pub nine_text-read : (raw : ℤ) → IsAmount raw → (text : List ℕ) → text ≡ nine_text raw
    → signed (begins_with_minus text) (number_after 0 text) ≡ raw
nine_text-read raw bounded text e =
    ap (λ t. signed (begins_with_minus t) (number_after 0 t)) e
    ∙ ap (λ b. signed b (number_after 0 (nine_text raw))) (begins-nine_text raw bounded)
    ∙ ap (λ n. signed (is_negative raw) n) (number_after-nine_text raw bounded)
    ∙ signed-parts raw

-- two amounts with one text are one
pub nine_text-injective : (a b : ℤ) → IsAmount a → IsAmount b → nine_text a ≡ nine_text b → a ≡ b
nine_text-injective a b bounded_a bounded_b e =
    sym (nine_text-read a bounded_a (nine_text b) (sym e)) ∙ nine_text-read b bounded_b (nine_text b) refl
