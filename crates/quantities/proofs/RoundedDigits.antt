-- The first digits of a text, rounded by the next one, are the nearest whole number.
use Rattle.std.proofs.Common.{◌≡◌, ℕ, zero, suc, ◌+◌, ◌-◌, ◌*◌, ◌/◌, ◌^◌, ◌<◌, ◌≤◌, true, false, cond, nat_lt, List, [], ◌∷◌, refl, ap, sym, ◌∙◌, arith}
use Rattle.std.specs.Char.{is_ascii_digit}
use Rattle.std.proofs.Math.Nat.{mul-div-mul_right, div-eq_of_lt, pow-succ', mul-le-mul_left, pow-le-pow_right}
use Rattle.std.proofs.lemmas.Nat.{div-mul-add, mul-add-lt, pow-add}
use Rattle.std.proofs.lemmas.Bool.Decides.{nat_tests}
use Rattle.quantities.specs.Arithmetic.{nearest}
use Rattle.quantities.specs.Digits.{number_after}
use Rattle.quantities.specs.Scaling.{kept, rounded_by}
use Rattle.quantities.proofs.Digits.{ten_power_pos}
use Rattle.quantities.proofs.Nearest.{doubled, doubled_more}

-- how many digits a text has
abbrev pub digit_count : List ℕ → ℕ
digit_count [] = 0
digit_count (c ∷ cs) = cond (is_ascii_digit c) (suc (digit_count cs)) (digit_count cs)

-- a quotient with less than half a divisor left
rounded_down : (k r q : ℕ) → 2 * r < q → nearest (q * k + r) q ≡ k
unfolding nearest
rounded_down k r q less =
    ap (λ n. n / (2 * q)) (doubled q k r (q + 2 * r) refl) ∙ div-mul-add k (2 * q) (q + 2 * r) (omega arith)

-- and with half a divisor left or more
rounded_up : (k r q : ℕ) → q ≤ 2 * r → r < q → nearest (q * k + r) q ≡ k + 1
unfolding nearest
rounded_up k r q more below =
    ap (λ n. n / (2 * q)) (doubled_more q k r (2 * r - q) (omega arith)) ∙ div-mul-add (k + 1) (2 * q) (2 * r - q) (omega arith)

-- the same factor on both sides changes nothing
pub nearest-scaled : (p q c : ℕ) → 0 < c → nearest (p * c) (q * c) ≡ nearest p q
unfolding nearest
nearest-scaled p q c some =
    let top : 2 * (p * c) + q * c ≡ (2 * p + q) * c = omega arith in
    let bottom : 2 * (q * c) ≡ 2 * q * c = omega arith in
    ap (λ n. n / (2 * (q * c))) top ∙ ap (λ n. (2 * p + q) * c / n) bottom ∙ mul-div-mul_right {m = c} (2 * p + q) (2 * q) some

pub nearest-one : (p : ℕ) → nearest p 1 ≡ p
unfolding nearest
nearest-one p = omega arith

-- a number less than half the divisor
pub nearest-small : (p q : ℕ) → 2 * p < q → nearest p q ≡ 0
unfolding nearest
nearest-small p q less = div-eq_of_lt (omega arith)

power-more : (k : ℕ) → 10 ^ suc k ≡ 10 ^ k * 10
power-more k = pow-succ' 10 k ∙ omega arith

front : (n d unit rest : ℕ) → (n * 10 + d) * unit + rest ≡ n * (unit * 10) + (d * unit + rest)
front n d unit rest = omega arith

zero_front : (d : ℕ) → d ≡ 0 * 10 + d
zero_front d = omega arith

shift_right : (m unit : ℕ) → m * unit * 10 ≡ m * (unit * 10)
shift_right m unit = omega arith

-- the digits read so far stand in front of those that follow
pub number_after-front : (cs : List ℕ) (n : ℕ) → number_after n cs ≡ n * 10 ^ digit_count cs + number_after 0 cs
number_after-front [] n = omega arith
number_after-front (c ∷ cs) n =
    let d : ℕ = c - 48 in
    let unit : ℕ = 10 ^ digit_count cs in
    let with_digit : number_after (n * 10 + d) cs ≡ n * 10 ^ suc (digit_count cs) + number_after (0 * 10 + d) cs =
    number_after-front cs (n * 10 + d)
    ∙ front n d (10 ^ digit_count cs) (number_after 0 cs)
    ∙ ap (λ u. n * u + (d * 10 ^ digit_count cs + number_after 0 cs)) (sym (power-more (digit_count cs)))
    ∙ ap (λ t. n * 10 ^ suc (digit_count cs) + t) (sym (number_after-front cs d))
    ∙ ap (λ t. n * 10 ^ suc (digit_count cs) + number_after t cs) (zero_front d) in
    elim (is_ascii_digit c) as (λ b. number_after (cond b (n * 10 + d) n) cs
    ≡ n * 10 ^ cond b (suc (digit_count cs)) (digit_count cs) + number_after (cond b (0 * 10 + d) 0) cs)
    [ true ↦ with_digit | false ↦ number_after-front cs n ]

digit_small : (c : ℕ) → is_ascii_digit c ≡ true → c - 48 < 10
digit_small c e = grind (arith, nat_tests)

-- the digits of a text make a number of so many digits
pub number_after-below : (cs : List ℕ) → number_after 0 cs < 10 ^ digit_count cs
number_after-below [] = omega arith
number_after-below (c ∷ cs) =
    let d : ℕ = c - 48 in
    let unit : ℕ = 10 ^ digit_count cs in
    let digit : is_ascii_digit c ≡ true → number_after (0 * 10 + d) cs < 10 ^ suc (digit_count cs) = λ e.
    let fits : d * 10 ^ digit_count cs + number_after 0 cs < 10 ^ digit_count cs * 10 =
    mul-add-lt d (10 ^ digit_count cs) (number_after 0 cs) 10 (digit_small c e) (number_after-below cs) in
    let parts : number_after (0 * 10 + d) cs ≡ d * 10 ^ digit_count cs + number_after 0 cs =
    ap (λ t. number_after t cs) (sym (zero_front d)) ∙ number_after-front cs d in
    omega (arith, fits, parts, power-more (digit_count cs)) in
    elim (is_ascii_digit c) as (λ b. is_ascii_digit c ≡ b → number_after (cond b (0 * 10 + d) 0) cs < 10 ^ cond b (suc (digit_count cs)) (digit_count cs))
    [ true ↦ λ e. digit e | false ↦ λ e. number_after-below cs ] refl

-- the digit behind the last one kept decides the rounding
last_digit : (n d unit rest : ℕ) → d < 10 → rest < unit → cond (nat_lt d 5) n (n + 1) ≡ nearest (unit * 10 * n + (d * unit + rest)) (unit * 10)
last_digit n d unit rest small below =
    elim (nat_lt d 5) as (λ b. nat_lt d 5 ≡ b → cond b n (n + 1) ≡ nearest (unit * 10 * n + (d * unit + rest)) (unit * 10)) [
      | true ↦ λ e.
          let low : d < 5 = grind (arith, nat_tests) in
          let less : d * unit + rest < unit * 5 = mul-add-lt d unit rest 5 low below in
          sym (rounded_down n (d * unit + rest) (unit * 10) (omega arith))
      | false ↦ λ e.
          let high : 5 ≤ d = grind (arith, nat_tests) in
          let more : unit * 5 ≤ unit * d = mul-le-mul_left unit high in
          let less : d * unit + rest < unit * 10 = mul-add-lt d unit rest 10 small below in
          sym (rounded_up n (d * unit + rest) (unit * 10) (omega arith) less)
    ] refl

no_places : (m : ℕ) → m ≡ m * 10 ^ 0
no_places m = omega arith

split_last : (n d unit rest : ℕ) → (n * 10 + d) * unit + rest ≡ unit * 10 * n + (d * unit + rest)
split_last n d unit rest = omega arith

-- the theorem
pub kept-nearest : (places : ℕ) (cs : List ℕ) (n : ℕ) → kept places cs n ≡ nearest (number_after n cs * 10 ^ places) (10 ^ digit_count cs)
unfolding kept
kept-nearest places [] n = sym (nearest-one (n * 10 ^ places))
kept-nearest zero (c ∷ cs) n =
    let d : ℕ = c - 48 in
    let digit : is_ascii_digit c ≡ true → rounded_by c n ≡ nearest (number_after (n * 10 + d) cs * 10 ^ 0) (10 ^ suc (digit_count cs)) = λ e.
    last_digit n d (10 ^ digit_count cs) (number_after 0 cs) (digit_small c e) (number_after-below cs)
    ∙ ap (λ p. nearest p (10 ^ digit_count cs * 10))
    (sym (split_last n d (10 ^ digit_count cs) (number_after 0 cs)) ∙ sym (number_after-front cs (n * 10 + d)) ∙ no_places (number_after (n * 10 + d) cs))
    ∙ ap (λ q. nearest (number_after (n * 10 + d) cs * 10 ^ 0) q) (sym (power-more (digit_count cs))) in
    elim (is_ascii_digit c) as (λ b. is_ascii_digit c ≡ b → cond b (rounded_by c n) (kept zero cs n)
    ≡ nearest (number_after (cond b (n * 10 + d) n) cs * 10 ^ 0) (10 ^ cond b (suc (digit_count cs)) (digit_count cs)))
    [ true ↦ λ e. digit e | false ↦ λ e. kept-nearest zero cs n ] refl
kept-nearest (suc places) (c ∷ cs) n =
    let d : ℕ = c - 48 in
    let digit : kept places cs (n * 10 + d) ≡ nearest (number_after (n * 10 + d) cs * 10 ^ suc places) (10 ^ suc (digit_count cs)) =
    kept-nearest places cs (n * 10 + d)
    ∙ sym (nearest-scaled (number_after (n * 10 + d) cs * 10 ^ places) (10 ^ digit_count cs) 10 (omega arith))
    ∙ ap (λ p. nearest p (10 ^ digit_count cs * 10)) (shift_right (number_after (n * 10 + d) cs) (10 ^ places) ∙ ap (λ u. number_after (n * 10 + d) cs * u) (sym (power-more places)))
    ∙ ap (λ q. nearest (number_after (n * 10 + d) cs * 10 ^ suc places) q) (sym (power-more (digit_count cs))) in
    elim (is_ascii_digit c) as (λ b. cond b (kept places cs (n * 10 + d)) (kept (suc places) cs n)
    ≡ nearest (number_after (cond b (n * 10 + d) n) cs * 10 ^ suc places) (10 ^ cond b (suc (digit_count cs)) (digit_count cs)))
    [ true ↦ digit | false ↦ kept-nearest (suc places) cs n ]

assoc : (a b c : ℕ) → a * (b * c) ≡ a * b * c
assoc a b c = omega arith

sum_right : (whole right : ℕ) → whole + 9 + right ≡ 9 + right + whole
sum_right whole right = omega arith

sum_zero : (whole fraction : ℕ) → whole + fraction ≡ fraction + 0 + whole
sum_zero whole fraction = omega arith

sum_left : (whole left : ℕ) → left ≤ whole + 9 → whole + 9 - left + left ≡ 9 + 0 + whole
sum_left whole left h = omega arith

sum_both : (whole fraction left : ℕ) → whole + fraction + left ≡ fraction + left + whole
sum_both whole fraction left = omega arith

-- by how many places the point is moved, seen from the first digit
pub places_right : (number whole fraction right : ℕ)
    → nearest (number * 10 ^ (whole + 9 + right)) (10 ^ (whole + fraction)) ≡ nearest (number * 10 ^ (9 + right)) (10 ^ (fraction + 0))
places_right number whole fraction right =
    let top : number * 10 ^ (whole + 9 + right) ≡ number * 10 ^ (9 + right) * 10 ^ whole =
    ap (λ k. number * 10 ^ k) (sum_right whole right) ∙ ap (λ u. number * u) (pow-add 10 (9 + right) whole) ∙ assoc number (10 ^ (9 + right)) (10 ^ whole) in
    let bottom : 10 ^ (whole + fraction) ≡ 10 ^ (fraction + 0) * 10 ^ whole =
    ap (λ k. 10 ^ k) (sum_zero whole fraction) ∙ pow-add 10 (fraction + 0) whole in
    ap (λ p. nearest p (10 ^ (whole + fraction))) top ∙ ap (λ q. nearest (number * 10 ^ (9 + right) * 10 ^ whole) q) bottom
    ∙ nearest-scaled (number * 10 ^ (9 + right)) (10 ^ (fraction + 0)) (10 ^ whole) (ten_power_pos whole)

pub places_left : (number whole fraction left : ℕ) → left ≤ whole + 9
    → nearest (number * 10 ^ (whole + 9 - left)) (10 ^ (whole + fraction)) ≡ nearest (number * 10 ^ (9 + 0)) (10 ^ (fraction + left))
places_left number whole fraction left within =
    let kept_places : ℕ = whole + 9 - left in
    let top : number * 10 ^ kept_places * 10 ^ left ≡ number * 10 ^ (9 + 0) * 10 ^ whole =
    sym (assoc number (10 ^ kept_places) (10 ^ left)) ∙ ap (λ u. number * u) (sym (pow-add 10 kept_places left))
    ∙ ap (λ k. number * 10 ^ k) (sum_left whole left within) ∙ ap (λ u. number * u) (pow-add 10 (9 + 0) whole) ∙ assoc number (10 ^ (9 + 0)) (10 ^ whole) in
    let bottom : 10 ^ (whole + fraction) * 10 ^ left ≡ 10 ^ (fraction + left) * 10 ^ whole =
    sym (pow-add 10 (whole + fraction) left) ∙ ap (λ k. 10 ^ k) (sum_both whole fraction left) ∙ pow-add 10 (fraction + left) whole in
    sym (nearest-scaled (number * 10 ^ kept_places) (10 ^ (whole + fraction)) (10 ^ left) (ten_power_pos left))
    ∙ ap (λ p. nearest p (10 ^ (whole + fraction) * 10 ^ left)) top ∙ ap (λ q. nearest (number * 10 ^ (9 + 0) * 10 ^ whole) q) bottom
    ∙ nearest-scaled (number * 10 ^ (9 + 0)) (10 ^ (fraction + left)) (10 ^ whole) (ten_power_pos whole)

-- moved past the first digit and one more, it is nothing
pub places_past : (number whole fraction left : ℕ) → whole + 9 < left → number < 10 ^ (whole + fraction)
    → nearest (number * 10 ^ (9 + 0)) (10 ^ (fraction + left)) ≡ 0
places_past number whole fraction left past below =
    let few : 10 ^ suc (whole + fraction + 9) ≤ 10 ^ (fraction + left) =
    pow-le-pow_right {n = 10} (omega arith) {i = suc (whole + fraction + 9)} {j = fraction + left} (omega arith) in
    let more = power-more (whole + fraction + 9) in
    let parts : 10 ^ (whole + fraction + 9) ≡ 10 ^ (whole + fraction) * 10 ^ 9 = pow-add 10 (whole + fraction) 9 in
    nearest-small (number * 10 ^ (9 + 0)) (10 ^ (fraction + left)) (omega arith)
