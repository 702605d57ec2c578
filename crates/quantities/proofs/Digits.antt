-- The digits of a number at its last places.
use Rattle.std.proofs.Common.{◌≡◌, ℕ, zero, suc, ◌+◌, ◌*◌, ◌/◌, ◌%◌, ◌^◌, ◌<◌, Bool, true, false, ◌&&◌, eqb, [], ◌∷◌, length, refl, sym, ◌∙◌, ap, add-one, arith}
use Rattle.std.proofs.Math.Nat.{one-le-pow, pow-suc}
use Rattle.std.proofs.Math.Arith.{mod-mul}
use Rattle.std.proofs.lemmas.Bool.Decides.{nat_tests}
use Rattle.std.specs.List.{list_all}
use Rattle.quantities.specs.Texts.{digits_below, without_final_zeros}

-- a power of ten is not zero
pub ten_power_pos : (k : ℕ) → 0 < 10 ^ k
ten_power_pos k = one-le-pow k 10 (omega arith)

-- the last places of a number are its digit at the highest of them, and the others
pub last_places : (k n : ℕ) → n % 10 ^ (k + 1) ≡ (n / 10 ^ k % 10) * 10 ^ k + n % 10 ^ k
last_places k n =
    let shift : 10 ^ (k + 1) ≡ 10 * 10 ^ k = ap (λ j. 10 ^ j) (omega arith) ∙ pow-suc 10 k ∙ omega arith in
    ap (λ m. n % m) shift ∙ mod-mul n {m = 10} {c = 10 ^ k} (omega arith) (ten_power_pos k)

pub length-digits_below : (k n : ℕ) → length (digits_below k n) ≡ k
unfolding digits_below
length-digits_below zero n = refl
length-digits_below (suc k) n = ap suc (length-digits_below k n)

digit_and_rest : (d r unit : ℕ) → 0 < unit → (eqb (48 + d) 48 && eqb r 0) ≡ eqb (d * unit + r) 0
digit_and_rest zero r unit h = grind (arith, nat_tests)
digit_and_rest (suc d) r unit h =
    let some : 0 < suc d * unit = grind arith in
    grind (arith, nat_tests)

-- the digits are all zeros exactly where nothing is left at their places
all_zeros : (k n : ℕ) → list_all (λ e. eqb e 48) (digits_below k n) ≡ eqb (n % 10 ^ k) 0
unfolding digits_below
all_zeros zero n = grind (arith, nat_tests)
all_zeros (suc k) n =
    let first : Bool = eqb (48 + n / 10 ^ k % 10) 48 in
    ap (λ b. first && b) (all_zeros k n)
    ∙ digit_and_rest (n / 10 ^ k % 10) (n % 10 ^ k) (10 ^ k) (ten_power_pos k)
    ∙ ap (λ m. eqb m 0) (sym (last_places k n))
    ∙ ap (λ j. eqb (n % 10 ^ j) 0) (omega arith)

-- where nothing is left at the last places, no digit is needed
pub no_decimals : (k n : ℕ) → n % 10 ^ k ≡ 0 → without_final_zeros (digits_below k n) ≡ []
unfolding without_final_zeros digits_below
no_decimals zero n e = refl
no_decimals (suc k) n e =
    let all : list_all (λ e. eqb e 48) (digits_below (suc k) n) ≡ true = all_zeros (suc k) n ∙ ap (λ m. eqb m 0) e in
    rw all refl

-- where something is left, the digit at the highest place is needed
pub one_decimal : (k n : ℕ) → (n % 10 ^ (k + 1) ≡ 0 → ⊥)
    → without_final_zeros (digits_below (k + 1) n) ≡ (48 + n / 10 ^ k % 10) ∷ without_final_zeros (digits_below k n)
unfolding without_final_zeros digits_below
one_decimal k n some =
    let none : list_all (λ e. eqb e 48) (digits_below (suc k) n) ≡ false =
    all_zeros (suc k) n ∙ grind (arith, nat_tests, add-one) in
    rw add-one (rw none refl)
