-- The first digits of a text, step by step.
use Rattle.std.proofs.Common.{◌≡◌, ℕ, zero, suc, ◌+◌, ◌-◌, ◌*◌, ◌^◌, ◌<◌, ◌≤◌, true, false, cond, nat_lt, List, [], ◌∷◌, length, drop, get_or, refl, ap, sym, subst, ◌∙◌, add-one, arith}
use Rattle.std.specs.Prelude.{Option, SomeIff}
use Rattle.std.specs.Char.{is_ascii_digit}
use Rattle.std.proofs.Math.Nat.{le-mul_of_pos_right, mul-le-mul_left, pow-le-pow_right, pow-succ'}
use Rattle.std.proofs.lemmas.List.{drop_more, drop_all}
use Rattle.quantities.specs.Amounts.{greatest}
use Rattle.quantities.specs.Scaling.{kept, rounded_by}
use Rattle.quantities.proofs.Digits.{ten_power_pos}

rounded_by-grows : (c n : ℕ) → n ≤ rounded_by c n
rounded_by-grows c n = elim (nat_lt (c - 48) 5) as (λ b. n ≤ cond b n (n + 1)) [ true ↦ omega arith | false ↦ omega arith ]

-- more digits make no smaller number
pub kept-grows : (places : ℕ) (cs : List ℕ) (n : ℕ) → n ≤ kept places cs n
unfolding kept
kept-grows places [] n = le-mul_of_pos_right n (ten_power_pos places)
kept-grows zero (c ∷ cs) n =
    elim (is_ascii_digit c) as (λ b. n ≤ cond b (rounded_by c n) (kept zero cs n)) [ true ↦ rounded_by-grows c n | false ↦ kept-grows zero cs n ]
kept-grows (suc places) (c ∷ cs) n =
    let more = kept-grows places cs (n * 10 + (c - 48)) in
    elim (is_ascii_digit c) as (λ b. n ≤ cond b (kept places cs (n * 10 + (c - 48))) (kept (suc places) cs n))
    [ true ↦ omega (arith, more) | false ↦ kept-grows (suc places) cs n ]

-- one byte of a text
module _ (c : ℕ) (cs : List ℕ) (n : ℕ) where
  kept-last : (places : ℕ) → is_ascii_digit c ≡ true → places ≡ 0 → kept places (c ∷ cs) n ≡ rounded_by c n
  unfolding kept
  kept-last zero e none = rw e refl
  kept-last (suc places) e none = absurd (omega arith)

  kept-digit : (places : ℕ) → is_ascii_digit c ≡ true → 0 < places → kept places (c ∷ cs) n ≡ kept (places - 1) cs (n * 10 + (c - 48))
  unfolding kept
  kept-digit zero e some = absurd (omega arith)
  kept-digit (suc places) e some =
      let less : places ≡ suc places - 1 = omega arith in
      rw e (ap (λ p. kept p cs (n * 10 + (c - 48))) less)

  kept-other : (places : ℕ) → is_ascii_digit c ≡ false → kept places (c ∷ cs) n ≡ kept places cs n
  unfolding kept
  kept-other zero e = rw e refl
  kept-other (suc places) e = rw e refl

-- one byte of a text at a place
module _ (text : List ℕ) (i left n : ℕ) (within : i < length text) where
  pub step-last : is_ascii_digit (get_or text i 0) ≡ true → left ≡ 0 → kept left (drop i text) n ≡ rounded_by (get_or text i 0) n
  step-last e none = ap (λ t. kept left t n) (drop_more text i 0 within) ∙ kept-last (get_or text i 0) (drop (i + 1) text) n left e none

  pub step-digit : is_ascii_digit (get_or text i 0) ≡ true → 0 < left
      → kept left (drop i text) n ≡ kept (left - 1) (drop (i + 1) text) (n * 10 + (get_or text i 0 - 48))
  step-digit e some = ap (λ t. kept left t n) (drop_more text i 0 within) ∙ kept-digit (get_or text i 0) (drop (i + 1) text) n left e some

  pub step-other : is_ascii_digit (get_or text i 0) ≡ false → kept left (drop i text) n ≡ kept left (drop (i + 1) text) n
  step-other e = ap (λ t. kept left t n) (drop_more text i 0 within) ∙ kept-other (get_or text i 0) (drop (i + 1) text) n left e

pub kept-end : (text : List ℕ) (i left n : ℕ) → length text ≤ i → kept left (drop i text) n ≡ n * 10 ^ left
unfolding kept
kept-end text i left n end = ap (λ t. kept left t n) (drop_all i text end)

regroup : (n unit : ℕ) → n * unit * 10 ≡ n * (10 * unit)
regroup n unit = omega arith

-- one more zero
pub shift-more : (n zeros : ℕ) → n * 10 ^ zeros * 10 ≡ n * 10 ^ (zeros + 1)
shift-more n zeros =
    let power : 10 ^ (zeros + 1) ≡ 10 * 10 ^ zeros = ap (λ k. 10 ^ k) (add-one zeros) ∙ pow-succ' 10 zeros in
    regroup n (10 ^ zeros) ∙ ap (λ p. n * p) (sym power)

-- more zeros make no smaller number
pub shift-grows : (n few many : ℕ) → few ≤ many → n * 10 ^ few ≤ n * 10 ^ many
shift-grows n few many h =
    mul-le-mul_left n (pow-le-pow_right {n = 10} (omega arith) {i = few} {j = many} h)

-- a bound on a number that is the same
pub within-same : (r : Option ℕ) (m n : ℕ) → m ≡ n → SomeIff r (m ≤ greatest) m → SomeIff r (n ≤ greatest) n
within-same r m n e h = subst (λ (k : ℕ). SomeIff r (k ≤ greatest) k) e h
