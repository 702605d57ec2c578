-- Rounding gives the nearest whole number, and of two the one of greater size.
use Rattle.std.proofs.Common.{◌≡◌, ◌≢◌, ℕ, zero, suc, ◌+◌, ◌*◌, ◌%◌, ◌<◌, ◌≤◌, Bool, true, false, cond, not, ℤ, pos, negsuc, ◌-ℤ◌, ◌*ℤ◌, neg_ℤ, unsigned_abs, refl, ap, sym, ◌∙◌, arith}
use Rattle.std.proofs.Math.Nat.{div-add-mod, mod-lt}
use Rattle.std.proofs.lemmas.Int.{unsigned_abs-mul, ints}
use Rattle.std.proofs.Math.IntN.{zero-*ℤ, *ℤ-zero, pos-*ℤ-pos, pos-*ℤ-negsuc, negsuc-*ℤ-pos, negsuc-*ℤ-negsuc}
use Rattle.std.proofs.lemmas.Nat.{le-div}
use Rattle.std.specs.Int.{is_negative}
use Rattle.quantities.specs.Amounts.{signed}
use Rattle.quantities.specs.Arithmetic.{near, nearest, differ_in_sign}
use Rattle.quantities.specs.Nearness.{IsWithinHalf, NearIsNearest}
use Rattle.quantities.proofs.Products.{unsigned_abs-signed}
use Rattle.quantities.proofs.ReadLemmas.{signed-parts}

-- a difference is no less than what one is longer than the other
longer : (a b : ℤ) → unsigned_abs b ≤ unsigned_abs a + unsigned_abs (a -ℤ b)
longer (pos m) (pos n) = omega (arith, ints)
longer (pos m) (negsuc n) = omega (arith, ints)
longer (negsuc m) (pos n) = omega (arith, ints)
longer (negsuc m) (negsuc n) = omega (arith, ints)

-- the distance of two numbers of one sign is that of their sizes
apart : (s : Bool) (m n k : ℕ) → 2 * n ≤ 2 * m + k → 2 * m ≤ 2 * n + k → 2 * unsigned_abs (signed s m -ℤ signed s n) ≤ k
apart true m n k h g = omega (arith, ints)
apart false m n k h g = omega (arith, ints)

times-none : (m : ℕ) → 0 ≡ m * 0
times-none m = omega arith

none-times : (n : ℕ) → 0 ≡ 0 * n
none-times n = omega arith

-- the product of a divisor and the number to which it is rounded has the sign of the dividend
product-signed : (a b : Bool) (m n : ℕ) → signed b m *ℤ signed (cond a (not b) b) n ≡ signed a (m * n)
product-signed true true zero n = zero-*ℤ (pos n) ∙ ap (λ k. neg_ℤ (pos k)) (none-times n)
product-signed true true (suc m) n = negsuc-*ℤ-pos m n
product-signed true false m zero = *ℤ-zero (pos m) ∙ ap (λ k. neg_ℤ (pos k)) (times-none m)
product-signed true false m (suc n) = pos-*ℤ-negsuc m n
product-signed false true zero n = zero-*ℤ (neg_ℤ (pos n)) ∙ ap pos (none-times n)
product-signed false true (suc m) zero = *ℤ-zero (negsuc m) ∙ ap pos (times-none (suc m))
product-signed false true (suc m) (suc n) = negsuc-*ℤ-negsuc m n
product-signed false false m n = pos-*ℤ-pos m n

-- the rounded quotient of sizes is at most half from the quotient
module _ (p q : ℕ) (some : 0 < q) where
  parts : 2 * q * nearest p q + (2 * p + q) % (2 * q) ≡ 2 * p + q
  unfolding nearest
  parts = div-add-mod (2 * p + q) (2 * q)

  rest-below : (2 * p + q) % (2 * q) < 2 * q
  rest-below = mod-lt (2 * p + q) (omega arith)

  above : 2 * (q * nearest p q) ≤ 2 * p + q
  above = omega (arith, parts)

  below : 2 * p ≤ 2 * (q * nearest p q) + q
  below = omega (arith, parts, rest-below)

  most : (m : ℕ) → 2 * (q * m) ≤ 2 * p + q → m ≤ nearest p q
  unfolding nearest
  most m h = le-div m (2 * p + q) (2 * q) (omega arith) (omega arith)

size-some : (q : ℤ) → q ≢ pos 0 → 0 < unsigned_abs q
size-some (pos zero) some = absurd (some refl)
size-some (pos (suc n)) some = omega arith
size-some (negsuc n) some = omega arith

product-near : (p q : ℤ) → q *ℤ near p q ≡ signed (is_negative p) (unsigned_abs q * nearest (unsigned_abs p) (unsigned_abs q))
product-near p q =
    let n : ℕ = nearest (unsigned_abs p) (unsigned_abs q) in
    ap (λ z. z *ℤ near p q) (sym (signed-parts q)) ∙ product-signed (is_negative p) (is_negative q) (unsigned_abs q) n

close : (p q : ℤ) → q ≢ pos 0 → IsWithinHalf p q (near p q)
close p q some =
    let n : ℕ = nearest (unsigned_abs p) (unsigned_abs q) in
    let size = size-some q some in
    let same : unsigned_abs (p -ℤ q *ℤ near p q) ≡ unsigned_abs (signed (is_negative p) (unsigned_abs p) -ℤ signed (is_negative p) (unsigned_abs q * n)) =
    ap (λ z. unsigned_abs (p -ℤ z)) (product-near p q) ∙ ap (λ z. unsigned_abs (z -ℤ signed (is_negative p) (unsigned_abs q * n))) (sym (signed-parts p)) in
    omega (arith, same, apart (is_negative p) (unsigned_abs p) (unsigned_abs q * n) (unsigned_abs q) (above (unsigned_abs p) (unsigned_abs q) size) (below (unsigned_abs p) (unsigned_abs q) size))

no-greater : (p q : ℤ) → q ≢ pos 0 → (m : ℤ) → IsWithinHalf p q m → unsigned_abs m ≤ unsigned_abs (near p q)
no-greater p q some m within =
    let n : ℕ = nearest (unsigned_abs p) (unsigned_abs q) in
    let size : unsigned_abs (near p q) ≡ n = unsigned_abs-signed (differ_in_sign p q) n in
    let product : unsigned_abs (q *ℤ m) ≡ unsigned_abs q * unsigned_abs m = unsigned_abs-mul q m in
    let triangle = longer p (q *ℤ m) in
    let bound : unsigned_abs m ≤ n = most (unsigned_abs p) (unsigned_abs q) (size-some q some) (unsigned_abs m) (omega (arith, product, triangle, within)) in
    omega (arith, size, bound)

pub near-nearest : NearIsNearest
near-nearest p q some = record { within_half = close p q some; greatest = no-greater p q some }
