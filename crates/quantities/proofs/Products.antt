-- A product that is too long for the code is out of range.
use Rattle.std.proofs.Common.{◌≡◌, ℕ, zero, suc, ◌^◌, ◌<◌, ◌≤◌, Bool, true, false, ℤ, pos, ◌*ℤ◌, Err, unsigned_abs, FitsSigned, inl, inr, refl, arith}
use Rattle.std.specs.Int.{w128}
use Rattle.std.proofs.lemmas.Int.{fits_signed_from_abs}
use Rattle.std.proofs.lemmas.Bool.{cases_lt}
use Rattle.std.proofs.lemmas.Bool.Decides.{nat_tests}
use Rattle.quantities.specs.declared.amount_fault.AmountFault.TheVariants.{Range}
use Rattle.quantities.specs.Amounts.{greatest, signed}
use Rattle.quantities.specs.Texts.{billion}
use Rattle.quantities.specs.Arithmetic.{bounded, near, nearest, times, differ_in_sign}

pub unsigned_abs-signed : (negative : Bool) (n : ℕ) → unsigned_abs (signed negative n) ≡ n
unsigned_abs-signed true zero = refl
unsigned_abs-signed true (suc n) = refl
unsigned_abs-signed false n = refl

pub bounded-above : (z : ℤ) → greatest < unsigned_abs z → bounded z ≡ Err Range
bounded-above z above = grind (arith, nat_tests)

long_from_misfit : (z : ℤ) → (FitsSigned w128 z → ⊥) → 2 ^ 127 ≤ unsigned_abs z
long_from_misfit z misfit =
    elim (cases_lt (unsigned_abs z) (2 ^ 127)) [ inl short ↦ absurd (misfit (fits_signed_from_abs w128 z short)) | inr long ↦ long ]

-- a product of more than 127 bits is out of range
pub product-too_long : (a b : ℤ) → (FitsSigned w128 (a *ℤ b) → ⊥) → times a b ≡ Err Range
unfolding nearest
product-too_long a b misfit =
    let product : ℕ = unsigned_abs (a *ℤ b) in
    let long : 2 ^ 127 ≤ product = long_from_misfit (a *ℤ b) misfit in
    let size : unsigned_abs (near (a *ℤ b) (pos billion)) ≡ nearest product billion =
    unsigned_abs-signed (differ_in_sign (a *ℤ b) (pos billion)) (nearest product billion) in
    bounded-above (near (a *ℤ b) (pos billion)) (omega arith)
