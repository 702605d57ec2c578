-- What is calculated from amounts is an amount, or a fault.
use Rattle.std.proofs.Common.{◌≡◌, ℕ, zero, suc, ◌<◌, true, false, cond, eqb, nat_le, ℤ, pos, negsuc, ◌*ℤ◌, neg_ℤ, unsigned_abs, int_rem, Ok, Err, IfOk, refl, arith}
use Rattle.std.specs.Int.{is_negative}
use Rattle.std.proofs.lemmas.Bool.{leb-true, eqb-false}
use Rattle.std.proofs.lemmas.Int.{rem_below}
use Rattle.quantities.specs.declared.amount_fault.AmountFault.TheVariants.{Range, DivideByZero}
use Rattle.quantities.specs.Amounts.{IsAmount, greatest, signed}
use Rattle.quantities.specs.Texts.{billion}
use Rattle.quantities.specs.Arithmetic.{Calculated, bounded, near, times, over, modulo, times_more, repeated, inverse, power, whole_below, whole_above, floor, ceil}
use Rattle.expr_tree.specs.declared.functions.FunctionOp.{FunctionOp}
use Rattle.expr_tree.specs.declared.functions.FunctionOp.TheVariants.{Abs, Ceil, Floor, Round, Trunc}
use Rattle.expr_eval.specs.Numbers.{function_on}

abbrev pub IsAmountOrFault : Calculated → Type 0
IsAmountOrFault c = IfOk c IsAmount

pub zero-amount : IsAmount (pos 0)
zero-amount = omega arith

pub bounded-amount : (z : ℤ) → IsAmountOrFault (bounded z)
bounded-amount z =
    elim (nat_le (unsigned_abs z) greatest) as (λ b. nat_le (unsigned_abs z) greatest ≡ b → IsAmountOrFault (cond b (Ok z) (Err Range))) [
      | true ↦ λ e. leb-true (unsigned_abs z) greatest e
      | false ↦ λ e. tt
    ] refl

pub times-amount : (a b : ℤ) → IsAmountOrFault (times a b)
times-amount a b = bounded-amount (near (a *ℤ b) (pos billion))

pub over-amount : (a b : ℤ) → IsAmountOrFault (over a b)
over-amount a b =
    elim (eqb (unsigned_abs b) 0) as (λ t. IsAmountOrFault (cond t (Err DivideByZero) (bounded (near (a *ℤ pos billion) b)))) [
      | true ↦ tt
      | false ↦ bounded-amount (near (a *ℤ pos billion) b)
    ]

-- what is left of a division is below the divisor
remainder-amount : (a b : ℤ) → IsAmount b → (unsigned_abs b ≡ 0 → ⊥) → IsAmount (int_rem a b)
remainder-amount a b within some = let positive : 0 < unsigned_abs b = omega arith in omega (arith, rem_below a b positive)

pub modulo-amount : (a b : ℤ) → IsAmount b → IsAmountOrFault (modulo a b)
modulo-amount a b within =
    elim (eqb (unsigned_abs b) 0) as (λ t. eqb (unsigned_abs b) 0 ≡ t → IsAmountOrFault (cond t (Err DivideByZero) (Ok (int_rem a b)))) [
      | true ↦ λ e. tt
      | false ↦ λ e. remainder-amount a b within (eqb-false (unsigned_abs b) 0 e)
    ] refl

-- powers
more-amount : (a : ℤ) (c : Calculated) → IsAmountOrFault (times_more a c)
more-amount a (Ok power) = times-amount power a
more-amount a (Err fault) = tt

repeated-amount : (a : ℤ) (n : ℕ) → IsAmountOrFault (repeated a n)
unfolding repeated
repeated-amount a zero = omega arith
repeated-amount a (suc n) = more-amount a (repeated a n)

inverse-amount : (c : Calculated) → IsAmountOrFault (inverse c)
inverse-amount (Ok power) = over-amount (pos billion) power
inverse-amount (Err fault) = tt

pub power-amount : (a n : ℤ) → IsAmountOrFault (power a n)
power-amount a (pos n) = repeated-amount a n
power-amount a (negsuc n) = inverse-amount (repeated a (suc n))

-- functions of one number
floor-amount : (a : ℤ) → IsAmountOrFault (floor a)
floor-amount (pos n) = bounded-amount (pos (whole_below n))
floor-amount (negsuc n) = bounded-amount (neg_ℤ (pos (whole_above (suc n))))

ceil-amount : (a : ℤ) → IsAmountOrFault (ceil a)
ceil-amount (pos n) = bounded-amount (pos (whole_above n))
ceil-amount (negsuc n) = bounded-amount (neg_ℤ (pos (whole_below (suc n))))

pub function-amount : (op : FunctionOp) (a : ℤ) → IsAmountOrFault (function_on op a)
function-amount Abs a = bounded-amount (pos (unsigned_abs a))
function-amount Ceil a = ceil-amount a
function-amount Floor a = floor-amount a
function-amount Round a = bounded-amount (near a (pos billion) *ℤ pos billion)
function-amount Trunc a = bounded-amount (signed (is_negative a) (whole_below (unsigned_abs a)))
