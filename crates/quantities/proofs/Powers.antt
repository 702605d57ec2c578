-- Powers step by step.
use Rattle.std.proofs.Common.{◌≡◌, ℕ, zero, suc, ◌+◌, ◌-◌, ◌≤◌, ℤ, Ok, Err, sym, ◌∙◌, ap, add-one, arith}
use Rattle.quantities.specs.declared.amount_fault.AmountFault.{AmountFault}
use Rattle.quantities.specs.Arithmetic.{Calculated, repeated, times_more, times}

-- one more step from a power that is there
pub repeated-more : (a : ℤ) (n : ℕ) (power : ℤ) (next : Calculated) → repeated a n ≡ Ok power → next ≡ times power a → repeated a (n + 1) ≡ next
unfolding repeated
repeated-more a n power next e step = ap (λ k. repeated a k) (add-one n) ∙ ap (λ p. times_more a p) e ∙ sym step

failed-more : (a : ℤ) (n : ℕ) (fault : AmountFault) (more : ℕ) → repeated a n ≡ Err fault → repeated a (more + n) ≡ Err fault
unfolding repeated
failed-more a n fault zero e = let none : 0 + n ≡ n = omega arith in ap (λ k. repeated a k) none ∙ e
failed-more a n fault (suc more) e =
    let next : suc more + n ≡ suc (more + n) = omega arith in
    ap (λ k. repeated a k) next ∙ ap (λ p. times_more a p) (failed-more a n fault more e)

-- a step that fails decides the power
pub repeated-failed : (a : ℤ) (n times : ℕ) (fault : AmountFault) → n ≤ times → repeated a n ≡ Err fault → repeated a times ≡ Err fault
repeated-failed a n times fault within e =
    let gap : times - n + n ≡ times = omega arith in
    ap (λ k. repeated a k) (sym gap) ∙ failed-more a n fault (times - n) e
