use Rattle.std.proofs.Common.{◌≡◌, ℕ, ◌+◌, ◌-◌, ◌/◌, ◌%◌, ◌^◌, [], ◌∷◌, ◌++◌, length, ap, sym, ◌∙◌, append-nil, append_assoc, length-append, arith}
use Rattle.quantities.specs.Texts.{digits_below, without_final_zeros}
use Rattle.quantities.proofs.Digits.{ten_power_pos, no_decimals, one_decimal}
use Rattle.quantities.proofs.texts.push_needed_decimals.Goals as goal

pub nonzero_rem-number : goal.nonzero_rem-number
nonzero_rem-number c = omega (arith, ten_power_pos)

pub returns-then-number-pow-eq0 : goal.returns-then-number-pow-eq0
returns-then-number-pow-eq0 c =
    let at : c.loop-place.place - 1 + 1 ≡ c.loop-place.place = omega arith in
    let none : c.args.number % 10 ^ c.loop-place.place ≡ 0 = cc in
    let empty = no_decimals c.loop-place.place c.args.number none in
    sym (append-nil c.loop-place.out.bytes) ∙ ap (λ t. c.loop-place.out.bytes ++ t) (sym empty) ∙ c.loop-place.invariant.0

pub loop-place-preserved : goal.loop-place-preserved
loop-place-preserved c =
    let place : ℕ = c.loop-place.place - 1 in
    let n = c.args.number in
    let before = c.loop-place.out.bytes in
    let at : place + 1 ≡ c.loop-place.place = omega arith in
    let some : n % 10 ^ (place + 1) ≡ 0 → ⊥ = λ e. c.if-number-pow-eq0.false (cc) in
    let joined : c.push_digit.new.out.bytes ++ without_final_zeros (digits_below place n)
    ≡ before ++ without_final_zeros (digits_below c.loop-place.place n) =
    ap (λ t. t ++ without_final_zeros (digits_below place n)) c.push_digit.ensures
    ∙ append_assoc before ((48 + n / 10 ^ place % 10) ∷ []) (without_final_zeros (digits_below place n))
    ∙ ap (λ t. before ++ t) (sym (one_decimal place n some))
    ∙ ap (λ k. before ++ without_final_zeros (digits_below k n)) at in
    (joined ∙ c.loop-place.invariant.0, omega (arith, ap length c.push_digit.ensures, length-append before ((48 + n / 10 ^ place % 10) ∷ [])))

pub returns : goal.returns
unfolding digits_below without_final_zeros
returns c =
    let last : 0 ≡ c.loop-place.place = omega arith in
    sym (append-nil c.loop-place.out.bytes)
    ∙ ap (λ k. c.loop-place.out.bytes ++ without_final_zeros (digits_below k c.args.number)) last
    ∙ c.loop-place.invariant.0
