use Rattle.std.proofs.Common.{◌≡◌, ℤ, length, ap, sym, subst, ◌∙◌, Some, to_z, of_z, arith}
use Rattle.std.proofs.lemmas.Int.{to_z-of_z}
use Rattle.std.specs.Int.{w128}
use Rattle.quantities.specs.Amounts.{IsAmount, signed}
use Rattle.quantities.specs.Digits.{begins_with_minus}
use Rattle.quantities.specs.Texts.{nine_text}
use Rattle.quantities.proofs.ReadLemmas.{length-nine_text, nine_text-read}
use Rattle.quantities.proofs.amount.Amount.of_digits.Goals as goal
use Rattle.quantities.proofs.amount.Amount.of_digits.Goals.{After-with_sign}

pub returns-then-text-gt31 : goal.returns-then-text-gt31
returns-then-text-gt31 c = λ a bounded e. absurd (omega (arith, ap length e, length-nine_text a bounded))

-- what was read is the amount whose text it is
raw_is : (c : After-with_sign) (a : ℤ) → IsAmount a → c.args.text.now ≡ nine_text a → to_z w128 (of_z w128 c.with_sign.result) ≡ a
raw_is c a bounded e =
    to_z-of_z w128 c.with_sign.result (record { sfits = c.with_sign.type_inv }) ∙ c.with_sign.ensures
    ∙ ap (λ b. signed b c.number_of_digits.result) c.begins_with_minus.ensures
    ∙ ap (λ n. signed (begins_with_minus c.args.text.now) n) c.number_of_digits.ensures.value
    ∙ nine_text-read a bounded c.args.text.now e

pub returns-in-Ok : goal.returns-in-Ok
returns-in-Ok c = λ a bounded e. ap Some (c.in-Ok.ensures.1 ∙ raw_is (goal.at.returns-in-Ok c).After-with_sign a bounded e)

pub returns-in-Err : goal.returns-in-Err
returns-in-Err c = λ a bounded e.
    absurd (c.in-Err.ensures (subst IsAmount (sym (raw_is (goal.at.returns-in-Err c).After-with_sign a bounded e)) bounded))
