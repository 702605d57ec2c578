use Rattle.std.proofs.Common.{ℤ, sym, ◌∙◌, subst, rules}
use Rattle.std.specs.Int.{w128}
use Rattle.std.proofs.lemmas.Int.{to_z-of_z}
use Rattle.quantities.specs.Amounts.{IsAmount}
use Rattle.expr_eval.proofs.UnitAmounts.{unit_named-amount}
use Rattle.expr_eval.proofs.numbers.unit_number.Goals as goal

-- a factor of the table is an amount
pub returns-in-Err : goal.returns-in-Err
returns-in-Err c =
    let amount = unit_named-amount c.args.name.now (c.in_ok-factor.factor, c.in_ok-factor.unit) (sym c.unit_named.ensures ∙ c.in_ok-factor.was) in
    let same = to_z-of_z w128 c.in_ok-factor.factor (search rules) in
    absurd (c.in-Err.ensures (subst (λ (z : ℤ). IsAmount z) (sym same) amount))
