use Rattle.std.proofs.Common.{◌≡◌, false, [], length, ap, sym, ◌∙◌, arith}
use Rattle.quantities.specs.declared.mark.Mark.TheVariants.{Exponent}
use Rattle.quantities.specs.Decimals.{is_mantissa, mantissa, has_exponent, without_sign, size_of}
use Rattle.quantities.proofs.DecimalLemmas.{behind-none, decimal-mantissa, decimal-exponent}
use Rattle.quantities.proofs.ScalingLemmas.{within-same}
use Rattle.quantities.proofs.decimal.size.Goals as goal

pub size_of-requires-clause-mantissa : goal.size_of-requires-clause-mantissa
size_of-requires-clause-mantissa c = ap is_mantissa c.parts.ensures.mantissa ∙ decimal-mantissa c.args.text.now c.requires

pub size_of-requires-clause-short : goal.size_of-requires-clause-short
size_of-requires-clause-short c =
    let same = rw c.in-Some.is at c.parts.ensures.exponent in
    omega (arith, ap length same.1, decimal-exponent c.args.text.now c.requires)

pub size_of-requires-in-None-clause-mantissa : goal.size_of-requires-in-None-clause-mantissa
size_of-requires-in-None-clause-mantissa c = ap is_mantissa c.parts.ensures.mantissa ∙ decimal-mantissa c.args.text.now c.requires

pub returns-in-None : goal.returns-in-None
returns-in-None c =
    let none : has_exponent c.args.text.now ≡ false = rw c.in-None.is at c.parts.ensures.exponent in
    within-same c.size_of-in-None.result _ _
    (ap (λ m. size_of m []) c.parts.ensures.mantissa
    ∙ ap (λ e. size_of (mantissa c.args.text.now) e) (sym (behind-none Exponent (without_sign c.args.text.now) none)))
    c.size_of-in-None.ensures
