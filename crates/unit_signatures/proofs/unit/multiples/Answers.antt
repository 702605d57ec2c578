use Rattle.std.proofs.Common.{◌≡◌, pos, ◌*ℤ◌, length, get_or, FitsSigned, ap, sym, to_z, of_z, ◌∙◌, rules, arith}
use Rattle.std.specs.Int.{w8}
use Rattle.std.proofs.lemmas.Int.{to_z-of_z}
use Rattle.std.proofs.lemmas.List.{length-set}
use Rattle.unit_signatures.proofs.Exponents.{mapped, calculated, filled-more, product_fits}
use Rattle.unit_signatures.proofs.unit.multiples.Goals as goal

pub loop-i-preserved : goal.loop-i-preserved
loop-i-preserved c =
    let left : FitsSigned w8 (get_or c.args.exponents.now c.loop-i.i (pos 0)) = search rules in
    let same : to_z w8 (of_z w8 c.args.n) ≡ c.args.n = to_z-of_z w8 c.args.n c.ranges.n in (
      length-set c.loop-i.multiples c.loop-i.i _ ∙ c.loop-i.invariant.0,
      filled-more (λ k. get_or c.args.exponents.now k (pos 0) *ℤ to_z w8 (of_z w8 c.args.n)) c.loop-i.multiples c.loop-i.i _ (omega arith)
          (calculated (λ a b. a *ℤ b) (get_or c.args.exponents.now c.loop-i.i (pos 0)) c.args.n
          c.from.result c.from-in-loop-i.result left c.ranges.n (product_fits _ _ left c.ranges.n) c.from.ensures c.from-in-loop-i.ensures
          ∙ ap (λ m. get_or c.args.exponents.now c.loop-i.i (pos 0) *ℤ m) (sym same))
          c.loop-i.invariant.1,
    )

pub returns : goal.returns
returns c =
    let left : length c.args.exponents.now ≡ 8 = search rules in
    mapped (λ a. a *ℤ c.args.n) c.args.exponents.now c.loop-i.multiples (omega arith) (λ k below. c.loop-i.invariant.1 k (omega arith) ∙ ap (λ m. get_or c.args.exponents.now k (pos 0) *ℤ m) (to_z-of_z w8 c.args.n c.ranges.n))
