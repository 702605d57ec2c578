use Rattle.std.proofs.Common.{◌≡◌, pos, ◌+ℤ◌, length, get_or, FitsSigned, ◌∙◌, rules, arith}
use Rattle.std.specs.Int.{w8}
use Rattle.std.proofs.lemmas.List.{length-set}
use Rattle.unit_signatures.proofs.Exponents.{zipped, calculated, filled-more, sum_fits}
use Rattle.unit_signatures.proofs.unit.sums.Goals as goal

pub loop-i-preserved : goal.loop-i-preserved
loop-i-preserved c =
    let left : FitsSigned w8 (get_or c.args.left.now c.loop-i.i (pos 0)) = search rules in
    let right : FitsSigned w8 (get_or c.args.right.now c.loop-i.i (pos 0)) = search rules in (
      length-set c.loop-i.sums c.loop-i.i _ ∙ c.loop-i.invariant.0,
      filled-more (λ k. get_or c.args.left.now k (pos 0) +ℤ get_or c.args.right.now k (pos 0)) c.loop-i.sums c.loop-i.i _ (omega arith)
          (calculated (λ a b. a +ℤ b) (get_or c.args.left.now c.loop-i.i (pos 0)) (get_or c.args.right.now c.loop-i.i (pos 0))
          c.from.result c.from-in-loop-i.result left right (sum_fits _ _ left right) c.from.ensures c.from-in-loop-i.ensures)
          c.loop-i.invariant.1,
    )

pub returns : goal.returns
returns c =
    let left : length c.args.left.now ≡ 8 = search rules in
    let right : length c.args.right.now ≡ 8 = search rules in
    zipped (λ a b. a +ℤ b) c.args.left.now c.args.right.now c.loop-i.sums (omega arith) (omega arith) (λ k below. c.loop-i.invariant.1 k (omega arith))
