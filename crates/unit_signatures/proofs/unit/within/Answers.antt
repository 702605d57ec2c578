use Rattle.std.proofs.Common.{◌≡◌, true, pos, length, take, get_or, ap, sym, ◌∙◌, add-one, refl, FitsSigned, rules, arith}
use Rattle.std.specs.Int.{w16}
use Rattle.std.specs.List.{list_all}
use Rattle.std.proofs.lemmas.List.{length-set, take_all}
use Rattle.unit_signatures.specs.Units.{is_exponent}
use Rattle.unit_signatures.proofs.Exponents.{list_all-more, taken-more, taken-all, narrowed}
use Rattle.unit_signatures.proofs.unit.within.Goals as goal
use Rattle.unit_signatures.proofs.unit.within.Goals.{After-loop-i}

pub loop-i-preserved : goal.loop-i-preserved
loop-i-preserved c =
    let wide : FitsSigned w16 (get_or c.args.exponents c.loop-i.i (pos 0)) = search rules in
    let eight : length c.args.exponents ≡ 8 = search rules in
    let passed = narrowed (get_or c.args.exponents c.loop-i.i (pos 0)) wide (sym c.is_exponent.ensures ∙ c.if-not-is_exponent.false) in (
      length-set c.loop-i.narrow c.loop-i.i _ ∙ c.loop-i.invariant.0,
      taken-more c.args.exponents c.loop-i.narrow c.loop-i.i _ (omega arith) (omega arith) c.loop-i.invariant.1 passed.0,
      ap (λ n. list_all is_exponent (take n c.args.exponents)) (add-one c.loop-i.i)
          ∙ list_all-more is_exponent c.args.exponents c.loop-i.i (pos 0) (omega arith) c.loop-i.invariant.2 passed.1,
    )

-- at the end all is taken over, and has passed
same_at_end : (c : After-loop-i) → c.loop-i.narrow ≡ c.args.exponents
same_at_end c =
    let eight : length c.args.exponents ≡ 8 = search rules in
    taken-all c.args.exponents c.loop-i.narrow c.loop-i.i (omega arith) (omega arith) c.loop-i.invariant.1

passed_at_end : (c : After-loop-i) → list_all is_exponent c.args.exponents ≡ true
passed_at_end c =
    let eight : length c.args.exponents ≡ 8 = search rules in
    ap (λ t. list_all is_exponent t) (sym (take_all c.loop-i.i c.args.exponents (omega arith))) ∙ c.loop-i.invariant.2

pub invariant_of-result : goal.invariant_of-result
invariant_of-result c =
    let passes : list_all is_exponent c.loop-i.narrow ≡ true = ap (λ t. list_all is_exponent t) (same_at_end c) ∙ passed_at_end c in
    record { eight = c.loop-i.invariant.0; each = passes }

pub returns : goal.returns
returns c = rw (same_at_end c, passed_at_end c) refl
