use Rattle.std.proofs.Common.{List, ℤ, codes, ap, ◌∙◌}
use Rattle.unit_signatures.specs.UnitTexts.{unit_text}
use Rattle.unit_signatures.proofs.Exponents.{exponent-at}
use Rattle.unit_signatures.proofs.Factors.{step, written_parts}
use Rattle.unit_signatures.proofs.unit.Unit.write.Goals as goal

pub returns : goal.returns
returns c =
    let es : List ℤ = c.self.inside.exponents in
    let each = c.self.invariant.each in
    let mm = step _ _ _ (codes "mm") _ _ c.push_factor.ensures.text c.requires (exponent-at es 0 each) in
    let kg = step _ _ _ (codes "kg") _ _ c.push_factor-2.ensures.text mm (exponent-at es 1 each) in
    let s = step _ _ _ (codes "s") _ _ c.push_factor-3.ensures.text kg (exponent-at es 2 each) in
    let A = step _ _ _ (codes "A") _ _ c.push_factor-4.ensures.text s (exponent-at es 3 each) in
    let K = step _ _ _ (codes "K") _ _ c.push_factor-5.ensures.text A (exponent-at es 4 each) in
    let mol = step _ _ _ (codes "mol") _ _ c.push_factor-6.ensures.text K (exponent-at es 5 each) in
    let cd = step _ _ _ (codes "cd") _ _ c.push_factor-7.ensures.text mol (exponent-at es 6 each) in
    let deg = step _ _ _ (codes "deg") _ _ c.push_factor-8.ensures.text cd (exponent-at es 7 each) in
    deg ∙ written_parts es c.self.invariant.eight ∙ ap unit_text c.self.view_is
