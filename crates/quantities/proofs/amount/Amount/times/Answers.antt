use Rattle.std.proofs.Common.{◌≡◌, ℤ, ◌*ℤ◌, ap, sym, subst, ◌∙◌, to_z, of_z, FitsSigned}
use Rattle.std.specs.Int.{w128}
use Rattle.std.proofs.lemmas.Int.{to_z-of_z}
use Rattle.quantities.proofs.Products.{product-too_long}
use Rattle.quantities.proofs.amount.Amount.times.Goals as goal

pub returns-in-None : goal.returns-in-None
returns-in-None c =
    let first : to_z w128 (of_z w128 c.raw.result) ≡ c.args.self.now =
    to_z-of_z w128 c.raw.result (record { sfits = c.raw.type_inv }) ∙ c.raw.ensures.value in
    let second : to_z w128 (of_z w128 c.raw-2.result) ≡ c.args.other.now =
    to_z-of_z w128 c.raw-2.result (record { sfits = c.raw-2.type_inv }) ∙ c.raw-2.ensures.value in
    let product = ap (λ a. a *ℤ to_z w128 (of_z w128 c.raw-2.result)) first ∙ ap (λ b. c.args.self.now *ℤ b) second in
    sym (product-too_long c.args.self.now c.args.other.now (λ fits. c.in-None.ensures (subst (λ (z : ℤ). FitsSigned w128 z) (sym product) fits)))
