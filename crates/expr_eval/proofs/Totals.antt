-- A total stops at the first sum that is no amount.
use Rattle.std.proofs.Common.{◌≡◌, ℕ, ◌+◌, ◌<◌, ℤ, List, [], ◌∷◌, Ok, Err, length, get_or, drop, fold, refl, ap, ◌∙◌, drop-cons, add-one}
use Rattle.quantities.specs.declared.amount_fault.AmountFault.{AmountFault}
use Rattle.quantities.specs.declared.quantity.Quantity.{Quantity}
use Rattle.quantities.specs.Arithmetic.{Calculated, plus}
use Rattle.expr_eval.specs.Aggregates.{amounts, plus_more}

stays : (fault : AmountFault) (xs : List ℤ) → fold plus_more (Err fault) xs ≡ Err fault
stays fault [] = refl
stays fault (x ∷ xs) = stays fault xs

pub total-stops : (sum : ℤ) (qs : List Quantity) (i : ℕ) (q : Quantity) (fault : AmountFault) → i < length qs → q ≡ get_or qs i q → plus sum q.amount ≡ Err fault
    → fold plus_more (Ok sum) (amounts (drop i qs)) ≡ Err fault
total-stops sum qs i q fault lt at over =
    let step : drop i qs ≡ q ∷ drop (i + 1) qs = rw (add-one, drop-cons qs i q lt, ← at) in
    rw step (ap (λ (r : Calculated). fold plus_more r (amounts (drop (i + 1) qs))) over ∙ stays fault (amounts (drop (i + 1) qs)))
