-- The inputs of a node, as the code reads them.
use Rattle.std.proofs.Common.{◌≡◌, ℕ, zero, suc, ◌<◌, ◌≤◌, List, [], ◌∷◌, length, get_or, Vec, refl, sym, ap, arith}
use Rattle.dependency_order.specs.Nodes.{inputs_of}

pub inputs_of_read : {A : Type 0} (inputs : List (Vec ℕ A)) (n : ℕ) (v : Vec ℕ A) → n < length inputs → v ≡ get_or inputs n v → inputs_of inputs n ≡ v.items
unfolding inputs_of
inputs_of_read [] n v h e = absurd (omega arith)
inputs_of_read {A} (w ∷ ws) zero v h e = ap (λ (u : Vec ℕ A). u.items) (sym e)
inputs_of_read (w ∷ ws) (suc n) v h e = inputs_of_read ws n v (omega arith) e

pub inputs_of_past : {A : Type 0} (inputs : List (Vec ℕ A)) (n : ℕ) → length inputs ≤ n → inputs_of inputs n ≡ []
unfolding inputs_of
inputs_of_past [] n h = refl
inputs_of_past (w ∷ ws) zero h = absurd (omega arith)
inputs_of_past (w ∷ ws) (suc n) h = inputs_of_past ws n (omega arith)
