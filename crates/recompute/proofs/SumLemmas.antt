-- Sums over lists of numbers.
use Rattle.std.proofs.Common.{◌≡◌, ℕ, suc, ◌+◌, ◌<◌, List, length, drop, get_or, ◌∙◌, ap, arith}
use Rattle.std.specs.List.{sum_by}
use Rattle.std.proofs.lemmas.List.Sums.{sum_by-cons}
use Rattle.std.proofs.Math.Seq.{drop-cons}

-- what is left from a place on is what stands there and what is left from the next place on
pub sum_by-drop : (f : ℕ → ℕ) (xs : List ℕ) (i : ℕ) → i < length xs → sum_by f (drop i xs) ≡ f (get_or xs i 0) + sum_by f (drop (i + 1) xs)
sum_by-drop f xs i more =
    ap (sum_by f) (drop-cons xs i 0 more) ∙ sum_by-cons f (get_or xs i 0) (drop (suc i) xs) ∙ ap (λ (k : ℕ). f (get_or xs i 0) + sum_by f (drop k xs)) (let e : suc i ≡ i + 1 = omega arith in e)
