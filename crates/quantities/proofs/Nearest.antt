-- The nearest whole number to a quotient.
use Rattle.std.proofs.Common.{◌≡◌, ℕ, ◌+◌, ◌-◌, ◌*◌, ◌/◌, ◌%◌, ◌<◌, ◌≤◌, refl, sym, ◌∙◌, ap, arith}
use Rattle.std.proofs.Math.Nat.{div-add-mod, mod-lt}
use Rattle.std.proofs.lemmas.Nat.{div-mul-add}
use Rattle.quantities.specs.Arithmetic.{nearest}

-- the quotient q times k and a rest, doubled
pub doubled : (q k r rest : ℕ) → q + 2 * r ≡ rest → 2 * (q * k + r) + q ≡ k * (2 * q) + rest
doubled q k r rest e = omega arith

pub doubled_more : (q k r rest : ℕ) → 2 * r ≡ q + rest → 2 * (q * k + r) + q ≡ (k + 1) * (2 * q) + rest
doubled_more q k r rest e = omega arith

-- with less than half a divisor left, it is the quotient
pub nearest-down : (p q : ℕ) → 2 * (p % q) < q → nearest p q ≡ p / q
unfolding nearest
nearest-down p q less =
    ap (λ n. (2 * n + q) / (2 * q)) (sym (div-add-mod p q))
    ∙ ap (λ n. n / (2 * q)) (doubled q (p / q) (p % q) (q + 2 * (p % q)) refl)
    ∙ div-mul-add (p / q) (2 * q) (q + 2 * (p % q)) (omega arith)

-- with half a divisor left or more, it is one more
pub nearest-up : (p q : ℕ) → 0 < q → q ≤ 2 * (p % q) → nearest p q ≡ p / q + 1
unfolding nearest
nearest-up p q some more =
    let rest : ℕ = 2 * (p % q) - q in
    let below : p % q < q = mod-lt p some in
    ap (λ n. (2 * n + q) / (2 * q)) (sym (div-add-mod p q))
    ∙ ap (λ n. n / (2 * q)) (doubled_more q (p / q) (p % q) rest (omega arith))
    ∙ div-mul-add (p / q + 1) (2 * q) rest (omega arith)
