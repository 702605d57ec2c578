use Rattle.std.proofs.Common.{ℕ, ◌^◌, ◌<◌, ◌≤◌, arith}
use Rattle.std.proofs.Math.Nat.{pow-le-pow_right}
use Rattle.quantities.proofs.texts.number_of_digits.Goals as goal

-- a number of so few digits is below the power of ten of more places
below_power : (few places number : ℕ) → few ≤ places → number < 10 ^ few → number < 10 ^ places
below_power few places number h below =
    let more : 10 ^ few ≤ 10 ^ places = pow-le-pow_right {n = 10} (omega arith) {i = few} {j = places} h in
    omega arith

pub overflow_mul-number : goal.overflow_mul-number
overflow_mul-number c = omega (arith, below_power c.loop-byte.byte-index 30 c.loop-byte.number (omega arith) c.loop-byte.invariant.1)

pub overflow_add-number : goal.overflow_add-number
overflow_add-number c = omega (arith, below_power c.loop-byte.byte-index 30 c.loop-byte.number (omega arith) c.loop-byte.invariant.1)

pub returns-clause-bounded : goal.returns-clause-bounded
returns-clause-bounded c = omega (arith, below_power c.loop-byte.byte-index 31 c.loop-byte.number (omega arith) c.loop-byte.invariant.1)
