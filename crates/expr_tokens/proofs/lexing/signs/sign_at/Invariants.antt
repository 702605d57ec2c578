use Rattle.std.proofs.Common.{◌≡◌, drop, nat_eq}
use Rattle.std.specs.Prelude.{find}
use Rattle.std.specs.List.{starts_with}
use Rattle.expr_tokens.specs.Signs.{sign_text, signs}
use Rattle.expr_tokens.proofs.lexing.signs.sign_at.Given as goal

-- the signs that are left decide
abbrev pub invariant-loop-sign : goal.invariant-loop-sign
invariant-loop-sign l = find (λ s. starts_with nat_eq l.text (sign_text s)) (drop l.sign-index signs) ≡ find (λ s. starts_with nat_eq l.text (sign_text s)) signs
