use Rattle.std.proofs.Common.{◌≡◌, map, length}
use Rattle.expr_tokens.specs.FirstReference.{first_reference_among}
use Rattle.expr_tokens.proofs.first_reference.place_of_reference.Given as goal

-- what is left decides
abbrev pub invariant-loop-lexemes : goal.invariant-loop-lexemes
invariant-loop-lexemes l =
    first_reference_among (map (λ x. x.place) l.lexemes) l.tokens ≡ first_reference_among (map (λ x. x.place) l.fn.lexemes) l.fn.tokens

abbrev pub decreases-loop-lexemes : goal.decreases-loop-lexemes
decreases-loop-lexemes l = length l.lexemes
