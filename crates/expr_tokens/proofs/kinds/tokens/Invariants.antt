use Rattle.std.proofs.Common.{◌≡◌, ◌++◌, map, length}
use Rattle.expr_tokens.specs.Kinds.{kinds, tokens_of}
use Rattle.expr_tokens.proofs.kinds.tokens.Given as goal

-- the tokens so far, and those of what is left, are those of all lexemes
abbrev pub invariant-loop-rest : goal.invariant-loop-rest
invariant-loop-rest l = l.tokens.items ++ kinds l.behind_point (map (λ x. x.lexeme) l.rest) ≡ tokens_of l.lexemes

abbrev pub decreases-loop-rest : goal.decreases-loop-rest
decreases-loop-rest l = length l.rest
