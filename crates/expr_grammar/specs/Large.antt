-- Which expressions are too large to be read again.
use Rattle.std.specs.Prelude.{ℕ, Bool, false, List, is_some, Result, Ok, Err}
use Rattle.expr_tokens.specs.declared.token.Placed.{Placed}
use Rattle.expr_tokens.specs.Lexemes.{lexed}
use Rattle.expr_tokens.specs.Limits.{excess}
use Rattle.expr_grammar.specs.Printed.{printed}
use Rattle.expr_tree.specs.Tree.{Tree}

-- lexemes with one token too many, or one bracket open too many
abbrev pub are_too_many : Result (List Placed) ℕ → Bool
are_too_many (Ok lexemes) = is_some (excess lexemes)
are_too_many (Err place) = false

-- an expression whose printed form is too large
abbrev pub is_too_large : Tree → Bool
is_too_large e = are_too_many (lexed (printed e))
