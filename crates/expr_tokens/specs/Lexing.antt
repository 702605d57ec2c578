-- What the reader of lexemes answers.
use Rattle.std.specs.Prelude.{◌≡◌, ℕ, List, Result, Ok, Err, Vec}
use Rattle.expr_tokens.specs.declared.lexing.LexFault.{LexFault}
use Rattle.expr_tokens.specs.declared.lexing.LexFault.TheVariants.{Place, Memory}
use Rattle.expr_tokens.specs.declared.token.Placed.{Placed}

-- the lexemes that are expected, the place where none begins, or want of memory
abbrev pub GivesLexed : {A : Type 0} → Result (Vec Placed A) LexFault → Result (List Placed) ℕ → Type 0
GivesLexed (Ok xs) expected = expected ≡ Ok (xs.items)
GivesLexed (Err (Place place)) expected = expected ≡ Err place
GivesLexed (Err (Memory error)) expected = Unit {0}
