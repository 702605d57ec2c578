-- A text is read as a path exactly where it is one as an expression.
use Rattle.std.specs.Prelude.{◌≡◌, ◌↔◌, ℕ, Bool, false, List, map, Some, Result, Ok, Err}
use Rattle.object_paths.specs.PathParts.{path_of}
use Rattle.object_paths.specs.declared.path.Path.{Path}
use Rattle.expr_tree.specs.Tree.{path}
use Rattle.expr_tokens.specs.declared.token.Placed.{Placed}
use Rattle.expr_tokens.specs.Kinds.{bracket_follows, tokens_of}
use Rattle.expr_tokens.specs.Lexemes.{lexed}
use Rattle.expr_grammar.specs.Parse.{Parses}
use Rattle.expr_grammar.specs.PathTokens.{IsPathOf}

-- the text is lexemes, and their tokens are those of the path
pub record HasPathTokens (text : List ℕ) (p : Path) : Type 0 where
  pub lexemes : List Placed
  pub spelled : lexed text ≡ Ok lexemes
  pub path : IsPathOf (tokens_of lexemes) p

-- the first lexeme is `(`
abbrev pub in_brackets : Result (List Placed) ℕ → Bool
in_brackets (Ok xs) = bracket_follows (map (λ x. x.lexeme) xs)
in_brackets (Err place) = false

-- a text is read as a path exactly where its tokens are those of the path
abbrev pub PathsHaveTokens : Type 0
PathsHaveTokens = (text : List ℕ) (p : Path) → (path_of text ≡ Some p) ↔ HasPathTokens text p

-- so exactly where it is the path as an expression, with no brackets round it
abbrev pub PathsAreExpressions : Type 0
PathsAreExpressions = (text : List ℕ) (p : Path) → (path_of text ≡ Some p) ↔ (Parses text (path p) × (in_brackets (lexed text) ≡ false))
