-- Brackets stand in a printed form where its tree needs them.
use Rattle.std.specs.Prelude.{◌≡◌, ◌↔◌, List, Ok, IsTrue}
use Rattle.expr_tokens.specs.declared.token.Placed.{Placed}
use Rattle.expr_grammar.specs.Grammar.{Level, HasTree}
use Rattle.expr_tokens.specs.Kinds.{tokens_of}
use Rattle.expr_tokens.specs.Lexemes.{lexed}
use Rattle.expr_grammar.specs.Printed.{fits, printed}
use Rattle.expr_tree.specs.Spelled.{IsSpelled}
use Rattle.expr_tree.specs.Tree.{Tree}
use Rattle.expr_grammar.specs.TreeTokens.{tree_tokens}

-- the printed form of a tree is its tokens
abbrev pub PrintedFormHasTokens : Type 0
PrintedFormHasTokens = (t : Tree) → IsSpelled t → (xs : List Placed) × ((lexed (printed t) ≡ Ok xs) × (tokens_of xs ≡ tree_tokens t))

-- the tokens of a part have its tree at a level exactly where it is printed there without brackets
abbrev pub BracketsAreNeeded : Type 0
BracketsAreNeeded = (l : Level) (t : Tree) → IsSpelled t → IsTrue (fits l t) ↔ HasTree l (tree_tokens t) t
