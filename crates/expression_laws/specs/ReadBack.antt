-- A printed tree is read back as itself, and every tree that is read can be printed.
use Rattle.std.specs.Prelude.{◌≡◌, ℕ, List, Ok}
use Rattle.expr_tokens.specs.declared.token.Placed.{Placed}
use Rattle.expr_grammar.specs.Grammar.{HasTree, expression}
use Rattle.expr_tokens.specs.Kinds.{tokens_of}
use Rattle.expr_tokens.specs.Lexemes.{lexed}
use Rattle.expr_grammar.specs.Parse.{IsLexed, Parses}
use Rattle.expr_grammar.specs.Printed.{printed}
use Rattle.expr_tree.specs.Spelled.{IsSpelled}
use Rattle.expr_tree.specs.Tree.{Tree}

-- the printed form of a tree that a text can spell has lexemes, and these have the tree
abbrev pub PrintedFormHasTree : Type 0
PrintedFormHasTree = (t : Tree) → IsSpelled t → (xs : List Placed) × ((lexed (printed t) ≡ Ok xs) × HasTree expression (tokens_of xs) t)

-- so within the limits it is an expression with that tree
abbrev pub PrintedFormIsRead : Type 0
PrintedFormIsRead = (t : Tree) → IsSpelled t → (xs : List Placed) → IsLexed (printed t) xs → Parses (printed t) t

-- the tree of a text can be spelled
abbrev pub ParsedTreesAreSpelled : Type 0
ParsedTreesAreSpelled = (text : List ℕ) (t : Tree) → Parses text t → IsSpelled t
