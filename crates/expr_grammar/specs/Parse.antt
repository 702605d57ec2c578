-- Which expression a text is, and else where it goes wrong.
use Rattle.std.specs.Prelude.{◌≡◌, ◌↔◌, ℕ, List, length, map, Option, None, Some, Result, Ok, Err, Vec}
use Rattle.expr_grammar.specs.declared.fault.ExprCause.TheVariants as cause
use Rattle.expr_grammar.specs.declared.fault.ExprCause as c
use Rattle.expr_grammar.specs.declared.fault.ExprFault.{ExprFault}
use Rattle.expr_grammar.specs.declared.fault.ParseFault.{ParseFault}
use Rattle.expr_grammar.specs.declared.fault.ParseFault.TheVariants as fault
use Rattle.expr_tokens.specs.declared.token.Placed.{Placed}
use Rattle.expr_grammar.specs.Descent.{of_all, parsed}
use Rattle.expr_grammar.specs.Grammar.{HasTree, expression}
use Rattle.expr_tokens.specs.FirstReference.{first_reference_among}
use Rattle.expr_tokens.specs.Kinds.{tokens_of}
use Rattle.expr_tokens.specs.Lexemes.{lexed}
use Rattle.expr_tokens.specs.Limits.{excess}
use Rattle.expr_tokens.specs.Misplaced.{misplaced}
use Rattle.expr_tree.specs.References.{reference_count}
use Rattle.expr_tree.specs.Tree.{Tree}

-- the text is lexemes within the limits
pub record IsLexed (text : List ℕ) (xs : List Placed) : Type 0 where
  pub lexemes : lexed text ≡ Ok xs
  pub within : excess xs ≡ None

-- the text is an expression with that tree
pub record Parses (text : List ℕ) (t : Tree) : Type 0 where
  pub lexemes : List Placed
  pub spelled : IsLexed text lexemes
  pub tree : HasTree expression (tokens_of lexemes) t

-- no lexeme begins at the place, the first such
pub record IsLexical (text : List ℕ) (place : ℕ) : Type 0 where
  pub first : lexed text ≡ Err place

-- the lexemes pass a limit first at the place
pub record IsTooLarge (text : List ℕ) (place : ℕ) : Type 0 where
  pub lexemes : List Placed
  pub spelled : lexed text ≡ Ok lexemes
  pub first : excess lexemes ≡ Some place

-- the lexemes, within the limits, are no expression, and the place is the one found by neighbours
pub record IsSyntax (text : List ℕ) (place : ℕ) : Type 0 where
  pub lexemes : List Placed
  pub spelled : IsLexed text lexemes
  pub no_tree : (t : Tree) → HasTree expression (tokens_of lexemes) t → ⊥
  pub first : place ≡ misplaced (map (λ x. x.place) lexemes) (tokens_of lexemes) (length text)

-- the cause stands at the place, and none before it
abbrev pub HasCause : List ℕ → c.ExprCause → ℕ → Type 0
HasCause text cause.Lexical place = IsLexical text place
HasCause text cause.TooLarge place = IsTooLarge text place
HasCause text cause.Syntax place = IsSyntax text place

-- lexemes within the limits are the tree, or none and the place is the one found by neighbours
pub record HasNoTree (xs : List Placed) (end place : ℕ) : Type 0 where
  pub no_tree : (t : Tree) → HasTree expression (tokens_of xs) t → ⊥
  pub first : place ≡ misplaced (map (λ x. x.place) xs) (tokens_of xs) end

-- the only cause that lexemes within the limits have
abbrev pub HasSyntaxAlone : List Placed → ℕ → c.ExprCause → ℕ → Type 0
HasSyntaxAlone xs end cause.Lexical place = ⊥
HasSyntaxAlone xs end cause.TooLarge place = ⊥
HasSyntaxAlone xs end cause.Syntax place = HasNoTree xs end place

-- an answer on lexemes of a text of that length: their tree, or why they have none, or want of memory
abbrev pub MeetsGrammar : List Placed → ℕ → Result Tree ParseFault → Type 0
MeetsGrammar xs end (Ok t) = HasTree expression (tokens_of xs) t
MeetsGrammar xs end (Err (fault.Expr f)) = HasSyntaxAlone xs end f.cause f.place
MeetsGrammar xs end (Err (fault.Memory e)) = Unit {0}

-- an answer on a text: its lexemes, within the limits, or the first cause why not, or want of memory
abbrev pub MeetsLimits : {A : Type 0} → List ℕ → Result (Vec Placed A) ParseFault → Type 0
MeetsLimits text (Ok xs) = IsLexed text xs.items
MeetsLimits text (Err (fault.Expr f)) = HasCause text f.cause f.place
MeetsLimits text (Err (fault.Memory e)) = Unit {0}

-- an answer of parsing: the tree of the text, or the first cause why it has none, or want of memory
abbrev pub MeetsParse : List ℕ → Result Tree ParseFault → Type 0
MeetsParse text (Ok t) = Parses text t
MeetsParse text (Err (fault.Expr f)) = HasCause text f.cause f.place
MeetsParse text (Err (fault.Memory e)) = Unit {0}

-- the tree of lexemes of a text of that length, or none at the place found by neighbours
abbrev pub tree_or_misplaced : List Placed → ℕ → Option Tree → Result Tree ExprFault
tree_or_misplaced xs end (Some t) = Ok t
tree_or_misplaced xs end None =
    Err (record { place = misplaced (map (λ x. x.place) xs) (tokens_of xs) end; cause = cause.Syntax })

-- the same, where no lexeme is one too many
abbrev pub within_limits : List Placed → ℕ → Option ℕ → Result Tree ExprFault
within_limits xs end (Some place) = Err (record { place = place; cause = cause.TooLarge })
within_limits xs end None = tree_or_misplaced xs end (of_all (parsed expression (tokens_of xs)))

-- the same, where a lexeme begins at each place
abbrev pub of_lexemes : ℕ → Result (List Placed) ℕ → Result Tree ExprFault
of_lexemes end (Err place) = Err (record { place = place; cause = cause.Lexical })
of_lexemes end (Ok xs) = within_limits xs end (excess xs)

-- the tree of a text, or the first cause why it has none, with its place
unfoldable pub expression_in : List ℕ → Result Tree ExprFault
expression_in text = of_lexemes (length text) (lexed text)

-- the place of the first reference among lexemes, or none
abbrev pub reference_place : Result (List Placed) ℕ → Option ℕ
reference_place (Ok xs) = first_reference_among (map (λ x. x.place) xs) (tokens_of xs)
reference_place (Err place) = None

-- the place in a text of the first token with which a path or an area begins, or none
unfoldable pub first_reference : List ℕ → Option ℕ
first_reference text = reference_place (lexed text)

-- a tree, but where there is a reference, a fault at its place
abbrev pub without_reference : Option ℕ → Result Tree ExprFault → Result Tree ExprFault
without_reference None found = found
without_reference (Some place) (Ok t) = Err (record { place = place; cause = cause.Syntax })
without_reference (Some place) (Err f) = Err f

-- the tree of a text without paths and areas, or the first cause why it has none, with its place
unfoldable pub closed_expression_in : List ℕ → Result Tree ExprFault
closed_expression_in text = without_reference (first_reference text) (expression_in text)

-- an answer is what was to be found, or want of memory
abbrev pub Tells : Result Tree ExprFault → Result Tree ParseFault → Type 0
Tells found (Ok t) = found ≡ Ok t
Tells found (Err (fault.Expr f)) = found ≡ Err f
Tells found (Err (fault.Memory e)) = Unit {0}

-- a text has the tree exactly where it parses as it
abbrev pub ExpressionParses : Type 0
ExpressionParses = (text : List ℕ) (t : Tree) → (expression_in text ≡ Ok t) ↔ Parses text t

-- a text has the fault exactly where it has that cause at that place
abbrev pub FaultIsCause : Type 0
FaultIsCause = (text : List ℕ) (f : ExprFault) → (expression_in text ≡ Err f) ↔ HasCause text f.cause f.place

-- a text that parses has no first reference exactly where its tree has no references
abbrev pub ClosedHasNoReferences : Type 0
ClosedHasNoReferences = (text : List ℕ) (t : Tree) → Parses text t → (first_reference text ≡ None) ↔ (reference_count t ≡ 0)
