-- The tokens of a list of lexemes: which identifier is what, by its neighbours.
use Rattle.std.specs.Prelude.{ℕ, Bool, true, false, ◌||◌, if◌then◌else◌, List, [], ◌∷◌, codes, is_some, map}
use Rattle.std.specs.Str.{bytes_eq}
use Rattle.unit_signatures.specs.Table.{unit_named}
use Rattle.expr_tokens.specs.declared.sign.Sign as s
use Rattle.expr_tokens.specs.declared.sign.Sign.TheVariants as sign
use Rattle.expr_tokens.specs.declared.token.Lexeme.{Lexeme}
use Rattle.expr_tokens.specs.declared.token.Lexeme.TheVariants as lexeme
use Rattle.expr_tokens.specs.declared.token.Placed.{Placed}
use Rattle.expr_tokens.specs.declared.token.Token.{Token}
use Rattle.expr_tokens.specs.declared.token.Token.TheVariants as token

abbrev pub is_open : s.Sign → Bool
is_open sign.Open = true
is_open _ = false

abbrev pub is_dot : s.Sign → Bool
is_dot sign.Dot = true
is_dot _ = false

-- the lexeme is `(`, or `.`
abbrev pub is_opening_bracket : Lexeme → Bool
is_opening_bracket (lexeme.Sign x) = is_open x
is_opening_bracket _ = false

abbrev pub is_point : Lexeme → Bool
is_point (lexeme.Sign x) = is_dot x
is_point _ = false

-- the first of the lexemes is `(`, or `.`
abbrev pub bracket_follows : List Lexeme → Bool
bracket_follows [] = false
bracket_follows (x ∷ xs) = is_opening_bracket x

abbrev pub point_follows : List Lexeme → Bool
point_follows [] = false
point_follows (x ∷ xs) = is_point x

-- an identifier with no bracket behind it and no point beside it: a flag, a unit or else a name
abbrev pub lone_word : List ℕ → Token
lone_word name =
    if bytes_eq name (codes "true") then token.Flag true
    else (if bytes_eq name (codes "false") then token.Flag false
    else (if is_some (unit_named name) then token.Unit name else token.Name name))

-- an identifier before `(` is a function, else one beside a point a name
abbrev pub word : Bool → Bool → List ℕ → Token
word before_bracket beside_point name =
    if before_bracket then token.Function name else (if beside_point then token.Name name else lone_word name)

-- a lexeme as a token, with whether a point stands before it, and what stands behind it
abbrev pub kind_of : Bool → Lexeme → List Lexeme → Token
kind_of behind_point (lexeme.Numeral amount number) rest = token.Numeral amount number
kind_of behind_point (lexeme.Identifier name) rest = word (bracket_follows rest) (behind_point || point_follows rest) name
kind_of behind_point (lexeme.Marked place) rest = token.Marked place
kind_of behind_point (lexeme.Text text) rest = token.Text text
kind_of behind_point (lexeme.Sign x) rest = token.Sign x

-- the tokens of the lexemes, with whether a point stands before them
abbrev pub kinds : Bool → List Lexeme → List Token
kinds behind_point [] = []
kinds behind_point (x ∷ xs) = kind_of behind_point x xs ∷ kinds (is_point x) xs

-- the tokens of lexemes with places
abbrev pub tokens_of : List Placed → List Token
tokens_of xs = kinds false (map (λ x. x.lexeme) xs)
