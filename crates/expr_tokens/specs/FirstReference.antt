-- Where the first path or area of a list of tokens begins.
use Rattle.std.specs.Prelude.{ℕ, Bool, true, false, if◌then◌else◌, List, [], ◌∷◌, Option, None, Some}
use Rattle.expr_tokens.specs.Kinds.{is_dot}
use Rattle.expr_tokens.specs.declared.token.Token.{Token}
use Rattle.expr_tokens.specs.declared.token.Token.TheVariants as token

-- the first of the tokens is `.`
abbrev pub dot_follows : List Token → Bool
dot_follows [] = false
dot_follows (token.Sign x ∷ rest) = is_dot x
dot_follows (_ ∷ rest) = false

-- a path or an area begins with the token, where those follow it: a name, a marked address, `.`, or
-- a text with `.` behind it
abbrev pub begins_reference : Token → List Token → Bool
begins_reference (token.Name name) rest = true
begins_reference (token.Marked place) rest = true
begins_reference (token.Sign x) rest = is_dot x
begins_reference (token.Text text) rest = dot_follows rest
begins_reference _ rest = false

-- the place of the first token with which a path or an area begins, or none
unfoldable pub first_reference_among : List ℕ → List Token → Option ℕ
first_reference_among [] tokens = None
first_reference_among (place ∷ places) [] = None
first_reference_among (place ∷ places) (t ∷ rest) =
    if begins_reference t rest then Some place else first_reference_among places rest
