-- Where a list of tokens that is no expression goes wrong: found by neighbouring tokens alone.
use Rattle.std.specs.Prelude.{ℕ, Bool, true, false, not, ◌&&◌, ◌||◌, ◌==◌, if◌then◌else◌, List, [], ◌∷◌, Option, None, Some}
use Rattle.expr_tree.specs.Functions.{is_function_name}
use Rattle.expr_tokens.specs.Limits.{open_behind_sign}
use Rattle.expr_tokens.specs.declared.sign.Sign as s
use Rattle.expr_tokens.specs.declared.sign.Sign.TheVariants as sign
use Rattle.expr_tokens.specs.declared.token.Token.{Token}
use Rattle.expr_tokens.specs.declared.token.Token.TheVariants as token

-- a sign that may begin an operand: `(`, `-` or `.`
abbrev pub opens_by_sign : s.Sign → Bool
opens_by_sign sign.Open = true
opens_by_sign sign.Minus = true
opens_by_sign sign.Dot = true
opens_by_sign _ = false

-- a token that may begin an operand
abbrev pub is_opening : Token → Bool
is_opening (token.Sign x) = opens_by_sign x
is_opening _ = true

-- a sign that ends an operand: `)`
abbrev pub closes_by_sign : s.Sign → Bool
closes_by_sign sign.Close = true
closes_by_sign _ = false

-- a token that may end an operand
abbrev pub is_closing : Token → Bool
is_closing (token.Function name) = false
is_closing (token.Sign x) = closes_by_sign x
is_closing _ = true

-- a sign behind which an operand is wanted: all but `)`, `^` and `.`
abbrev pub wants_operand_by_sign : s.Sign → Bool
wants_operand_by_sign sign.Close = false
wants_operand_by_sign sign.Caret = false
wants_operand_by_sign sign.Dot = false
wants_operand_by_sign _ = true

-- an operand is wanted at the start, and behind such a sign
abbrev pub wants_operand : Option Token → Bool
wants_operand None = true
wants_operand (Some (token.Sign x)) = wants_operand_by_sign x
wants_operand (Some _) = false

-- the token in front may end an operand
abbrev pub behind_operand : Option Token → Bool
behind_operand None = false
behind_operand (Some t) = is_closing t

-- a minus or a point, which may stand behind an operand too
abbrev pub is_minus_or_point : Token → Bool
is_minus_or_point (token.Sign sign.Minus) = true
is_minus_or_point (token.Sign sign.Dot) = true
is_minus_or_point _ = false

-- a unit behind a numeral
abbrev pub is_unit_of : Option Token → Token → Bool
is_unit_of (Some (token.Numeral amount number)) (token.Unit name) = true
is_unit_of _ _ = false

-- a function that there is not
abbrev pub is_unknown_function : Token → Bool
is_unknown_function (token.Function name) = not (is_function_name name)
is_unknown_function _ = false

-- a closing bracket where none is open
abbrev pub closes_nothing : ℕ → Token → Bool
closes_nothing brackets (token.Sign sign.Close) = brackets == 0
closes_nothing brackets _ = false

-- the token is wrong, with the one in front of it and the number of open brackets
abbrev pub is_misplaced : Option Token → ℕ → Token → Bool
is_misplaced previous brackets t =
    is_unknown_function t
    || wants_operand previous && not (is_opening t)
    || behind_operand previous && is_opening t && not (is_minus_or_point t) && not (is_unit_of previous t)
    || closes_nothing brackets t

-- how many brackets are open behind a token
abbrev pub open_behind_token : ℕ → Token → ℕ
open_behind_token brackets (token.Sign x) = open_behind_sign brackets x
open_behind_token brackets _ = brackets

-- the place of the first wrong token, or the end
unfoldable pub misplaced_from : Option Token → ℕ → List ℕ → List Token → ℕ → ℕ
misplaced_from previous brackets [] tokens end = end
misplaced_from previous brackets (place ∷ places) [] end = end
misplaced_from previous brackets (place ∷ places) (t ∷ tokens) end =
    if is_misplaced previous brackets t then place else misplaced_from (Some t) (open_behind_token brackets t) places tokens end

-- the place of the first wrong token of a text of that length, or its length
abbrev pub misplaced : List ℕ → List Token → ℕ → ℕ
misplaced places tokens end = misplaced_from None 0 places tokens end
