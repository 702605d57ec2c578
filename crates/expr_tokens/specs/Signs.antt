-- The signs and their texts.
use Rattle.std.specs.Prelude.{ℕ, List, [], ◌∷◌, Option, find, nat_eq}
use Rattle.std.specs.List.{starts_with}
use Rattle.expr_tokens.specs.declared.sign.Sign.{Sign}
use Rattle.expr_tokens.specs.declared.sign.Sign.TheVariants.{Equal, NotEqual, LessOrEqual, GreaterOrEqual, Less, Greater, Plus, Minus, Asterisk, Slash, Percent, Caret, Question, Colon, Semicolon, Comma, Open, Close, Dot}

-- how a sign is written
abbrev pub sign_text : Sign → List ℕ
sign_text Equal = 61 ∷ 61 ∷ []
sign_text NotEqual = 33 ∷ 61 ∷ []
sign_text LessOrEqual = 60 ∷ 61 ∷ []
sign_text GreaterOrEqual = 62 ∷ 61 ∷ []
sign_text Less = 60 ∷ []
sign_text Greater = 62 ∷ []
sign_text Plus = 43 ∷ []
sign_text Minus = 45 ∷ []
sign_text Asterisk = 42 ∷ []
sign_text Slash = 47 ∷ []
sign_text Percent = 37 ∷ []
sign_text Caret = 94 ∷ []
sign_text Question = 63 ∷ []
sign_text Colon = 58 ∷ []
sign_text Semicolon = 59 ∷ []
sign_text Comma = 44 ∷ []
sign_text Open = 40 ∷ []
sign_text Close = 41 ∷ []
sign_text Dot = 46 ∷ []

-- all signs, those of two bytes before those of one
abbrev pub signs : List Sign
signs =
    Equal ∷ NotEqual ∷ LessOrEqual ∷ GreaterOrEqual ∷ Less ∷ Greater ∷ Plus ∷ Minus ∷ Asterisk ∷ Slash ∷ Percent ∷ Caret
    ∷ Question ∷ Colon ∷ Semicolon ∷ Comma ∷ Open ∷ Close ∷ Dot ∷ []

-- the longest sign that the text begins with
unfoldable pub sign_at : List ℕ → Option Sign
sign_at text = find (λ s. starts_with nat_eq text (sign_text s)) signs
