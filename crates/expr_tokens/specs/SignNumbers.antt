-- Tests of signs.
use Rattle.std.specs.Prelude.{ℕ, Bool, ◌==◌}
use Rattle.expr_tokens.specs.declared.sign.Sign.{Sign}
use Rattle.expr_tokens.specs.declared.sign.Sign.TheVariants.{Equal, NotEqual, LessOrEqual, GreaterOrEqual, Less, Greater, Plus, Minus, Asterisk, Slash, Percent, Caret, Question, Colon, Semicolon, Comma, Open, Close, Dot}

-- the place of a sign among all
abbrev pub sign_number : Sign → ℕ
sign_number Equal = 0
sign_number NotEqual = 1
sign_number LessOrEqual = 2
sign_number GreaterOrEqual = 3
sign_number Less = 4
sign_number Greater = 5
sign_number Plus = 6
sign_number Minus = 7
sign_number Asterisk = 8
sign_number Slash = 9
sign_number Percent = 10
sign_number Caret = 11
sign_number Question = 12
sign_number Colon = 13
sign_number Semicolon = 14
sign_number Comma = 15
sign_number Open = 16
sign_number Close = 17
sign_number Dot = 18

-- the signs are one
abbrev pub same_sign : Sign → Sign → Bool
same_sign x y = sign_number x == sign_number y
