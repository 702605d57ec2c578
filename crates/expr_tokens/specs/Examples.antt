-- Worked texts.
use Rattle.std.specs.Prelude.{◌≡◌, codes, [], ◌∷◌, Ok, refl}
use Rattle.expr_tokens.specs.Lexemes.{lexed, lexed_from, lexeme_at}
use Rattle.expr_tokens.specs.Signs.{sign_at}
use Rattle.expr_tokens.specs.declared.token.Lexeme.TheVariants.{Sign}
use Rattle.expr_tokens.specs.declared.sign.Sign.TheVariants as sign

pub signs_are_told : lexed (codes "<= -") ≡ Ok (record { place = 0; lexeme = Sign sign.LessOrEqual } ∷ record { place = 3; lexeme = Sign sign.Minus } ∷ [])
unfolding lexed_from lexeme_at sign_at
signs_are_told = refl
