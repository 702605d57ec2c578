-- The lexemes of a text, each the longest that begins at its place.
use Rattle.std.specs.Prelude.{ℕ, zero, suc, ◌+◌, ◌-◌, ℤ, Bool, false, ◌&&◌, ◌||◌, nat_lt, if◌then◌else◌, List, [], ◌∷◌, length, take, Option, None, Some, Result, Ok, Err}
use Rattle.std.specs.Char.{is_ascii_digit}
use Rattle.std.specs.Option.{option_map}
use Rattle.std.specs.Str.{chars, is_utf8}
use Rattle.fc_base.specs.Places.{Place, address_of}
use Rattle.fc_base.specs.Texts.{is_name, spells_name, is_text_value}
use Rattle.quantities.specs.Decimals.{is_decimal, are_digits, decimal_value}
use Rattle.quantities.specs.Digits.{number_after}
use Rattle.quantities.specs.declared.decimal_fault.DecimalFault.{DecimalFault}
use Rattle.object_paths.specs.PathParts.{is_blank, opened, until_closing}
use Rattle.expr_tokens.specs.Longest.{longest}
use Rattle.expr_tokens.specs.Signs.{sign_at, sign_text}
use Rattle.expr_tokens.specs.declared.sign.Sign as s
use Rattle.expr_tokens.specs.declared.token.Lexeme.{Lexeme}
use Rattle.expr_tokens.specs.declared.token.Lexeme.TheVariants.{Numeral, Identifier, Marked, Text, Sign}
use Rattle.expr_tokens.specs.declared.token.Placed.{Placed}

-- the number that one or two digits write, and none of another numeral
abbrev pub short_number : List ℕ → Option ℕ
short_number text = if are_digits 2 text then Some (number_after 0 text) else None

-- a numeral is a decimal whose amount is within the bound
abbrev pub numeral_of : Result ℤ DecimalFault → List ℕ → Option Lexeme
numeral_of (Ok amount) text = Some (Numeral amount (short_number text))
numeral_of (Err fault) text = None

-- an identifier's bytes, however many
abbrev pub spells_word : List ℕ → Bool
spells_word text = is_utf8 text && spells_name (chars text)

-- an address with a mark
abbrev pub has_mark : Option Place → Bool
has_mark None = false
has_mark (Some p) = p.fixed_column || p.fixed_row

abbrev pub is_marked_address : List ℕ → Bool
is_marked_address text = has_mark (address_of text)

-- an identifier is a name: it has at most 64 bytes
abbrev pub identifier_of : List ℕ → Option Lexeme
identifier_of text = if is_name text then Some (Identifier text) else None

abbrev pub marked_of : List ℕ → Option Lexeme
marked_of text = option_map Marked (address_of text)

-- a lexeme of that many bytes
abbrev pub of_length : ℕ → Option Lexeme → Option (Lexeme × ℕ)
of_length n lexeme = option_map (λ x. (x, n)) lexeme

-- the numeral that a text with a digit in front begins with
unfoldable pub numeral_at : List ℕ → Option (Lexeme × ℕ)
numeral_at text =
    let n = longest is_decimal text in
    of_length n (numeral_of (decimal_value (take n text)) (take n text))

-- the identifier or the marked address, whichever is longer
unfoldable pub word_at : List ℕ → Option (Lexeme × ℕ)
word_at text =
    let word = longest spells_word text in
    let address = longest is_marked_address text in
    if nat_lt word address then of_length address (marked_of (take address text)) else of_length word (identifier_of (take word text))

-- the text up to the first `>>`, of what follows a `<<`
abbrev pub quoted : Option (List ℕ × List ℕ) → Option (Lexeme × ℕ)
quoted None = None
quoted (Some cut) = if is_text_value cut.0 then Some (Text cut.0, length cut.0 + 4) else None

-- what begins with a byte that is no digit: a text, a sign, or a word
abbrev pub mark_or_word : Option (List ℕ) → Option s.Sign → List ℕ → Option (Lexeme × ℕ)
mark_or_word (Some rest) sign text = quoted (until_closing rest)
mark_or_word None (Some sign) text = Some (Sign sign, length (sign_text sign))
mark_or_word None None text = word_at text

-- the lexeme that a text begins with, and the number of its bytes; none where no lexeme begins
unfoldable pub lexeme_at : List ℕ → Option (Lexeme × ℕ)
lexeme_at [] = None
lexeme_at (c ∷ cs) = if is_ascii_digit c then numeral_at (c ∷ cs) else mark_or_word (opened (c ∷ cs)) (sign_at (c ∷ cs)) (c ∷ cs)

-- one lexeme more in front
abbrev pub in_front : Placed → Result (List Placed) ℕ → Result (List Placed) ℕ
in_front x (Ok xs) = Ok (x ∷ xs)
in_front x (Err place) = Err place

-- a lexeme at that place and what follows it; or the place where none begins
abbrev pub with_lexeme : Option (Lexeme × ℕ) → ℕ → (ℕ → Result (List Placed) ℕ) → Result (List Placed) ℕ
with_lexeme None place after = Err place
with_lexeme (Some x) place after = in_front (record { place = place; lexeme = x.0 }) (after x.1)

-- the lexemes of what stands at that place, from the left, with their places; or the first place
-- where none begins. So many bytes in front belong to the lexeme before.
unfoldable pub lexed_from : ℕ → ℕ → List ℕ → Result (List Placed) ℕ
lexed_from skipped place [] = Ok []
lexed_from (suc skipped) place (c ∷ cs) = lexed_from skipped (place + 1) cs
lexed_from zero place (c ∷ cs) =
    if is_blank c then lexed_from 0 (place + 1) cs else with_lexeme (lexeme_at (c ∷ cs)) place (λ n. lexed_from (n - 1) (place + 1) cs)

-- the lexemes of a text, or the first place where none begins
abbrev pub lexed : List ℕ → Result (List Placed) ℕ
lexed text = lexed_from 0 0 text
