-- Numbers of digits, and the characters that they name.
use Rattle.std.proofs.Common.{◌≡◌, ◌<◌, ◌≤◌, ◌^◌, ℕ, Bool, true, false, cond, List, [], ◌∷◌, Option, None, Some, refl, sym, ap, ◌∙◌, arith, leb}
use Rattle.std.specs.Prelude.{encode_utf8}
use Rattle.std.specs.Char.{digit_value, is_ascii_digit, is_ascii_hexdigit}
use Rattle.std.specs.List.{list_all}
use Rattle.std.specs.Option.{SomeIff, option_map}
use Rattle.std.specs.Str.Parse.{AllDigits, IsNumeral, digits_value}
use Rattle.std.proofs.lemmas.Bool.{and_parts, and_from, leb-true, leb-false}
use Rattle.std.proofs.lemmas.Bool.Decides.{nat_tests}
use Rattle.fcxml_profile.specs.References.{is_xml_character, character_of, are_digits, numbered}

-- XML has no character past 32 bits
character_of-large : (n : ℕ) → 2 ^ 32 ≤ n → character_of n ≡ None
character_of-large n large =
    let no : is_xml_character n ≡ false = grind (arith, nat_tests) in
    rw no refl

-- a test that tells the digits of a radix
pub record TellsDigits (is_digit : ℕ → Bool) (radix : ℕ) : Type 0 where
  to : (c : ℕ) → is_digit c ≡ true → digit_value c < radix
  from : (c : ℕ) → digit_value c < radix → is_digit c ≡ true

all-to : (is_digit : ℕ → Bool) (radix : ℕ) → TellsDigits is_digit radix → (ds : List ℕ) → list_all is_digit ds ≡ true → AllDigits radix ds
all-to is_digit radix tells [] all = tt
all-to is_digit radix tells (c ∷ cs) all =
    let parts = and_parts (is_digit c) (list_all is_digit cs) all in
    (tells.to c parts.0, all-to is_digit radix tells cs parts.1)

all-from : (is_digit : ℕ → Bool) (radix : ℕ) → TellsDigits is_digit radix → (ds : List ℕ) → AllDigits radix ds → list_all is_digit ds ≡ true
all-from is_digit radix tells [] all = refl
all-from is_digit radix tells (c ∷ cs) all = and_from (is_digit c) (list_all is_digit cs) (tells.from c all.0) (all-from is_digit radix tells cs all.1)

numeral-to : (is_digit : ℕ → Bool) (radix : ℕ) → TellsDigits is_digit radix → (ds : List ℕ) → are_digits is_digit ds ≡ true → IsNumeral radix ds
numeral-to is_digit radix tells [] all = absurd (cc)
numeral-to is_digit radix tells (c ∷ cs) all = (omega arith, all-to is_digit radix tells (c ∷ cs) all)

numeral-from : (is_digit : ℕ → Bool) (radix : ℕ) → TellsDigits is_digit radix → (ds : List ℕ) → IsNumeral radix ds → are_digits is_digit ds ≡ true
numeral-from is_digit radix tells [] numeral = absurd (omega arith)
numeral-from is_digit radix tells (c ∷ cs) numeral = all-from is_digit radix tells (c ∷ cs) numeral.1

-- the number that was read names the character
pub numbered-read : (is_digit : ℕ → Bool) (radix : ℕ) → TellsDigits is_digit radix → (ds : List ℕ) (n : ℕ) (r : Option ℕ)
    → SomeIff (Some n) (IsNumeral radix ds × (digits_value radix ds < 2 ^ 32)) (digits_value radix ds) → option_map encode_utf8 r ≡ character_of n → option_map encode_utf8 r ≡ numbered is_digit radix ds
numbered-read is_digit radix tells ds n r number same =
    rw (numeral-from is_digit radix tells ds number.0.0) (same ∙ ap character_of number.1)

-- where none was read there is none
pub numbered-none : (is_digit : ℕ → Bool) (radix : ℕ) → TellsDigits is_digit radix → (ds : List ℕ)
    → SomeIff {T = ℕ} None (IsNumeral radix ds × (digits_value radix ds < 2 ^ 32)) (digits_value radix ds) → None ≡ numbered is_digit radix ds
numbered-none is_digit radix tells ds none =
    elim (are_digits is_digit ds) as (λ b. are_digits is_digit ds ≡ b → None ≡ cond b (character_of (digits_value radix ds)) None) [
      | false ↦ λ _. refl
      | true ↦ λ all. elim (leb (2 ^ 32) (digits_value radix ds)) as (λ b. leb (2 ^ 32) (digits_value radix ds) ≡ b → None ≡ character_of (digits_value radix ds)) [
        | true ↦ λ large. sym (character_of-large (digits_value radix ds) (leb-true _ _ large))
        | false ↦ λ small. absurd (none (numeral-to is_digit radix tells ds all, leb-false _ _ small))
      ] refl
    ] refl

pub decimal_digits : TellsDigits is_ascii_digit 10
decimal_digits = record { to = λ c h. grind (arith, nat_tests); from = λ c h. grind (arith, nat_tests) }

pub hexadecimal_digits : TellsDigits is_ascii_hexdigit 16
hexadecimal_digits = record { to = λ c h. grind (arith, nat_tests); from = λ c h. grind (arith, nat_tests) }
