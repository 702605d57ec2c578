-- Decimals: texts such as `-12.5e3`, and the amounts that they say.
use Rattle.std.specs.Prelude.{ℕ, ◌+◌, ◌*◌, ◌^◌, ◌==◌, ℤ, Bool, not, ◌&&◌, ◌||◌, nat_le, List, [], ◌∷◌, length, Result, Ok, Err, if◌then◌else◌}
use Rattle.std.specs.Char.{is_ascii_digit}
use Rattle.std.specs.List.{list_all, list_any}
use Rattle.quantities.specs.declared.mark.Mark.{Mark}
use Rattle.quantities.specs.declared.mark.Mark.TheVariants.{Point, Exponent}
use Rattle.quantities.specs.declared.decimal_fault.DecimalFault.{DecimalFault}
use Rattle.quantities.specs.declared.decimal_fault.DecimalFault.TheVariants.{NotDecimal, Range}
use Rattle.quantities.specs.Amounts.{greatest, signed}
use Rattle.quantities.specs.Arithmetic.{nearest}
use Rattle.quantities.specs.Digits.{begins_with_minus, number_after}

-- `.`, and `e` or `E`
abbrev pub is_mark : Mark → ℕ → Bool
is_mark Point c = c == 46
is_mark Exponent c = (c == 101) || (c == 69)

-- the mark stands somewhere in the text
abbrev pub has : Mark → List ℕ → Bool
has mark text = list_any (is_mark mark) text

-- what stands before the first such mark
abbrev pub before : Mark → List ℕ → List ℕ
before mark [] = []
before mark (c ∷ cs) = if is_mark mark c then [] else c ∷ before mark cs

-- what stands behind it
abbrev pub behind : Mark → List ℕ → List ℕ
behind mark [] = []
behind mark (c ∷ cs) = if is_mark mark c then cs else behind mark cs

-- the text without a sign in front
abbrev pub without_sign : List ℕ → List ℕ
without_sign [] = []
without_sign (c ∷ cs) = if (c == 43) || (c == 45) then cs else c ∷ cs

-- one digit or more, and at most so many
abbrev pub are_digits : ℕ → List ℕ → Bool
are_digits most text = nat_le 1 (length text) && nat_le (length text) most && list_all is_ascii_digit text

-- 1 to 40 digits, and where there is a point, 1 to 40 digits behind it
abbrev pub is_mantissa : List ℕ → Bool
is_mantissa text =
    are_digits 40 (before Point text) && (not (has Point text) || are_digits 40 (behind Point text))

-- the parts of a decimal
abbrev pub mantissa : List ℕ → List ℕ
mantissa text = before Exponent (without_sign text)

abbrev pub exponent : List ℕ → List ℕ
exponent text = behind Exponent (without_sign text)

abbrev pub has_exponent : List ℕ → Bool
has_exponent text = has Exponent (without_sign text)

-- a mantissa, and where there is an `e`, 1 or 2 digits behind it and its sign
unfoldable pub is_decimal : List ℕ → Bool
is_decimal text =
    is_mantissa (mantissa text)
    && (not (has_exponent text) || are_digits 2 (without_sign (exponent text)))

-- by how many places an exponent moves the point to the right, and to the left
abbrev pub moved_right : List ℕ → ℕ
moved_right e = if begins_with_minus e then 0 else number_after 0 e

abbrev pub moved_left : List ℕ → ℕ
moved_left e = if begins_with_minus e then number_after 0 e else 0

-- the billionths of a mantissa and an exponent, rounded
unfoldable pub size_of : List ℕ → List ℕ → ℕ
size_of m e =
    nearest (number_after 0 m * 10 ^ (9 + moved_right e))
    (10 ^ (length (behind Point m) + moved_left e))

-- the billionths of a decimal without its sign
abbrev pub decimal_size : List ℕ → ℕ
decimal_size text = size_of (mantissa text) (exponent text)

-- the amount that a decimal says
unfoldable pub decimal_value : List ℕ → Result ℤ DecimalFault
decimal_value text =
    let size = decimal_size text in
    if is_decimal text
    then (if nat_le size greatest then Ok (signed (begins_with_minus text) size) else Err Range)
    else Err NotDecimal
