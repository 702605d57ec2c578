-- Printed numbers are read back: amounts and exponents.
use Rattle.std.proofs.Common.{◌≡◌, ℕ, suc, ◌+◌, ◌*◌, ◌/◌, ◌^◌, ◌<◌, ◌≤◌, ℤ, pos, negsuc, true, false, ◌&&◌, nat_le, List, [], ◌∷◌, ◌++◌, length, get_or, Some, sym, ap, subst, ◌∙◌, unsigned_abs, length-append, arith}
use Rattle.std.specs.Prelude.{int_le}
use Rattle.std.specs.List.{list_all}
use Rattle.std.specs.Char.{is_ascii_digit}
use Rattle.std.specs.Fmt.{decimal, signed_decimal, sign_text}
use Rattle.std.specs.Int.{is_negative}
use Rattle.std.proofs.lemmas.Bool.{and_from, le-leb, cond-true}
use Rattle.std.proofs.lemmas.Bool.Decides.{nat_tests}
use Rattle.std.proofs.lemmas.Fmt.{decimal_nonempty, length-decimal-le}
use Rattle.std.proofs.lemmas.List.Sums.{AllPass-from_list_all}
use Rattle.std.proofs.Math.ListN.{get_or-append}
use Rattle.quantities.specs.Decimals.{are_digits}
use Rattle.quantities.specs.Texts.{billion, digits_below, without_final_zeros, behind_point, whole_text, decimal_text}
use Rattle.quantities.proofs.ReadLemmas.{number_after-decimal}
use Rattle.quantities.proofs.RoundTrip.{read_whole, decimal_value-decimal_text}
use Rattle.quantities.proofs.TextLemmas as digits
use Rattle.expr_tokens.specs.declared.sign.Sign.TheVariants as sign
use Rattle.expr_tokens.specs.declared.token.Lexeme.{Lexeme}
use Rattle.expr_tokens.specs.declared.token.Lexeme.TheVariants.{Numeral, Sign}
use Rattle.expr_tokens.specs.Lexemes.{short_number}
use Rattle.expr_tree.specs.Spelled.{is_exponent, IsNumeral}
use Rattle.expr_tokens.proofs.AlphabetLemmas.{begins_past}
use Rattle.expr_tokens.proofs.ByteLemmas.{is_decimal_byte}
use Rattle.expr_tokens.proofs.LexemeLemmas.{Lexes, lexes_numeral, lexes_minus}

glyph_digit : (d : ℕ) → d < 10 → is_ascii_digit (48 + d) ≡ true
glyph_digit d below = grind (arith, nat_tests)

all_digits : (n : ℕ) → n < 10 ^ 64 → list_all is_ascii_digit (decimal n) ≡ true
all_digits n small = digits.list_all-decimal is_ascii_digit glyph_digit n small

first_digit : (n : ℕ) → n < 2 ^ 64 → is_ascii_digit (get_or (decimal n) 0 0) ≡ true
first_digit n small = AllPass-from_list_all is_ascii_digit (decimal n) (all_digits n (omega arith)) 0 0 (decimal_nonempty n small)

-- ---- exponents

short_decimal : (n : ℕ) → n < 100 → short_number (decimal n) ≡ Some n
short_decimal n below =
    let some : 1 ≤ length (decimal n) = decimal_nonempty n (omega arith) in
    let few : length (decimal n) ≤ 2 = length-decimal-le 2 n (omega arith) (omega arith) (omega arith) in
    cond-true (are_digits 2 (decimal n)) _ _
    (and_from (nat_le 1 (length (decimal n)) && nat_le (length (decimal n)) 2) (list_all is_ascii_digit (decimal n))
    (and_from (nat_le 1 (length (decimal n))) (nat_le (length (decimal n)) 2) (le-leb 1 (length (decimal n)) some) (le-leb (length (decimal n)) 2 few))
    (all_digits n (omega arith)))
    ∙ ap Some (number_after-decimal n (omega arith))

lexes_digits : (n : ℕ) → n < 100 → (rest : List ℕ) {xs : List Lexeme} → begins_past is_decimal_byte rest ≡ true → Lexes rest xs
    → Lexes (decimal n ++ rest) (Numeral (pos (n * billion)) (Some n) ∷ xs)
lexes_digits n below rest {xs} past more =
    subst (λ o. Lexes (decimal n ++ rest) (Numeral (pos (n * billion)) o ∷ xs)) (short_decimal n below)
    (lexes_numeral (decimal n) rest (pos (n * billion)) (decimal_nonempty n (omega arith)) (first_digit n (omega arith))
    (read_whole n (omega arith) false (omega arith)) past more)

-- the lexemes of an exponent
abbrev pub exponent_lexemes : ℤ → List Lexeme
exponent_lexemes (pos n) = Numeral (pos (n * billion)) (Some n) ∷ []
exponent_lexemes (negsuc n) = Sign sign.Minus ∷ Numeral (pos (suc n * billion)) (Some (suc n)) ∷ []

below_100 : (n : ℕ) → is_exponent (pos n) ≡ true → n < 100
below_100 n h = grind (arith, nat_tests)

below_99 : (n : ℕ) → is_exponent (negsuc n) ≡ true → suc n < 100
below_99 n h = grind (arith, nat_tests)

pub lexes_exponent : (n : ℤ) → is_exponent n ≡ true → (rest : List ℕ) {xs : List Lexeme} → begins_past is_decimal_byte rest ≡ true → Lexes rest xs
    → Lexes (signed_decimal n ++ rest) (exponent_lexemes n ++ xs)
lexes_exponent (pos n) h rest past more = lexes_digits n (below_100 n h) rest past more
lexes_exponent (negsuc n) h rest past more =
    lexes_minus (decimal (suc n) ++ rest) (lexes_digits (suc n) (below_99 n h) rest past more)

-- ---- amounts

unsigned : (x : ℤ) → int_le (pos 0) x ≡ true → is_negative x ≡ false
unsigned (pos n) h = grind (arith, nat_tests)
unsigned (negsuc n) h = grind (arith, nat_tests)

first_of_amount : (x : ℤ) → IsNumeral x → (0 < length (decimal_text x)) × (is_ascii_digit (get_or (decimal_text x) 0 0) ≡ true)
unfolding decimal_text whole_text
first_of_amount x h =
    let whole : ℕ = unsigned_abs x / billion in
    let small : whole < 2 ^ 64 = omega (arith, h.amount) in
    let fraction : List ℕ = behind_point (without_final_zeros (digits_below 9 (unsigned_abs x))) in
    let text : decimal_text x ≡ decimal whole ++ fraction = ap (λ b. (sign_text b ++ decimal whole) ++ fraction) (unsigned x h.not_negative) in
    let some : 0 < length (decimal whole) = decimal_nonempty whole small in
    subst (λ (t : List ℕ). (0 < length t) × (is_ascii_digit (get_or t 0 0) ≡ true)) (sym text)
    (omega (arith, length-append (decimal whole) fraction), ap is_ascii_digit (get_or-append (decimal whole) fraction 0 0 some) ∙ first_digit whole small)

pub lexes_amount : (x : ℤ) → IsNumeral x → (rest : List ℕ) {xs : List Lexeme} → begins_past is_decimal_byte rest ≡ true → Lexes rest xs
    → Lexes (decimal_text x ++ rest) (Numeral x (short_number (decimal_text x)) ∷ xs)
lexes_amount x h rest past more =
    let first = first_of_amount x h in
    lexes_numeral (decimal_text x) rest x first.0 first.1 (decimal_value-decimal_text x h.amount) past more
