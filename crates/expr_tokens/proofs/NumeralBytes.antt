-- The bytes of a decimal are ASCII, so a text may be cut behind one.
use Rattle.std.proofs.Common.{◌≡◌, ℕ, zero, suc, ◌<◌, ◌≤◌, ◌||◌, ◌==◌, true, List, [], ◌∷◌, ◌++◌, length, take, get_or, sym, ap, subst, ◌∙◌, ⊎_elim, arith}
use Rattle.std.specs.Char.{is_ascii_digit}
use Rattle.std.specs.List.{list_all}
use Rattle.std.specs.Str.{IsUtf8, IsAscii, IsCharBoundary}
use Rattle.std.proofs.lemmas.Bool.{and_parts, both_ways, cases_Bool, cond-true, cond-false}
use Rattle.std.proofs.lemmas.Bool.Decides.{nat_tests}
use Rattle.std.proofs.lemmas.Str.{IsAscii-append, IsUtf8-from_ascii, IsCharBoundary-from_take}
use Rattle.quantities.specs.Decimals.{are_digits, is_mark, is_decimal}
use Rattle.quantities.specs.declared.mark.Mark.{Mark}
use Rattle.quantities.specs.declared.mark.Mark.TheVariants.{Point, Exponent}
use Rattle.expr_tokens.specs.NumeralParts.{is_fraction, is_signed, is_exponent}
use Rattle.expr_tokens.proofs.MarkedLemmas.{ascii-nil, ascii-cons}
use Rattle.expr_tokens.proofs.DigitLemmas.{digits-all}
use Rattle.expr_tokens.proofs.ScannedNumerals.{Part, IsNumeral, decimal-parts, front-digit, decimal-empty}

-- each byte is ASCII
digits-ascii : (ds : List ℕ) → list_all is_ascii_digit ds ≡ true → IsAscii ds
digits-ascii [] all = ascii-nil
digits-ascii (d ∷ ds) all =
    let parts = and_parts (is_ascii_digit d) (list_all is_ascii_digit ds) all in
    let digit : is_ascii_digit d ≡ true = parts.0 in
    let low : d < 128 = grind (arith, nat_tests) in
    ascii-cons d ds low (digits-ascii ds parts.1)

mark-ascii : (mark : Mark) (c : ℕ) → is_mark mark c ≡ true → c < 128
mark-ascii Point c mark = grind (arith, nat_tests)
mark-ascii Exponent c mark = grind (arith, nat_tests)

signed-ascii : (text : List ℕ) → is_signed text ≡ true → IsAscii text
signed-ascii [] signed = ascii-nil
signed-ascii (c ∷ cs) signed = ⊎_elim
    (λ sign.
    let low : c < 128 = grind (arith, nat_tests) in
    ascii-cons c cs low (digits-ascii cs (digits-all 2 cs (ap (are_digits 2) (sym (cond-true ((c == 43) || (c == 45)) cs (c ∷ cs) sign)) ∙ signed))))
    (λ other. digits-ascii (c ∷ cs) (digits-all 2 (c ∷ cs) (ap (are_digits 2) (sym (cond-false ((c == 43) || (c == 45)) cs (c ∷ cs) other)) ∙ signed)))
    (cases_Bool ((c == 43) || (c == 45)))

fraction-ascii : (f : List ℕ) → Part is_fraction f → IsAscii f
fraction-ascii [] part = ascii-nil
fraction-ascii (c ∷ cs) part = ⊎_elim (λ none. absurd (cc))
    (λ h.
    let parts = and_parts (is_mark Point c) (are_digits 40 cs) h in
    ascii-cons c cs (mark-ascii Point c parts.0) (digits-ascii cs (digits-all 40 cs parts.1)))
    part

exponent-ascii : (e : List ℕ) → Part is_exponent e → IsAscii e
exponent-ascii [] part = ascii-nil
exponent-ascii (c ∷ cs) part = ⊎_elim (λ none. absurd (cc))
    (λ h.
    let parts = and_parts (is_mark Exponent c) (is_signed cs) h in
    ascii-cons c cs (mark-ascii Exponent c parts.0) (signed-ascii cs parts.1))
    part

decimal-ascii : (text : List ℕ) → IsNumeral text → IsAscii text
decimal-ascii text parts =
    subst IsAscii (sym parts.joined)
    (IsAscii-append parts.whole (parts.fraction ++ parts.exponent) (digits-ascii parts.whole (digits-all 40 parts.whole parts.digits))
    (IsAscii-append parts.fraction parts.exponent (fraction-ascii parts.fraction parts.fractional) (exponent-ascii parts.exponent parts.exponential)))

-- a text may be cut behind a decimal in front
pub decimal-cut : (text : List ℕ) (n : ℕ) → IsUtf8 text → n ≤ length text → is_ascii_digit (get_or text 0 0) ≡ true → is_decimal (take n text) ≡ true → IsCharBoundary text n
decimal-cut text n utf8 within digit decimal =
    IsCharBoundary-from_take text n utf8 within
    (IsUtf8-from_ascii (take n text) (decimal-ascii (take n text) (decimal-parts (take n text) (front-digit n text digit decimal) decimal)))

pub decimal-some : (text : List ℕ) (n : ℕ) → is_decimal (take n text) ≡ true → 0 < n
decimal-some text zero decimal = absurd (both_ways _ decimal-empty decimal)
decimal-some text (suc n) decimal = omega arith
