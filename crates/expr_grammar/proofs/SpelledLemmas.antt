-- What the lexemes, the tokens and the trees of a text are made of can be spelled.
use Rattle.std.proofs.Common.{◌≡◌, ℕ, zero, suc, ◌+◌, ◌-◌, ◌<◌, ◌≤◌, pos, true, false, not, ◌&&◌, ◌||◌, nat_le, List, [], ◌∷◌, length, take, map, Option, Some, None, Result, Ok, Err, refl, sym, ap, subst, ◌∙◌, ⊎_elim, arith}
use Rattle.std.specs.Prelude.{◌==◌, nat_lt, if◌then◌else◌}
use Rattle.std.specs.Option.{option_map}
use Rattle.std.specs.Char.{is_ascii_digit}
use Rattle.std.proofs.lemmas.Bool.{and_parts, and_from, or_from, and_cases, not_from_false, leb-true, le-leb, both_ways, cond_both, ltb-true}
use Rattle.std.proofs.lemmas.Bool.Decides.{nat_tests}
use Rattle.fc_base.specs.Places.{IsPlace, address_of}
use Rattle.fc_base.specs.Texts.{is_name, is_text_value, has_closing_mark, ends_in_mark}
use Rattle.fc_base.proofs.AddressLemmas.{address_of-iff}
use Rattle.quantities.specs.Amounts.{greatest, signed}
use Rattle.quantities.specs.Decimals.{is_decimal, decimal_size, decimal_value}
use Rattle.quantities.specs.Digits.{begins_with_minus}
use Rattle.quantities.specs.declared.decimal_fault.DecimalFault.TheVariants.{NotDecimal, Range}
use Rattle.object_paths.specs.PathParts.{is_blank, opened, until_closing}
use Rattle.expr_tokens.specs.declared.sign.Sign as s
use Rattle.expr_tokens.specs.declared.token.Lexeme.{Lexeme}
use Rattle.expr_tokens.specs.declared.token.Lexeme.TheVariants.{Numeral, Identifier, Marked, Text, Sign}
use Rattle.expr_tokens.specs.declared.token.Placed.{Placed}
use Rattle.expr_tokens.specs.Lexemes.{numeral_of, has_mark, is_marked_address, spells_word, identifier_of, marked_of, of_length, numeral_at, word_at, quoted, mark_or_word, lexeme_at, in_front, with_lexeme, lexed_from}
use Rattle.expr_tokens.specs.Longest.{longest}
use Rattle.expr_tokens.specs.Signs.{sign_at}
use Rattle.expr_tree.specs.Spelled.{is_quotable, IsNumeral}
use Rattle.expr_tokens.proofs.LongestLemmas.{longest-passes}

-- ---- lexemes

abbrev pub IsSpelledLexeme : Lexeme → Type 0
IsSpelledLexeme (Numeral x number) = IsNumeral x
IsSpelledLexeme (Identifier w) = is_name w ≡ true
IsSpelledLexeme (Marked p) = IsPlace p × ((p.fixed_column || p.fixed_row) ≡ true)
IsSpelledLexeme (Text t) = is_quotable t ≡ true
IsSpelledLexeme (Sign x) = Unit {0}

-- the lexeme that is found, if one is
abbrev IsSpelledFound : Option (Lexeme × ℕ) → Type 0
IsSpelledFound None = Unit {0}
IsSpelledFound (Some x) = IsSpelledLexeme x.0

-- the lexeme, if there is one
abbrev IsSpelledOption : Option Lexeme → Type 0
IsSpelledOption None = Unit {0}
IsSpelledOption (Some x) = IsSpelledLexeme x

of_length-spelled : (n : ℕ) (o : Option Lexeme) → IsSpelledOption o → IsSpelledFound (of_length n o)
of_length-spelled n None h = tt
of_length-spelled n (Some x) h = h

-- numerals
signed_numeral : (size : ℕ) → size ≤ greatest → IsNumeral (pos size)
signed_numeral size h = record { amount = h; not_negative = le-leb 0 size (omega arith) }

value_spelled : (w : List ℕ) → begins_with_minus w ≡ false → IsSpelledOption (numeral_of (decimal_value w) w)
unfolding decimal_value
value_spelled w unsigned =
    cond_both (is_decimal w) (if nat_le (decimal_size w) greatest then Ok (signed (begins_with_minus w) (decimal_size w)) else Err Range) (Err NotDecimal)
    (λ r. IsSpelledOption (numeral_of r w))
    (λ e. cond_both (nat_le (decimal_size w) greatest) (Ok (signed (begins_with_minus w) (decimal_size w))) (Err Range) (λ r. IsSpelledOption (numeral_of r w))
    (λ small. subst (λ b. IsNumeral (signed b (decimal_size w))) (sym unsigned) (signed_numeral (decimal_size w) (leb-true (decimal_size w) greatest small)))
    (λ large. tt))
    (λ e. tt)

unsigned_front : (n c : ℕ) (cs : List ℕ) → is_ascii_digit c ≡ true → begins_with_minus (take n (c ∷ cs)) ≡ false
unsigned_front zero c cs h = refl
unsigned_front (suc n) c cs h = grind (arith, nat_tests)

numeral_spelled : (c : ℕ) (cs : List ℕ) → is_ascii_digit c ≡ true → IsSpelledFound (numeral_at (c ∷ cs))
unfolding numeral_at
numeral_spelled c cs h =
    let w : List ℕ = take (longest is_decimal (c ∷ cs)) (c ∷ cs) in
    of_length-spelled (longest is_decimal (c ∷ cs)) (numeral_of (decimal_value w) w) (value_spelled w (unsigned_front (longest is_decimal (c ∷ cs)) c cs h))

-- words
identifier_spelled : (w : List ℕ) → IsSpelledOption (identifier_of w)
identifier_spelled w = cond_both (is_name w) (Some (Identifier w)) None IsSpelledOption (λ e. e) (λ e. tt)

marked_spelled : (w : List ℕ) → is_marked_address w ≡ true → IsSpelledOption (marked_of w)
marked_spelled w h =
    elim (address_of w) as (λ o. address_of w ≡ o → has_mark o ≡ true → IsSpelledOption (option_map Marked o)) [
      | None ↦ λ e mark. tt
      | Some p ↦ λ e mark. (((address_of-iff w p).0 e).place, mark)
    ] refl h

word_spelled : (text : List ℕ) → IsSpelledFound (word_at text)
unfolding word_at
word_spelled text =
    let word : ℕ = longest spells_word text in
    let address : ℕ = longest is_marked_address text in
    cond_both (nat_lt word address) (of_length address (marked_of (take address text))) (of_length word (identifier_of (take word text))) IsSpelledFound
    (λ e. of_length-spelled address (marked_of (take address text))
    (⊎_elim (λ none. let some : word < address = ltb-true word address e in absurd (omega arith)) (λ passes. marked_spelled (take address text) passes) (longest-passes is_marked_address text)))
    (λ e. of_length-spelled word (identifier_of (take word text)) (identifier_spelled (take word text)))

-- texts
-- the text begins with the one in front of the marks, or with a mark
abbrev Begins : List ℕ → List ℕ → Type 0
Begins [] t = Unit {0}
Begins (b ∷ rest) [] = (b == 62) ≡ true
Begins (b ∷ rest) (x ∷ xs) = x ≡ b

record IsCut (text t : List ℕ) : Type 0 where
  closing : has_closing_mark t ≡ false
  ending : ends_in_mark t ≡ false
  begins : Begins text t

abbrev IsCutFound : List ℕ → Option (List ℕ × List ℕ) → Type 0
IsCutFound text None = Unit {0}
IsCutFound text (Some cut) = IsCut text cut.0

one_more : (a b : ℕ) (rest t : List ℕ) → ((a == 62) && (b == 62)) ≡ false → IsCut (b ∷ rest) t → IsCut (a ∷ b ∷ rest) (a ∷ t)
one_more a b rest [] apart cut =
    record { closing = refl; ending = ⊎_elim (λ e. e) (λ e. absurd (both_ways (b == 62) e cut.begins)) (and_cases (a == 62) (b == 62) apart); begins = refl }
one_more a b rest (x ∷ xs) apart cut =
    record {
      closing = or_from ((a == 62) && (x == 62)) (has_closing_mark (x ∷ xs)) (ap (λ c. (a == 62) && (c == 62)) cut.begins ∙ apart) cut.closing;
      ending = cut.ending;
      begins = refl;
    }

until_closing-cut : (text : List ℕ) → IsCutFound text (until_closing text)
until_closing-cut [] = tt
until_closing-cut (a ∷ []) = tt
until_closing-cut (a ∷ b ∷ rest) =
    let later : IsCutFound (b ∷ rest) (until_closing (b ∷ rest)) = until_closing-cut (b ∷ rest) in
    cond_both ((a == 62) && (b == 62)) (Some ([], rest)) (option_map (λ p. (a ∷ p.0, p.1)) (until_closing (b ∷ rest))) (IsCutFound (a ∷ b ∷ rest))
    (λ e. record { closing = refl; ending = refl; begins = (and_parts (a == 62) (b == 62) e).0 })
    (λ e. elim (until_closing (b ∷ rest)) as (λ o. IsCutFound (b ∷ rest) o → IsCutFound (a ∷ b ∷ rest) (option_map (λ p. (a ∷ p.0, p.1)) o))
    [ None ↦ λ h. tt | Some cut ↦ λ h. one_more a b rest cut.0 e h ] later)

quoted_spelled : (text : List ℕ) → IsSpelledFound (quoted (until_closing text))
quoted_spelled text =
    elim (until_closing text) as (λ o. IsCutFound text o → IsSpelledFound (quoted o)) [
      | None ↦ λ h. tt
      | Some cut ↦ λ h.
          cond_both (is_text_value cut.0) (Some (Text cut.0, length cut.0 + 4)) None IsSpelledFound
          (λ e. and_from (is_text_value cut.0 && not (has_closing_mark cut.0)) (not (ends_in_mark cut.0))
          (and_from (is_text_value cut.0) (not (has_closing_mark cut.0)) e (not_from_false _ h.closing)) (not_from_false _ h.ending))
          (λ e. tt)
    ] (until_closing-cut text)

mark_or_word_spelled : (o : Option (List ℕ)) (x : Option s.Sign) (text : List ℕ) → IsSpelledFound (mark_or_word o x text)
mark_or_word_spelled (Some rest) x text = quoted_spelled rest
mark_or_word_spelled None (Some x) text = tt
mark_or_word_spelled None None text = word_spelled text

lexeme_at-spelled : (text : List ℕ) → IsSpelledFound (lexeme_at text)
unfolding lexeme_at
lexeme_at-spelled [] = tt
lexeme_at-spelled (c ∷ cs) =
    cond_both (is_ascii_digit c) (numeral_at (c ∷ cs)) (mark_or_word (opened (c ∷ cs)) (sign_at (c ∷ cs)) (c ∷ cs)) IsSpelledFound
    (λ e. numeral_spelled c cs e) (λ e. mark_or_word_spelled (opened (c ∷ cs)) (sign_at (c ∷ cs)) (c ∷ cs))

-- ---- all lexemes of a text

abbrev pub AreSpelledLexemes : List Lexeme → Type 0
AreSpelledLexemes [] = Unit {0}
AreSpelledLexemes (x ∷ xs) = IsSpelledLexeme x × AreSpelledLexemes xs

abbrev pub AreSpelledPlaced : Result (List Placed) ℕ → Type 0
AreSpelledPlaced (Ok xs) = AreSpelledLexemes (map (λ (x : Placed). x.lexeme) xs)
AreSpelledPlaced (Err place) = Unit {0}

in_front_spelled : (x : Placed) (r : Result (List Placed) ℕ) → IsSpelledLexeme x.lexeme → AreSpelledPlaced r → AreSpelledPlaced (in_front x r)
in_front_spelled x (Ok xs) h k = (h, k)
in_front_spelled x (Err place) h k = tt

with_lexeme_spelled : (o : Option (Lexeme × ℕ)) (place : ℕ) (after : ℕ → Result (List Placed) ℕ) → IsSpelledFound o → ((n : ℕ) → AreSpelledPlaced (after n))
    → AreSpelledPlaced (with_lexeme o place after)
with_lexeme_spelled None place after h k = tt
with_lexeme_spelled (Some x) place after h k = in_front_spelled (record { place = place; lexeme = x.0 }) (after x.1) h (k x.1)

pub lexed_from-spelled : (text : List ℕ) (skipped place : ℕ) → AreSpelledPlaced (lexed_from skipped place text)
unfolding lexed_from
lexed_from-spelled [] skipped place = tt
lexed_from-spelled (c ∷ cs) (suc skipped) place = lexed_from-spelled cs skipped (place + 1)
lexed_from-spelled (c ∷ cs) zero place =
    cond_both (is_blank c) (lexed_from 0 (place + 1) cs) (with_lexeme (lexeme_at (c ∷ cs)) place (λ n. lexed_from (n - 1) (place + 1) cs)) AreSpelledPlaced
    (λ e. lexed_from-spelled cs 0 (place + 1))
    (λ e. with_lexeme_spelled (lexeme_at (c ∷ cs)) place (λ n. lexed_from (n - 1) (place + 1) cs) (lexeme_at-spelled (c ∷ cs)) (λ n. lexed_from-spelled cs (n - 1) (place + 1)))
