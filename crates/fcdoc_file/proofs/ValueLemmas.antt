-- The values of a text of the first form may stand between quotes as they are.
use Rattle.std.proofs.Common.{◌≡◌, ℕ, ℤ, ◌+◌, ◌<◌, ◌^◌, Bool, true, false, not, ◌&&◌, eqb, List, [], ◌∷◌, refl, arith}
use Rattle.std.specs.Fmt.{decimal}
use Rattle.std.specs.List.{list_all, AllByRecursion}
use Rattle.std.specs.Cmp.Derive.{both_true}
use Rattle.std.proofs.lemmas.Bool.Decides.{nat_tests}
use Rattle.std.proofs.lemmas.List.Elements.{recursion_from_All}
use Rattle.fc_base.specs.Texts.{is_name, is_name_byte}
use Rattle.fc_base.proofs.NameLemmas.{is_name-bytes}
use Rattle.quantities.specs.Amounts.{IsAmount}
use Rattle.quantities.specs.Texts.{nine_text}
use Rattle.quantities.proofs.TextLemmas.{list_all-decimal, list_all-nine_text}
use Rattle.fcxml_profile.specs.Faults.{is_forbidden}
use Rattle.fcxml_profile.proofs.SpelledLemmas.{IsPlain}
use Rattle.fcdoc_file.proofs.CursorLemmas.{both_tests}

-- a byte that may stand in a value as it is
abbrev pub is_value_byte : ℕ → Bool
is_value_byte c = not (eqb c 34) && not (eqb c 60) && not (is_forbidden c)

-- such bytes alone
abbrev pub IsValue : List ℕ → Type 0
IsValue text = list_all is_value_byte text ≡ true

-- no quote, no `<`, and no character that XML forbids
pub value_test : (c : ℕ) → is_value_byte c ≡ true → (not (eqb c 34) ≡ true) × (not (eqb c 60) ≡ true) × (not (is_forbidden c) ≡ true)
value_test c e =
    let tests = both_tests (not (eqb c 34) && not (eqb c 60)) (not (is_forbidden c)) e in
    let marks = both_tests (not (eqb c 34)) (not (eqb c 60)) tests.0 in
    (marks.0, marks.1, tests.1)

not_is : (b : Bool) → not b ≡ true → b ≡ false
not_is true e = absurd (cc)
not_is false e = refl

pub plain : (text : List ℕ) → IsValue text → IsPlain text
plain [] e = record { no_quote = tt; no_markup = tt }
plain (c ∷ cs) e =
    let parts = both_tests (is_value_byte c) (list_all is_value_byte cs) e in
    let tests = value_test c parts.0 in
    let later = plain cs parts.1 in
    record { no_quote = (not_is (eqb c 34) tests.0, later.no_quote); no_markup = (not_is (eqb c 60) tests.1, later.no_markup) }

name_byte : (b : ℕ) → is_name_byte b ≡ true → is_value_byte b ≡ true
name_byte b e = grind (arith, nat_tests)

names_bytes : (text : List ℕ) → AllByRecursion (λ b. is_name_byte b ≡ true) text → IsValue text
names_bytes [] all = refl
names_bytes (b ∷ bs) all = both_true (name_byte b all.0) (names_bytes bs all.1)

pub name_value : (text : List ℕ) → is_name text ≡ true → IsValue text
name_value text name = names_bytes text (recursion_from_All (λ b. is_name_byte b ≡ true) text (is_name-bytes text name))

digit_value : (d : ℕ) → d < 10 → is_value_byte (48 + d) ≡ true
digit_value d below = grind (arith, nat_tests)

pub decimal_value : (n : ℕ) → n < 2 ^ 32 → IsValue (decimal n)
decimal_value n small = list_all-decimal is_value_byte digit_value n (omega arith)

pub amount_value : (a : ℤ) → IsAmount a → IsValue (nine_text a)
amount_value a within = list_all-nine_text is_value_byte digit_value refl refl a within
