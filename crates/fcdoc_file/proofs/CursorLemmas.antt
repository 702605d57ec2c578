-- What is cut off at a quote, and which texts are numerals.
use Rattle.std.proofs.Common.{◌≡◌, ◌≢◌, ◌<◌, ℕ, Bool, true, false, cond, List, [], ◌∷◌, ◌++◌, length, Option, None, Some, refl, sym, ap, ◌∙◌, subst, arith, eqb, ltb, ◌&&◌, suc, get_or, lit<, ◌^◌, Result, Ok, inl, inr}
use Rattle.std.proofs.lemmas.Bool.{eqb-true, eq-eqb, ltb-true, lt-ltb}
use Rattle.std.specs.Fmt.{decimal}
use Rattle.std.specs.Str.{bytes_eq}
use Rattle.std.specs.Str.Parse.{digits_value, ParsesUnsigned}
use Rattle.std.proofs.lemmas.Fmt.{decimal_is_IsNumeral, parse-decimal}
use Rattle.std.proofs.lemmas.Option.{cond_some}
use Rattle.std.proofs.lemmas.Slice.Eq.{bytes_eq-Decides}
use Rattle.std.specs.Cmp.Derive.{both_true}
use Rattle.fcxml_profile.specs.Fronts.{split_at, with_byte}
use Rattle.fcxml_profile.proofs.FrontLemmas.{IsWithout}
use Rattle.fcdoc_file.specs.Cursor.{quoted, spells, numeral}

-- what is cut off at the first quote
abbrev pub CutsAt : List ℕ → List ℕ × List ℕ → Type 0
CutsAt text cut = (text ≡ cut.0 ++ 34 ∷ cut.1) × IsWithout 34 cut.0

with_byte_some : (b : ℕ) (bs : List ℕ) (q : Option (List ℕ × List ℕ)) (cut : List ℕ × List ℕ) → eqb b 34 ≡ false
    → ((inner : List ℕ × List ℕ) → q ≡ Some inner → CutsAt bs inner) → with_byte b q ≡ Some cut → CutsAt (b ∷ bs) cut
with_byte_some b bs None cut other inner e = absurd (cc)
with_byte_some b bs (Some q) cut other inner e =
    let same : (b ∷ q.0, q.1) ≡ cut = cc in
    let P : List ℕ × List ℕ → Type 0 = CutsAt (b ∷ bs) in
    subst P same (ap (λ l. b ∷ l) (inner q refl).0, (other, (inner q refl).1))

pub quoted_some : (text : List ℕ) (cut : List ℕ × List ℕ) → quoted text ≡ Some cut → CutsAt text cut
unfolding split_at
quoted_some [] cut e = absurd (cc)
quoted_some (b ∷ bs) cut e =
    elim (eqb b 34) as (λ t. eqb b 34 ≡ t → cond t (Some ([], bs)) (with_byte b (quoted bs)) ≡ Some cut → CutsAt (b ∷ bs) cut) [
      | true ↦ λ same found.
          let here : ([], bs) ≡ cut = cc in
          let P : List ℕ × List ℕ → Type 0 = CutsAt (b ∷ bs) in
          subst P here (ap (λ c. c ∷ bs) (eqb-true b 34 same), tt)
      | false ↦ λ other found. with_byte_some b bs (quoted bs) cut other (λ inner e'. quoted_some bs inner e') found
    ] refl e

-- ---- numerals

-- of two tests that pass together each passes
pub both_tests : (a b : Bool) → (a && b) ≡ true → (a ≡ true) × (b ≡ true)
both_tests true b e = (refl, e)
both_tests false b e = absurd (cc)

spells_facts : (digits : List ℕ) (n : ℕ) → spells digits n ≡ true → (digits ≡ decimal n) × (0 < n) × (n < 2 ^ 32)
spells_facts digits n e =
    let tests = both_tests (ltb 0 n && ltb n 4294967296) (bytes_eq (decimal n) digits) e in
    let range = both_tests (ltb 0 n) (ltb n 4294967296) tests.0 in
    (sym ((bytes_eq-Decides (decimal n) digits).0 tests.1), ltb-true 0 n range.0, ltb-true n 4294967296 range.1)

spells-decimal : (n : ℕ) → 0 < n → n < 2 ^ 32 → spells (decimal n) n ≡ true
spells-decimal n low high =
    both_true (both_true (lt-ltb 0 n low) (lt-ltb n 4294967296 high)) ((bytes_eq-Decides (decimal n) (decimal n)).1 refl)

pub numeral-decimal : (n : ℕ) → 0 < n → n < 2 ^ 32 → numeral (decimal n) ≡ Some n
unfolding numeral
numeral-decimal n low high =
    let value : digits_value 10 (decimal n) ≡ n = (decimal_is_IsNumeral n (omega arith)).1 in
    rw (value, spells-decimal n low high)

pub numeral_some : (digits : List ℕ) (n : ℕ) → numeral digits ≡ Some n → (digits ≡ decimal n) × (0 < n) × (n < 2 ^ 32)
unfolding numeral
numeral_some digits n e =
    let found = cond_some _ _ n e in
    subst (λ (m : ℕ). (digits ≡ decimal m) × (0 < m) × (m < 2 ^ 32)) found.1 (spells_facts digits (digits_value 10 digits) found.0)

-- what parses as the numeral that stands there
pub parse-numeral : {E : Type 0} (digits : List ℕ) (r : Result ℕ E) (n : ℕ) → ParsesUnsigned 32 10 digits r → numeral digits ≡ Some n → r ≡ Ok n
parse-numeral digits r n parses e = let facts = numeral_some digits n e in parse-decimal 32 n digits r facts.2 (omega arith) facts.0 parses

-- there is nothing where each value that could be there is impossible
pub none_unless : {A : Type 0} (o : Option A) → ((x : A) → o ≡ Some x → ⊥) → None ≡ o
none_unless None impossible = refl
none_unless (Some x) impossible = absurd (impossible x refl)

-- a text that does not parse is no numeral
pub numeral-fails : (digits : List ℕ) (parsed : Option ℕ) → ((n : ℕ) → numeral digits ≡ Some n → parsed ≡ Some n) → parsed ≡ None → None ≡ numeral digits
numeral-fails digits parsed parses fails = none_unless (numeral digits) (λ n found. let is = parses n found in absurd (cc))

-- a text that parses as a number which it does not spell is no numeral
pub numeral-differs : (digits : List ℕ) (parsed : Option ℕ) (number : ℕ) → ((n : ℕ) → numeral digits ≡ Some n → parsed ≡ Some n) → parsed ≡ Some number
    → (digits ≡ decimal number → 0 < number → ⊥) → None ≡ numeral digits
numeral-differs digits parsed number parses is differs = none_unless (numeral digits) (λ n found.
    let facts = numeral_some digits n found in
    let also = parses n found in
    let same : n ≡ number = cc in
    differs (facts.0 ∙ ap decimal same) (subst (λ (m : ℕ). 0 < m) same facts.1))
