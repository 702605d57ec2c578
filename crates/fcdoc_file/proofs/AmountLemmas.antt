-- An amount is read from its text with nine decimals, and from no other.
use Rattle.std.proofs.Common.{◌≡◌, ℕ, ℤ, List, Option, None, Some, IfSome, leb, refl, sym, ap, ◌∙◌, subst, unsigned_abs}
use Rattle.std.specs.Str.{bytes_eq}
use Rattle.std.specs.Cmp.Derive.{both_true}
use Rattle.std.proofs.lemmas.Bool.{leb-true, le-leb}
use Rattle.std.proofs.lemmas.Option.{cond_some}
use Rattle.std.proofs.lemmas.Slice.Eq.{bytes_eq-Decides}
use Rattle.quantities.specs.Amounts.{IsAmount, greatest, signed}
use Rattle.quantities.specs.Digits.{number_after, begins_with_minus}
use Rattle.quantities.specs.Texts.{nine_text}
use Rattle.quantities.proofs.ReadLemmas.{number_after-nine_text, begins-nine_text, signed-parts}
use Rattle.fcdoc_file.specs.Reading.{amount_of}
use Rattle.fcdoc_file.proofs.CursorLemmas.{both_tests, none_unless}

pub amount_of-nine_text : (a : ℤ) → IsAmount a → amount_of (nine_text a) ≡ Some a
unfolding amount_of
amount_of-nine_text a within =
    rw (
      begins-nine_text a within,
      number_after-nine_text a within,
      signed-parts a,
      both_true (le-leb (unsigned_abs a) greatest within) ((bytes_eq-Decides (nine_text a) (nine_text a)).1 refl),
    )

pub amount_of_some : (text : List ℕ) (a : ℤ) → amount_of text ≡ Some a → (text ≡ nine_text a) × IsAmount a
unfolding amount_of
amount_of_some text a e =
    let found = cond_some _ _ a e in
    let candidate = signed (begins_with_minus text) (number_after 0 text) in
    let tests = both_tests (leb (unsigned_abs candidate) greatest) (bytes_eq (nine_text candidate) text) found.0 in
    subst (λ (z : ℤ). (text ≡ nine_text z) × IsAmount z) found.1 (sym ((bytes_eq-Decides (nine_text candidate) text).0 tests.1), leb-true (unsigned_abs candidate) greatest tests.0)

-- what reads exactly the texts of amounts gives what this gives
pub amount_of-exact : (text : List ℕ) (r : Option ℤ) → IfSome r (λ a. (text ≡ nine_text a) × IsAmount a)
    → ((a : ℤ) → IsAmount a → text ≡ nine_text a → r ≡ Some a) → r ≡ amount_of text
amount_of-exact text None found only = none_unless (amount_of text) (λ a e. let facts = amount_of_some text a e in let r = only a facts.1 facts.0 in absurd (cc))
amount_of-exact text (Some a) found only = sym (ap amount_of found.0 ∙ amount_of-nine_text a found.1)
