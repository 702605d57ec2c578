-- What each step of the reading finds stands in the text, and what stands in the text is found.
use Rattle.std.proofs.Common.{◌≡◌, ℕ, ◌+◌, ◌<◌, ◌^◌, ◌%◌, true, false, not, ◌&&◌, eqb, List, [], ◌∷◌, ◌++◌, Option, None, Some, refl, sym, ap, ◌∙◌, subst, arith}
use Rattle.std.specs.Fmt.{decimal}
use Rattle.std.specs.List.{list_all, AllByRecursion}
use Rattle.std.proofs.lemmas.Fmt.{decimal_by_steps_wide}
use Rattle.std.proofs.lemmas.Bool.{eqb-true}
use Rattle.std.proofs.lemmas.Bool.Decides.{nat_tests}
use Rattle.std.proofs.lemmas.Option.{cond_some}
use Rattle.std.proofs.Math.Nat.{mod-lt}
use Rattle.std.proofs.lemmas.List.Elements.{recursion_from_All}
use Rattle.fc_base.specs.Texts.{is_name, is_name_byte}
use Rattle.fc_base.proofs.NameLemmas.{is_name-bytes}
use Rattle.fcxml_profile.specs.Fronts.{◌>>=◌, after}
use Rattle.fcxml_profile.proofs.FrontLemmas.{IsWithout, after-append, after_some, split_at-append}
use Rattle.fcdoc_file.specs.Cursor.{quoted, numeral}
use Rattle.fcdoc_file.specs.Reading.{quoted_at, name_at, count_at, known_at}
use Rattle.fcdoc_file.proofs.CursorLemmas.{quoted_some, numeral-decimal, numeral_some}

-- the value of a step that found something
pub then_some : {A B : Type 0} (o : Option A) (f : A → Option B) (y : B) → (o >>= f) ≡ Some y → (x : A) × (o ≡ Some x) × (f x ≡ Some y)
then_some None f y e = absurd (cc)
then_some (Some x) f y e = (x, refl, e)

-- a step that finds something goes on
pub goes : {A B : Type 0} (o : Option A) (f : A → Option B) (x : A) (y : Option B) → o ≡ Some x → f x ≡ y → (o >>= f) ≡ y
goes o f x y found next = ap (λ z. z >>= f) found ∙ next

pub some_is : {A : Type 0} (x y : A) → Some x ≡ Some y → x ≡ y
some_is x y e = cc

-- ---- texts without quotes

pub no_quote : (text : List ℕ) → list_all (λ c. not (eqb c 34)) text ≡ true → IsWithout 34 text
no_quote [] e = tt
no_quote (c ∷ cs) e =
    elim (eqb c 34) as (λ t. eqb c 34 ≡ t → (not t && list_all (λ b. not (eqb b 34)) cs) ≡ true → IsWithout 34 (c ∷ cs)) [
      | true ↦ λ _ f. absurd (cc)
      | false ↦ λ other rest. (other, no_quote cs rest)
    ] refl e

no_quote-append : (xs ys : List ℕ) → IsWithout 34 xs → IsWithout 34 ys → IsWithout 34 (xs ++ ys)
no_quote-append [] ys h k = k
no_quote-append (x ∷ xs) ys h k = (h.0, no_quote-append xs ys h.1 k)

digit_no_quote : (d : ℕ) → d < 10 → eqb (48 + d) 34 ≡ false
digit_no_quote d below = grind (arith, nat_tests)

pub decimal-no_quote : (n : ℕ) → n < 2 ^ 32 → IsWithout 34 (decimal n)
decimal-no_quote n small =
    decimal_by_steps_wide (λ m ds. IsWithout 34 ds) (λ m below. (digit_no_quote m below, tt))
    (λ m ds above h. no_quote-append ds ((48 + m % 10) ∷ []) h (digit_no_quote (m % 10) (mod-lt m (omega arith)), tt)) n (omega arith)

-- a byte of a name is no quote
other : (b : ℕ) → is_name_byte b ≡ true → eqb b 34 ≡ false
other b e =
    elim (eqb b 34) as (λ t. eqb b 34 ≡ t → t ≡ false) [
      | true ↦ λ same. let quote : is_name_byte 34 ≡ true = ap is_name_byte (sym (eqb-true b 34 same)) ∙ e in absurd (cc)
      | false ↦ λ _. refl
    ] refl

name_no_quote : (text : List ℕ) → AllByRecursion (λ b. is_name_byte b ≡ true) text → IsWithout 34 text
name_no_quote [] h = tt
name_no_quote (b ∷ bs) h = (other b h.0, name_no_quote bs h.1)

pub is_name-no_quote : (text : List ℕ) → is_name text ≡ true → IsWithout 34 text
is_name-no_quote text name = name_no_quote text (recursion_from_All (λ b. is_name_byte b ≡ true) text (is_name-bytes text name))

-- ---- the steps

pub known_at-append : (literal known rest : List ℕ) → known_at literal known (literal ++ (known ++ 34 ∷ rest)) ≡ Some rest
unfolding known_at after
known_at-append literal known rest = rw (after-append literal (known ++ 34 ∷ rest), after-append known (34 ∷ rest)) refl

pub known_at_some : (literal known text rest : List ℕ) → known_at literal known text ≡ Some rest → text ≡ literal ++ (known ++ 34 ∷ rest)
unfolding known_at
known_at_some literal known text rest e =
    let opened = then_some (after literal text) _ rest e in
    let closed = then_some (after known opened.0) _ rest opened.2 in
    after_some literal text opened.0 opened.1
    ∙ ap (λ t. literal ++ t) (after_some known opened.0 closed.0 closed.1 ∙ ap (λ t. known ++ t) (after_some (34 ∷ []) closed.0 rest closed.2))

pub quoted_at-append : (literal front rest : List ℕ) → IsWithout 34 front → quoted_at literal (literal ++ (front ++ 34 ∷ rest)) ≡ Some (front, rest)
unfolding quoted_at
quoted_at-append literal front rest none = rw (after-append literal (front ++ 34 ∷ rest)) (split_at-append 34 front rest none)

pub quoted_at_some : (literal text : List ℕ) (cut : List ℕ × List ℕ) → quoted_at literal text ≡ Some cut → text ≡ literal ++ (cut.0 ++ 34 ∷ cut.1)
unfolding quoted_at
quoted_at_some literal text cut e =
    let opened = then_some (after literal text) quoted cut e in
    after_some literal text opened.0 opened.1 ∙ ap (λ t. literal ++ t) (quoted_some opened.0 cut opened.2).0

pub name_at-append : (literal name rest : List ℕ) → is_name name ≡ true → name_at literal (literal ++ (name ++ 34 ∷ rest)) ≡ Some (name, rest)
unfolding name_at
name_at-append literal name rest is = rw (quoted_at-append literal name rest (is_name-no_quote name is), is) refl

pub name_at_some : (literal text : List ℕ) (cut : List ℕ × List ℕ) → name_at literal text ≡ Some cut → (text ≡ literal ++ (cut.0 ++ 34 ∷ cut.1)) × (is_name cut.0 ≡ true)
unfolding name_at
name_at_some literal text cut e =
    let found = then_some (quoted_at literal text) _ cut e in
    let tested = cond_some (is_name found.0.0) found.0 cut found.2 in
    subst (λ (c : List ℕ × List ℕ). (text ≡ literal ++ (c.0 ++ 34 ∷ c.1)) × (is_name c.0 ≡ true)) tested.1 (quoted_at_some literal text found.0 found.1, tested.0)

pub count_at-append : (literal : List ℕ) (n : ℕ) (rest : List ℕ) → 0 < n → n < 2 ^ 32 → count_at literal (literal ++ (decimal n ++ 34 ∷ rest)) ≡ Some (n, rest)
unfolding count_at
count_at-append literal n rest low high = rw (quoted_at-append literal (decimal n) rest (decimal-no_quote n high), numeral-decimal n low high) refl

pub count_at_some : (literal text : List ℕ) (x : ℕ × List ℕ) → count_at literal text ≡ Some x → (text ≡ literal ++ (decimal x.0 ++ 34 ∷ x.1)) × (0 < x.0) × (x.0 < 2 ^ 32)
unfolding count_at
count_at_some literal text x e =
    let cut = then_some (quoted_at literal text) _ x e in
    let n = then_some (numeral cut.0.0) _ x cut.2 in
    let facts = numeral_some cut.0.0 n.0 n.1 in
    let stands : text ≡ literal ++ (decimal n.0 ++ 34 ∷ cut.0.1) = quoted_at_some literal text cut.0 cut.1 ∙ ap (λ t. literal ++ (t ++ 34 ∷ cut.0.1)) facts.0 in
    subst (λ (y : ℕ × List ℕ). (text ≡ literal ++ (decimal y.0 ++ 34 ∷ y.1)) × (0 < y.0) × (y.0 < 2 ^ 32)) (some_is (n.0, cut.0.1) x n.2) (stands, facts.1, facts.2)
