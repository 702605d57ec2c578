-- The longest digits, fraction and exponent in front of a text.
use Rattle.std.proofs.Common.{◌≡◌, ℕ, zero, suc, ◌+◌, ◌-◌, ◌<◌, ◌≤◌, Bool, true, false, cond, ◌&&◌, ◌||◌, ◌==◌, eqb, nat_le, List, [], ◌∷◌, ◌++◌, length, take, drop, get_or, refl, sym, ap, ◌∙◌, ⊎_elim, length-take, arith}
use Rattle.std.proofs.Math.Seq.{take-append-add}
use Rattle.std.specs.Char.{is_ascii_digit}
use Rattle.std.specs.List.{list_all, prefix_len}
use Rattle.std.proofs.lemmas.Bool.{and_parts, and_from, both_ways, cases_lt, leb-true, le-leb, cond-false, false≢true}
use Rattle.std.proofs.lemmas.List.{take-take, get_or-take, take_all}
use Rattle.std.proofs.lemmas.List.Sums.{prefix_len_passes, prefix_len_stops, prefix_len-le-length, list_all-from_AllPass}
use Rattle.std.proofs.lemmas.List.Elements.{All-from_get_or}
use Rattle.quantities.specs.Decimals.{are_digits, is_mark, without_sign}
use Rattle.quantities.specs.declared.mark.Mark.TheVariants.{Point, Exponent}
use Rattle.expr_tokens.specs.Longest.{longest}
use Rattle.expr_tokens.specs.NumeralParts.{is_fraction, is_signed, is_exponent}
use Rattle.expr_tokens.proofs.LongestFronts.{longest-is, longest-none, longest-behind, longest-le, longest-most, longest-passes}

list_all-at : (p : ℕ → Bool) (xs : List ℕ) (i : ℕ) → list_all p xs ≡ true → i < length xs → p (get_or xs i 0) ≡ true
list_all-at p [] i all below = absurd (omega arith)
list_all-at p (x ∷ xs) zero all below = (and_parts (p x) (list_all p xs) all).0
list_all-at p (x ∷ xs) (suc i) all below = list_all-at p xs i (and_parts (p x) (list_all p xs) all).1 (omega arith)

pub list_all-middle : (p : ℕ → Bool) (xs ys : List ℕ) (x : ℕ) → list_all p (xs ++ x ∷ ys) ≡ true → p x ≡ true
list_all-middle p [] ys x all = (and_parts (p x) (list_all p ys) all).0
list_all-middle p (y ∷ xs) ys x all = list_all-middle p xs ys x (and_parts (p y) (list_all p (xs ++ x ∷ ys)) all).1

-- the three parts of the test on digits
pub digits-some : (most : ℕ) (text : List ℕ) → are_digits most text ≡ true → 1 ≤ length text
digits-some most text h = leb-true 1 (length text) (and_parts _ _ (and_parts (nat_le 1 (length text) && nat_le (length text) most) (list_all is_ascii_digit text) h).0).0

digits-few : (most : ℕ) (text : List ℕ) → are_digits most text ≡ true → length text ≤ most
digits-few most text h = leb-true (length text) most (and_parts _ _ (and_parts (nat_le 1 (length text) && nat_le (length text) most) (list_all is_ascii_digit text) h).0).1

pub digits-all : (most : ℕ) (text : List ℕ) → are_digits most text ≡ true → list_all is_ascii_digit text ≡ true
digits-all most text h = (and_parts (nat_le 1 (length text) && nat_le (length text) most) (list_all is_ascii_digit text) h).1

pub digits-from : (most : ℕ) (text : List ℕ) → 1 ≤ length text → length text ≤ most → list_all is_ascii_digit text ≡ true → are_digits most text ≡ true
digits-from most text some few all = and_from _ _ (and_from _ _ (le-leb 1 (length text) some) (le-leb (length text) most few)) all

-- the run of digits, cut where there are more than so many, is the longest front of so many digits
pub digits-longest : (most : ℕ) (text : List ℕ) → prefix_len is_ascii_digit (take most text) ≡ longest (are_digits most) text
digits-longest most text =
    let run : ℕ = prefix_len is_ascii_digit (take most text) in
    let long : run ≤ length (take most text) = prefix_len-le-length is_ascii_digit (take most text) in
    let size = length-take most text in
    let front : take run (take most text) ≡ take run text = take-take run most text (omega arith) in
    let all : list_all is_ascii_digit (take run text) ≡ true =
    list_all-from_AllPass is_ascii_digit (take run text) (All-from_get_or (λ b. is_ascii_digit b ≡ true) (take run text) 0
    (λ i below.
    let within : i < run = omega (arith, length-take run text) in
    let few : i < most = omega arith in
    ap is_ascii_digit (get_or-take run text i 0 within ∙ sym (get_or-take most text i 0 few)) ∙ prefix_len_passes is_ascii_digit (take most text) i 0 within)) in
    sym (longest-is (are_digits most) run text (omega arith)
    (λ some. digits-from most (take run text) (omega (arith, length-take run text)) (omega (arith, length-take run text)) all)
    (λ m within digits. ⊎_elim
    (λ more.
    let few : m ≤ most = omega (arith, digits-few most (take m text) digits, length-take m text) in
    let here : run < most = omega arith in
    let stops = prefix_len_stops is_ascii_digit (take most text) 0 (omega arith) in
    let passes = list_all-at is_ascii_digit (take m text) run (digits-all most (take m text) digits) (omega (arith, length-take m text)) in
    absurd (both_ways (is_ascii_digit (get_or text run 0)) (ap is_ascii_digit (sym (get_or-take most text run 0 here)) ∙ stops)
    (ap is_ascii_digit (sym (get_or-take m text run 0 more)) ∙ passes)))
    (λ less. less)
    (cases_lt run m)))

-- digits do not reach past a byte that is none
pub digits-stop : (most : ℕ) (ds rest : List ℕ) (x j : ℕ) → is_ascii_digit x ≡ false → are_digits most (take j (ds ++ x ∷ rest)) ≡ true → j ≤ length ds
digits-stop most ds rest x j other digits = ⊎_elim
    (λ more.
    let k : ℕ = j - length ds - 1 in
    let at : length ds + suc k ≡ j = omega arith in
    let cut : take j (ds ++ x ∷ rest) ≡ ds ++ x ∷ take k rest = ap (λ n. take n (ds ++ x ∷ rest)) (sym at) ∙ take-append-add ds (x ∷ rest) (suc k) in
    absurd (both_ways (is_ascii_digit x) other (list_all-middle is_ascii_digit ds (take k rest) x (ap (list_all is_ascii_digit) (sym cut) ∙ digits-all most _ digits))))
    (λ less. less)
    (cases_lt (length ds) j)

-- ---- a fraction

pub fraction-point : (rest : List ℕ) → longest is_fraction (46 ∷ rest) ≡ cond (eqb (longest (are_digits 40) rest) 0) 0 (longest (are_digits 40) rest + 1)
fraction-point rest = longest-behind is_fraction (are_digits 40) 46 rest refl refl (λ cs. refl)

pub fraction-other : (c : ℕ) (rest : List ℕ) → is_mark Point c ≡ false → longest is_fraction (c ∷ rest) ≡ 0
fraction-other c rest other = longest-none is_fraction (c ∷ rest) none
  where
    none : (m : ℕ) → m ≤ length (c ∷ rest) → is_fraction (take m (c ∷ rest)) ≡ true → ⊥
    none zero within passes = false≢true passes
    none (suc m) within passes = both_ways _ other (and_parts (is_mark Point c) (are_digits 40 (take m rest)) passes).0

pub fraction-empty : longest is_fraction [] ≡ 0
fraction-empty = omega (arith, longest-le is_fraction [])

-- ---- an exponent

pub exponent-mark : (c : ℕ) (rest : List ℕ) → is_mark Exponent c ≡ true → longest is_exponent (c ∷ rest) ≡ cond (eqb (longest is_signed rest) 0) 0 (longest is_signed rest + 1)
exponent-mark c rest mark = longest-behind is_exponent is_signed c rest refl refl (λ cs. ap (λ b. b && is_signed cs) mark)

pub exponent-other : (c : ℕ) (rest : List ℕ) → is_mark Exponent c ≡ false → longest is_exponent (c ∷ rest) ≡ 0
exponent-other c rest other = longest-none is_exponent (c ∷ rest) none
  where
    none : (m : ℕ) → m ≤ length (c ∷ rest) → is_exponent (take m (c ∷ rest)) ≡ true → ⊥
    none zero within passes = false≢true passes
    none (suc m) within passes = both_ways _ other (and_parts (is_mark Exponent c) (is_signed (take m rest)) passes).0

pub exponent-empty : longest is_exponent [] ≡ 0
exponent-empty = omega (arith, longest-le is_exponent [])

pub signed-sign : (c : ℕ) (rest : List ℕ) → ((c == 43) || (c == 45)) ≡ true → longest is_signed (c ∷ rest) ≡ cond (eqb (longest (are_digits 2) rest) 0) 0 (longest (are_digits 2) rest + 1)
signed-sign c rest sign = longest-behind is_signed (are_digits 2) c rest refl refl (λ cs. ap (λ b. are_digits 2 (cond b cs (c ∷ cs))) sign)

-- without a sign in front the digits decide
pub signed-plain : (text : List ℕ) → ((m : ℕ) → without_sign (take m text) ≡ take m text) → longest is_signed text ≡ longest (are_digits 2) text
signed-plain text plain =
    longest-is is_signed (longest (are_digits 2) text) text (longest-le (are_digits 2) text)
    (λ some. ap (are_digits 2) (plain (longest (are_digits 2) text)) ∙ longest-passes (are_digits 2) text some)
    (λ m within signed. longest-most (are_digits 2) m text within (ap (are_digits 2) (sym (plain m)) ∙ signed))

pub plain-other : (c : ℕ) (rest : List ℕ) → ((c == 43) || (c == 45)) ≡ false → (m : ℕ) → without_sign (take m (c ∷ rest)) ≡ take m (c ∷ rest)
plain-other c rest other zero = refl
plain-other c rest other (suc m) = cond-false ((c == 43) || (c == 45)) (take m rest) (c ∷ take m rest) other

pub plain-empty : (m : ℕ) → without_sign (take m []) ≡ take m []
plain-empty zero = refl
plain-empty (suc m) = refl

-- ---- the same, where a text is known by its first byte and what follows

rest-cons : (text : List ℕ) → 1 ≤ length text → text ≡ get_or text 0 0 ∷ take (length text - 1) (drop 1 text)
rest-cons [] some = absurd (omega arith)
rest-cons (c ∷ cs) some = ap (λ (xs : List ℕ). c ∷ xs) (sym (take_all (length (c ∷ cs) - 1) cs (omega arith)))

pub fraction-found : (text : List ℕ) (n k : ℕ) → 1 ≤ length text → get_or text 0 0 ≡ 46 → n ≡ longest (are_digits 40) (take (length text - 1) (drop 1 text))
    → k ≡ cond (eqb n 0) 0 (n + 1) → k ≡ longest is_fraction text
fraction-found text n k some byte digits e =
    e ∙ ap (λ m. cond (eqb m 0) 0 (m + 1)) digits ∙ sym (fraction-point (take (length text - 1) (drop 1 text)))
    ∙ ap (λ c. longest is_fraction (c ∷ take (length text - 1) (drop 1 text))) (sym byte) ∙ ap (longest is_fraction) (sym (rest-cons text some))

pub fraction-absent : (text : List ℕ) → 1 ≤ length text → is_mark Point (get_or text 0 0) ≡ false → 0 ≡ longest is_fraction text
fraction-absent text some other =
    sym (ap (longest is_fraction) (rest-cons text some) ∙ fraction-other (get_or text 0 0) (take (length text - 1) (drop 1 text)) other)

pub exponent-found : (text : List ℕ) (n k : ℕ) → 1 ≤ length text → is_mark Exponent (get_or text 0 0) ≡ true → n ≡ longest is_signed (take (length text - 1) (drop 1 text))
    → k ≡ cond (eqb n 0) 0 (n + 1) → k ≡ longest is_exponent text
exponent-found text n k some mark digits e =
    e ∙ ap (λ m. cond (eqb m 0) 0 (m + 1)) digits ∙ sym (exponent-mark (get_or text 0 0) (take (length text - 1) (drop 1 text)) mark)
    ∙ ap (longest is_exponent) (sym (rest-cons text some))

pub exponent-absent : (text : List ℕ) → 1 ≤ length text → is_mark Exponent (get_or text 0 0) ≡ false → 0 ≡ longest is_exponent text
exponent-absent text some other =
    sym (ap (longest is_exponent) (rest-cons text some) ∙ exponent-other (get_or text 0 0) (take (length text - 1) (drop 1 text)) other)

pub signed-found : (text : List ℕ) (n k : ℕ) → 1 ≤ length text → ((get_or text 0 0 == 43) || (get_or text 0 0 == 45)) ≡ true
    → n ≡ longest (are_digits 2) (take (length text - 1) (drop 1 text)) → k ≡ cond (eqb n 0) 0 (n + 1) → k ≡ longest is_signed text
signed-found text n k some sign digits e =
    e ∙ ap (λ m. cond (eqb m 0) 0 (m + 1)) digits ∙ sym (signed-sign (get_or text 0 0) (take (length text - 1) (drop 1 text)) sign)
    ∙ ap (longest is_signed) (sym (rest-cons text some))

pub signed-absent : (text : List ℕ) → (1 ≤ length text → ((get_or text 0 0 == 43) || (get_or text 0 0 == 45)) ≡ false) → longest (are_digits 2) text ≡ longest is_signed text
signed-absent [] other = sym (signed-plain [] plain-empty)
signed-absent (c ∷ cs) other = sym (signed-plain (c ∷ cs) (plain-other c cs (other (omega arith))))

pub longest-empty : (test : List ℕ → Bool) (text : List ℕ) → length text < 1 → 0 ≡ longest test text
longest-empty test text none = omega (arith, longest-le test text)
