-- The longest front of a text that passes a test, and the first thing of a list that does.
use Rattle.std.proofs.Common.{◌≡◌, ℕ, zero, suc, ◌+◌, ◌<◌, ◌≤◌, Bool, true, false, cond, eqb, List, [], ◌∷◌, ◌++◌, length, length-append, add-one, get_or, take, drop, Some, refl, sym, ap, ◌∙◌, ⊎_elim, arith}
use Rattle.std.specs.List.{find}
use Rattle.std.proofs.lemmas.Bool.{cases_Bool, cases_lt, cond-true, cond-false, false_from_ne_true, both_ways, eq-eqb, ne_eqb}
use Rattle.std.proofs.lemmas.List.{at_drop_more, take_at}
use Rattle.expr_tokens.specs.Longest.{longest, longest_within}

module _ (test : List ℕ → Bool) where
  -- a front that passes, and no longer one does
  longest_within-is : (most n : ℕ) (text : List ℕ) → n ≤ most → (0 < n → test (take n text) ≡ true)
      → ((m : ℕ) → m ≤ most → test (take m text) ≡ true → m ≤ n) → longest_within test most text ≡ n
  unfolding longest_within
  longest_within-is zero n text within passes none = omega arith
  longest_within-is (suc k) n text within passes none = ⊎_elim
      (λ less.
      let fails : test (take (suc k) text) ≡ false = false_from_ne_true _ (λ e. let high = none (suc k) (omega arith) e in omega arith) in
      cond-false (test (take (suc k) text)) (suc k) (longest_within test k text) fails
      ∙ longest_within-is k n text (omega arith) passes (λ m le e. none m (omega arith) e))
      (λ most.
      let same : n ≡ suc k = omega arith in
      let passing : test (take (suc k) text) ≡ true = ap (λ m. test (take m text)) (sym same) ∙ passes (omega arith) in
      cond-true (test (take (suc k) text)) (suc k) (longest_within test k text) passing ∙ sym same)
      (cases_lt n (suc k))

  pub longest-is : (n : ℕ) (text : List ℕ) → n ≤ length text → (0 < n → test (take n text) ≡ true)
      → ((m : ℕ) → m ≤ length text → test (take m text) ≡ true → m ≤ n) → longest test text ≡ n
  unfolding longest
  longest-is n text within passes none = longest_within-is (length text) n text within passes none

  longest_within-le : (most : ℕ) (text : List ℕ) → longest_within test most text ≤ most
  unfolding longest_within
  longest_within-le zero text = omega arith
  longest_within-le (suc k) text = ⊎_elim
      (λ e. omega (arith, cond-true (test (take (suc k) text)) (suc k) (longest_within test k text) e))
      (λ e. omega (arith, cond-false (test (take (suc k) text)) (suc k) (longest_within test k text) e, longest_within-le k text))
      (cases_Bool (test (take (suc k) text)))

  longest_within-passes : (most : ℕ) (text : List ℕ) → 0 < longest_within test most text → test (take (longest_within test most text) text) ≡ true
  unfolding longest_within
  longest_within-passes zero text some = absurd (omega arith)
  longest_within-passes (suc k) text some = ⊎_elim
      (λ e. ap (λ m. test (take m text)) (cond-true (test (take (suc k) text)) (suc k) (longest_within test k text) e) ∙ e)
      (λ e.
      let same = cond-false (test (take (suc k) text)) (suc k) (longest_within test k text) e in
      ap (λ m. test (take m text)) same ∙ longest_within-passes k text (omega arith))
      (cases_Bool (test (take (suc k) text)))

  -- the longest front is one, and it passes
  pub longest-le : (text : List ℕ) → longest test text ≤ length text
  unfolding longest
  longest-le text = longest_within-le (length text) text

  pub longest-passes : (text : List ℕ) → 0 < longest test text → test (take (longest test text) text) ≡ true
  unfolding longest
  longest-passes text some = longest_within-passes (length text) text some

  longest_within-most : (most n : ℕ) (text : List ℕ) → n ≤ most → test (take n text) ≡ true → n ≤ longest_within test most text
  unfolding longest_within
  longest_within-most zero n text within passes = within
  longest_within-most (suc k) n text within passes = ⊎_elim
      (λ e. omega (arith, cond-true (test (take (suc k) text)) (suc k) (longest_within test k text) e))
      (λ e.
      let other : n ≡ suc k → ⊥ = λ same. both_ways _ e (ap (λ m. test (take m text)) (sym same) ∙ passes) in
      omega (arith, cond-false (test (take (suc k) text)) (suc k) (longest_within test k text) e, longest_within-most k n text (omega arith) passes))
      (cases_Bool (test (take (suc k) text)))

  -- no front that passes is longer
  pub longest-most : (n : ℕ) (text : List ℕ) → n ≤ length text → test (take n text) ≡ true → n ≤ longest test text
  unfolding longest
  longest-most n text within passes = longest_within-most (length text) n text within passes

  pub longest-front : (front rest : List ℕ) → test front ≡ true → length front ≤ longest test (front ++ rest)
  longest-front front rest passes =
      longest-most (length front) (front ++ rest) (omega (arith, length-append front rest)) (ap test (take_at front rest (length front) refl) ∙ passes)

  -- nothing passes
  pub longest-none : (text : List ℕ) → ((m : ℕ) → m ≤ length text → test (take m text) ≡ true → ⊥) → longest test text ≡ 0
  longest-none text none = longest-is 0 text (omega arith) (λ some. absurd (omega arith)) (λ m within passes. absurd (none m within passes))

-- a byte in front, behind which another test decides
pub longest-behind : (test behind : List ℕ → Bool) (c : ℕ) (rest : List ℕ) → test [] ≡ false → behind [] ≡ false → ((cs : List ℕ) → test (c ∷ cs) ≡ behind cs)
    → longest test (c ∷ rest) ≡ cond (eqb (longest behind rest) 0) 0 (longest behind rest + 1)
longest-behind test behind c rest empty none shape = ⊎_elim
    (λ some.
    longest-is test (longest behind rest + 1) (c ∷ rest) (omega (arith, longest-le behind rest))
    (λ _. passes some)
    (reaches)
    ∙ sym (cond-false (eqb (longest behind rest) 0) 0 (longest behind rest + 1) (ne_eqb _ _ (λ e. omega arith))))
    (λ zero.
    longest-is test 0 (c ∷ rest) (omega arith) (λ some. absurd (omega arith)) (stops (omega arith))
    ∙ sym (cond-true (eqb (longest behind rest) 0) 0 (longest behind rest + 1) (eq-eqb _ _ (omega arith))))
    (cases_lt 0 (longest behind rest))
  where
    passes : 0 < longest behind rest → test (take (longest behind rest + 1) (c ∷ rest)) ≡ true
    passes some = rw add-one (shape (take (longest behind rest) rest) ∙ longest-passes behind rest some)

    reaches : (m : ℕ) → m ≤ length (c ∷ rest) → test (take m (c ∷ rest)) ≡ true → m ≤ longest behind rest + 1
    reaches zero within marked = omega arith
    reaches (suc j) within marked = omega (arith, longest-most behind j rest (omega arith) (sym (shape (take j rest)) ∙ marked))

    stops : longest behind rest ≡ 0 → (m : ℕ) → m ≤ length (c ∷ rest) → test (take m (c ∷ rest)) ≡ true → m ≤ 0
    stops nothing zero within marked = omega arith
    stops nothing (suc j) within marked =
        let passing : behind (take j rest) ≡ true = sym (shape (take j rest)) ∙ marked in
        let at : j ≡ 0 = omega (arith, longest-most behind j rest (omega arith) passing) in
        absurd (both_ways _ none (ap (λ k. behind (take k rest)) (sym at) ∙ passing))

-- what fails is passed over
pub find-drop_no : {X : Type 0} (p : X → Bool) (xs : List X) (i : ℕ) (x : X) → i < length xs → p (get_or xs i x) ≡ false → find p (drop (i + 1) xs) ≡ find p (drop i xs)
find-drop_no p xs i x below fails =
    sym (at_drop_more (find p) xs i x below ∙ cond-false (p (get_or xs i x)) (Some (get_or xs i x)) (find p (drop (i + 1) xs)) fails)
