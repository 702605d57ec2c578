-- The longest front that passes a test is the one that passes, where no longer one does.
use Rattle.std.proofs.Common.{◌≡◌, ℕ, zero, suc, ◌<◌, ◌≤◌, ◌⊎◌, inl, inr, refl, Bool, true, false, cond, List, length, take, subst, sym, ◌∙◌, ⊎_elim, arith}
use Rattle.std.proofs.lemmas.Bool.{cond-true, cases_lt}
use Rattle.expr_tokens.specs.Longest.{longest, longest_within}

module _ (test : List ℕ → Bool) (text : List ℕ) (n : ℕ) where
  longest_within-le : (most : ℕ) → ((m : ℕ) → n < m → m ≤ most → test (take m text) ≡ false) → longest_within test most text ≤ n
  unfolding longest_within
  longest_within-le zero none = omega arith
  longest_within-le (suc most) none =
      let below : longest_within test most text ≤ n = longest_within-le most (λ m above within. none m above (omega arith)) in
      ⊎_elim
      (λ past. rw (none (suc most) past (omega arith)) below)
      (λ fits. elim (test (take (suc most) text)) as (λ b. cond b (suc most) (longest_within test most text) ≤ n) [ true ↦ fits | false ↦ below ])
      (cases_lt n (suc most))

  longest_within-is : (most : ℕ) → n ≤ most → (n ≡ 0) ⊎ (test (take n text) ≡ true) → ((m : ℕ) → n < m → m ≤ most → test (take m text) ≡ false)
      → longest_within test most text ≡ n
  unfolding longest_within
  longest_within-is zero within passes none = omega arith
  longest_within-is (suc most) within passes none =
      ⊎_elim
      (λ past. rw (none (suc most) past (omega arith)) (longest_within-is most (omega arith) passes (λ m above below. none m above (omega arith))))
      (λ fits.
      let last : suc most ≡ n = omega arith in
      ⊎_elim
      (λ empty. absurd (omega arith))
      (λ front. cond-true (test (take (suc most) text)) (suc most) (longest_within test most text) (subst (λ m. test (take m text) ≡ true) (sym last) front) ∙ last)
      passes)
      (cases_lt n (suc most))

  -- no front longer than that passes
  pub longest-le : ((m : ℕ) → n < m → m ≤ length text → test (take m text) ≡ false) → longest test text ≤ n
  unfolding longest
  longest-le none = longest_within-le (length text) none

  -- a front of that length passes, and no longer one
  pub longest-is : n ≤ length text → (n ≡ 0) ⊎ (test (take n text) ≡ true) → ((m : ℕ) → n < m → m ≤ length text → test (take m text) ≡ false)
      → longest test text ≡ n
  unfolding longest
  longest-is within passes none = longest_within-is (length text) within passes none

-- the longest front passes, unless it is empty
module _ (test : List ℕ → Bool) (text : List ℕ) where
  longest_within-passes : (most : ℕ) → (longest_within test most text ≡ 0) ⊎ (test (take (longest_within test most text) text) ≡ true)
  unfolding longest_within
  longest_within-passes zero = inl refl
  longest_within-passes (suc most) =
      elim (test (take (suc most) text)) as (λ b. test (take (suc most) text) ≡ b
      → (cond b (suc most) (longest_within test most text) ≡ 0) ⊎ (test (take (cond b (suc most) (longest_within test most text)) text) ≡ true))
      [ true ↦ λ e. inr e | false ↦ λ e. longest_within-passes most ] refl

  pub longest-passes : (longest test text ≡ 0) ⊎ (test (take (longest test text) text) ≡ true)
  unfolding longest
  longest-passes = longest_within-passes (length text)
