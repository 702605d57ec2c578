-- Outcomes by recursion over a graph without cycles.
use Rattle.std.proofs.Common.{◌≡◌, ◌⊎◌, inl, inr, ℕ, zero, suc, ◌+◌, ◌≤◌, List, [], ◌∷◌, length, refl, sym, ◌∙◌, ap, subst, arith}
use Rattle.fc_base.specs.Graph.{IsIn, Reaches, direct, onward, Closed, Acyclic, ReadsOnlyDeps, IsFixpoint, full_at, CarriesRules, EvaluatesAll, IsOrdered}

-- the list without the member at that place
without : {S : Type 0} (ys : List S) (x : S) → IsIn x ys → List S
without [] x i = absurd i
without (y ∷ ys) x (inl e) = ys
without (y ∷ ys) x (inr i) = y ∷ without ys x i

length-without : {S : Type 0} (ys : List S) (x : S) (i : IsIn x ys) → length ys ≡ suc (length (without ys x i))
unfolding without
length-without [] x i = absurd i
length-without (y ∷ ys) x (inl e) = refl
length-without (y ∷ ys) x (inr i) = ap suc (length-without ys x i)

-- another member is still there
IsIn-without : {S : Type 0} (ys : List S) (x z : S) (i : IsIn x ys) → IsIn z ys → (z ≡ x → ⊥) → IsIn z (without ys x i)
unfolding without
IsIn-without [] x z i j n = absurd i
IsIn-without (y ∷ ys) x z (inl e) (inl f) n = absurd (n (f ∙ sym e))
IsIn-without (y ∷ ys) x z (inl e) (inr j) n = j
IsIn-without (y ∷ ys) x z (inr i) (inl f) n = inl f
IsIn-without (y ∷ ys) x z (inr i) (inr j) n = inr (IsIn-without ys x z i j n)

-- no member stands twice
abbrev pub AllDifferent : {S : Type 0} → List S → Type 0
AllDifferent [] = Unit {0}
AllDifferent (x ∷ xs) = (IsIn x xs → ⊥) × AllDifferent xs

-- different members of a list are no more than it has
pub different-le : {S : Type 0} (xs ys : List S) → AllDifferent xs → ((x : S) → IsIn x xs → IsIn x ys) → length xs ≤ length ys
different-le [] ys different among = omega arith
different-le {S} (x ∷ xs) ys different among =
    let i : IsIn x ys = among x (inl refl) in
    let fewer : length xs ≤ length (without ys x i) =
    different-le xs (without ys x i) different.1
    (λ z j. IsIn-without ys x z i (among z (inr j)) (λ e. different.0 (subst (λ (q : S). IsIn q xs) e j))) in
    omega (arith, length-without ys x i)

module _ {S : Type 0} (deps : S → List S) (slots : List S) (closed : Closed deps slots) where
  -- every chain of dependencies from s has at most n members
  abbrev pub Within : ℕ → S → Type 0
  Within zero s = ⊥
  Within (suc n) s = (d : S) → IsIn d (deps s) → Within n d

  module _ (acyclic : Acyclic deps slots) where
    -- seen are the members of a chain that leads to s, so s is none of them; and when nothing is left
    -- of the fuel, s and seen are one too many
    within_from :
        (fuel : ℕ) (seen : List S) (s : S) → IsIn s slots → AllDifferent seen
        → ((x : S) → IsIn x seen → IsIn x slots × Reaches deps x s) → length slots ≤ length seen + fuel → Within fuel s
    within_from zero seen s here different leads room =
        let all : length (s ∷ seen) ≤ length slots =
        different-le (s ∷ seen) slots ((λ i. acyclic s here (leads s i).1), different)
        (λ x. elim [ inl e ↦ subst (λ (q : S). IsIn q slots) (sym e) here | inr i ↦ (leads x i).0 ]) in
        absurd (omega arith)
    within_from (suc n) seen s here different leads room = λ d i.
        within_from n (s ∷ seen) d (closed s d here i) ((λ j. acyclic s here (leads s j).1), different)
        (λ x. elim [
          | inl e ↦ subst (λ (q : S). IsIn q slots × Reaches deps q d) (sym e) (here, direct i)
          | inr j ↦ ((leads x j).0, onward (leads x j).1 i)
        ])
        (omega arith)

    pub within_slots : (s : S) → IsIn s slots → Within (length slots) s
    within_slots s here = within_from (length slots) [] s here tt (λ x i. absurd i) (omega arith)

  module _ {O : Type 0} (local : S → (S → O) → O) (start : O) (reads : ReadsOnlyDeps deps local) where
    -- what is worked out is what each has by its rule
    pub full_at-is : (w : S → O) → IsFixpoint local slots w → (n : ℕ) (s : S) → IsIn s slots → Within n s → full_at local start n s ≡ w s
    unfolding full_at
    full_at-is w fixed zero s here within = absurd within
    full_at-is w fixed (suc n) s here within =
        reads s (full_at local start n) w (λ d i. full_at-is w fixed n d (closed s d here i) (within d i)) ∙ sym (fixed s here)

    -- what is worked out at a new place is what was worked out at the old one
    pub full_at-moved :
        {T : Type 0} (moved : T → (T → O) → O) (place : S → T) → CarriesRules local moved place slots
        → (n : ℕ) (s : S) → IsIn s slots → full_at moved start n (place s) ≡ full_at local start n s
    unfolding full_at
    full_at-moved moved place carries zero s here = refl
    full_at-moved moved place carries (suc n) s here =
        carries s here (full_at moved start n)
        ∙ reads s (λ t. full_at moved start n (place t)) (full_at local start n) (λ d i. full_at-moved moved place carries n d (closed s d here i))

module _ {S O : Type 0} (deps : S → List S) (local : S → (S → O) → O) (reads : ReadsOnlyDeps deps local) where
  -- what stands before is settled and depends on nothing else, and stays so with each step
  settles :
      (ss seen : List S) (v w : S → O) → IsOrdered deps seen ss → EvaluatesAll local ss v w
      → Closed deps seen → IsFixpoint local seen v → (s : S) → (IsIn s ss ⊎ IsIn s seen) → w s ≡ local s w
  settles [] seen v w ordered same closed settled s (inl i) = absurd i
  settles [] seen v w ordered same closed settled s (inr i) = same s ∙ settled s i ∙ reads s v w (λ d j. sym (same d))
  settles (x ∷ ss) seen v w ordered evaluates closed settled s i =
      let between = evaluates.0 in
      let one = evaluates.1 in
      let other : (t : S) → IsIn t seen → t ≡ x → ⊥ = λ t j e. ordered.1 (subst (λ (q : S). IsIn q seen) e j) in
      let kept : (t : S) → IsIn t seen → between t ≡ v t = λ t j. one.elsewhere t (other t j) in
      settles ss (x ∷ seen) between w ordered.2 evaluates.2
      (λ t d. elim [
        | inl e ↦ λ j. inr (ordered.0 d (subst (λ (q : S). IsIn d (deps q)) e j))
        | inr h ↦ λ j. inr (closed t d h j)
      ])
      (λ t. elim [
        | inl e ↦ subst (λ (q : S). between q ≡ local q between) (sym e) (one.here ∙ reads x v between (λ d j. sym (kept d (ordered.0 d j))))
        | inr h ↦ kept t h ∙ settled t h ∙ reads t v between (λ d j. sym (kept d (closed t d h j)))
      ])
      s (moved i)
    where
      moved : (IsIn s (x ∷ ss) ⊎ IsIn s seen) → IsIn s ss ⊎ IsIn s (x ∷ seen)
      moved (inl (inl e)) = inr (inl e)
      moved (inl (inr i)) = inl i
      moved (inr i) = inr (inr i)

  pub settles_in_order : (order : List S) (v w : S → O) → IsOrdered deps [] order → EvaluatesAll local order v w → IsFixpoint local order w
  settles_in_order order v w ordered evaluates s i =
      settles order [] v w ordered evaluates (λ t d j. absurd j) (λ t j. absurd j) s (inl i)
