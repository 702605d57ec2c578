-- The test for a dependency is sound at any number of steps, and complete at the number of slots: a
-- chain that meets a slot twice can be cut there, so the shortest one has no slot twice.
use Rattle.std.proofs.Common.{◌≡◌, ◌⊎◌, ◌↔◌, inl, inr, ℕ, zero, suc, ◌<◌, ◌≤◌, Bool, true, false, ◌||◌, List, [], ◌∷◌, ◌++◌, length, IsTrue, refl, sym, subst, arith}
use Rattle.std.specs.List.{list_any}
use Rattle.std.proofs.lemmas.Bool.{or_cases, or_left, or_right}
use Rattle.fc_base.specs.Graph.{IsIn, Reaches, direct, onward, Closed, reaches_in}
use Rattle.fc_base.proofs.GraphLemmas.{AllDifferent, different-le}

any_in : {S : Type 0} (p : S → Bool) (xs : List S) → list_any p xs ≡ true → (x : S) × (IsIn x xs × (p x ≡ true))
any_in p [] h = absurd (cc)
any_in p (x ∷ xs) h =
    elim (or_cases (p x) (list_any p xs) h) [
      | inl e ↦ (x, (inl refl, e))
      | inr e ↦ let (y, (i, k)) = any_in p xs e in (y, (inr i, k))
    ]

in_any : {S : Type 0} (p : S → Bool) (xs : List S) (x : S) → IsIn x xs → p x ≡ true → list_any p xs ≡ true
in_any p [] x i h = absurd i
in_any {S} p (y ∷ ys) x (inl e) h = or_left (p y) (list_any p ys) (subst (λ (q : S). p q ≡ true) e h)
in_any p (y ∷ ys) x (inr i) h = or_right (p y) (list_any p ys) (in_any p ys x i h)

module _ {S : Type 0} (deps : S → List S) where
  front : {s d t : S} → IsIn d (deps s) → Reaches deps d t → Reaches deps s t
  front i (direct j) = onward (direct i) j
  front i (onward r j) = onward (front i r) j

  -- each of the list is a dependency of the one before it, the first of s, and t of the last
  abbrev Chain : S → List S → S → Type 0
  Chain s [] t = IsIn t (deps s)
  Chain s (x ∷ xs) t = IsIn x (deps s) × Chain x xs t

  longer : (c : List S) (s u t : S) → Chain s c u → IsIn t (deps u) → Chain s (c ++ u ∷ []) t
  longer [] s u t chain j = (chain, j)
  longer (x ∷ c) s u t chain j = (chain.0, longer c x u t chain.1 j)

  chain_of : {s t : S} → Reaches deps s t → (c : List S) × Chain s c t
  chain_of (direct i) = ([], i)
  chain_of {s} {t} (onward {t = u} r j) = let (c, chain) = chain_of r in (c ++ u ∷ [], longer c s u t chain j)

  module _ (same : S → S → Bool) (decides : (x y : S) → IsTrue (same x y) ↔ (x ≡ y)) where
    pub sound : (n : ℕ) (s t : S) → reaches_in same deps n s t ≡ true → Reaches deps s t
    unfolding reaches_in
    sound zero s t h = absurd (cc)
    sound (suc n) s t h =
        let (d, (i, k)) = any_in (λ d. same d t || reaches_in same deps n d t) (deps s) h in
        elim (or_cases (same d t) (reaches_in same deps n d t) k) [
          | inl e ↦ subst (λ (q : S). Reaches deps s q) ((decides d t).0 e) (direct i)
          | inr e ↦ front i (sound n d t e)
        ]

    found : (c : List S) (n : ℕ) (s t : S) → length c < n → Chain s c t → reaches_in same deps n s t ≡ true
    unfolding reaches_in
    found c zero s t room chain = absurd (omega arith)
    found [] (suc n) s t room chain =
        in_any (λ d. same d t || reaches_in same deps n d t) (deps s) t chain (or_left (same t t) (reaches_in same deps n t t) ((decides t t).1 refl))
    found (x ∷ c) (suc n) s t room chain =
        in_any (λ d. same d t || reaches_in same deps n d t) (deps s) x chain.0
        (or_right (same x t) (reaches_in same deps n x t) (found c n x t (omega arith) chain.1))

    is_in_or_not : (x : S) (ys : List S) → IsIn x ys ⊎ (IsIn x ys → ⊥)
    is_in_or_not x [] = inr (λ i. i)
    is_in_or_not x (y ∷ ys) =
        elim (same x y) as (λ b. same x y ≡ b → IsIn x (y ∷ ys) ⊎ (IsIn x (y ∷ ys) → ⊥)) [
          | true ↦ λ e. inl (inl ((decides x y).0 e))
          | false ↦ λ e. elim (is_in_or_not x ys) [
            | inl i ↦ inl (inr i)
            | inr n ↦ inr (elim [ inl f ↦ absurd (let g : same x y ≡ true = (decides x y).1 f in cc) | inr i ↦ n i ])
          ]
        ] refl

    module _ (slots : List S) (closed : Closed deps slots) where
      -- a chain in which nothing stands twice
      record Simple (s t : S) : Type 0 where
        between : List S
        chain : Chain s between t
        different : AllDifferent (s ∷ between)
        among : (x : S) → IsIn x (s ∷ between) → IsIn x slots

      -- the rest of such a chain, from one of its members on
      rest : (c : List S) (x s t : S) → IsIn s (x ∷ c) → Chain x c t → AllDifferent (x ∷ c) → ((y : S) → IsIn y (x ∷ c) → IsIn y slots) → Simple s t
      rest c x s t (inl e) chain different among =
          subst (λ (q : S). Simple q t) (sym e) (record { between = c; chain = chain; different = different; among = among })
      rest [] x s t (inr i) chain different among = absurd i
      rest (y ∷ c) x s t (inr i) chain different among = rest c y s t i chain.1 different.1 (λ z j. among z (inr j))

      simple : (c : List S) (s t : S) → IsIn s slots → Chain s c t → Simple s t
      simple [] s t here chain = record {
        between = [];
        chain = chain;
        different = (λ i. i, tt);
        among = λ x. elim [ inl e ↦ subst (λ (q : S). IsIn q slots) (sym e) here | inr i ↦ absurd i ];
      }
      simple (x ∷ c) s t here chain =
          let r : Simple x t = simple c x t (closed s x here chain.0) chain.1 in
          elim (is_in_or_not s (x ∷ r.between)) [
            | inl i ↦ rest r.between x s t i r.chain r.different r.among
            | inr n ↦ record {
              between = x ∷ r.between;
              chain = (chain.0, r.chain);
              different = (n, r.different);
              among = λ y. elim [ inl e ↦ subst (λ (q : S). IsIn q slots) (sym e) here | inr i ↦ r.among y i ];
            }
          ]

      pub complete : (s t : S) → IsIn s slots → Reaches deps s t → reaches_in same deps (length slots) s t ≡ true
      complete s t here r =
          let (c, chain) = chain_of r in
          let short : Simple s t = simple c s t here chain in
          let fits : length (s ∷ short.between) ≤ length slots = different-le (s ∷ short.between) slots short.different short.among in
          found short.between (length slots) s t (omega arith) short.chain
