-- Lists with an entry less.
use Rattle.std.proofs.Common.{◌≡◌, ◌≤◌, ℕ, zero, suc, Bool, true, false, not, cond, nat_eq, List, [], ◌∷◌, map, length, sum_by, slice_get, Some, inl, inr, refl, sym, ap, ◌∙◌, arith}
use Rattle.std.specs.Cmp.Lexicographic.{pointwise}
use Rattle.std.specs.List.{filter, flat_map, AllByRecursion, IsDistinct}
use Rattle.std.specs.Map.{keys_of, lookup, remove_entry}
use Rattle.std.proofs.lemmas.List.Sums.{sum_by-cons}
use Rattle.std.proofs.lemmas.Map.Keys.{IsDistinct-cons, IsDistinct-head, IsDistinct-tail}
use Rattle.fc_base.specs.Graph.{IsIn}
use Rattle.object_paths.specs.Slots.{same_text}
use Rattle.document_model.proofs.Members.{from_append, IsIn-left, IsIn-map, IsIn-right}
use Rattle.doc_tables.specs.Shown.{change_at}
use Rattle.doc_tables.proofs.Finding.{same_text-sym, same_text-told}
use Rattle.doc_tables.proofs.VarSetLemmas.{of_all}

-- what is changed stands at its place
pub changed-at : {A : Type 0} (f : A → A) (i : ℕ) (xs : List A) (x : A) → slice_get xs i ≡ Some x → slice_get (change_at f i xs) i ≡ Some (f x)
changed-at f i [] x at = absurd (cc)
changed-at {A} f zero (y ∷ xs) x at = ap (λ (z : A). Some (f z)) (let same : y ≡ x = cc in same)
changed-at f (suc i) (y ∷ xs) x at = changed-at f i xs x at

-- a sum of which one member became no more
pub sum_by-less : {A : Type 0} (w : A → ℕ) (f : A → A) (i : ℕ) (xs : List A) → ((x : A) → w (f x) ≤ w x) → sum_by w (change_at f i xs) ≤ sum_by w xs
sum_by-less w f i [] h = omega arith
sum_by-less w f zero (x ∷ xs) h = omega (arith, h x, sum_by-cons w (f x) xs, sum_by-cons w x xs)
sum_by-less w f (suc i) (x ∷ xs) h = omega (arith, sum_by-less w f i xs h, sum_by-cons w x (change_at f i xs), sum_by-cons w x xs)

-- members of lists of which one lost some
module _ {A B : Type 0} (g : A → List B) (f : A → A) where
  pub shrunk-into : (i : ℕ) (xs : List A) → ((x : A) (z : B) → IsIn z (g (f x)) → IsIn z (g x)) → (z : B) → IsIn z (flat_map g (change_at f i xs)) → IsIn z (flat_map g xs)
  shrunk-into i [] h z k = absurd k
  shrunk-into zero (x ∷ xs) h z k =
      elim (from_append (g (f x)) (flat_map g xs) z k) [
        | inl j ↦ IsIn-left (g x) (flat_map g xs) z (h x z j)
        | inr j ↦ IsIn-right (g x) (flat_map g xs) z j
      ]
  shrunk-into (suc i) (x ∷ xs) h z k =
      elim (from_append (g x) (flat_map g (change_at f i xs)) z k) [
        | inl j ↦ IsIn-left (g x) (flat_map g xs) z j
        | inr j ↦ IsIn-right (g x) (flat_map g xs) z (shrunk-into i xs h z j)
      ]

  pub shrunk-kept : (i : ℕ) (xs : List A) (z : B) → ((x : A) → slice_get xs i ≡ Some x → IsIn z (g x) → IsIn z (g (f x))) → IsIn z (flat_map g xs) → IsIn z (flat_map g (change_at f i xs))
  shrunk-kept i [] z h k = absurd k
  shrunk-kept zero (x ∷ xs) z h k =
      elim (from_append (g x) (flat_map g xs) z k) [
        | inl j ↦ IsIn-left (g (f x)) (flat_map g xs) z (h x refl j)
        | inr j ↦ IsIn-right (g (f x)) (flat_map g xs) z j
      ]
  shrunk-kept (suc i) (x ∷ xs) z h k =
      elim (from_append (g x) (flat_map g xs) z k) [
        | inl j ↦ IsIn-left (g x) (flat_map g (change_at f i xs)) z j
        | inr j ↦ IsIn-right (g x) (flat_map g (change_at f i xs)) z (shrunk-kept i xs z h j)
      ]

-- ---- entries without the one of a key
module _ {X : Type 0} (name : List ℕ) where
  abbrev without : List (List ℕ × X) → List (List ℕ × X)
  without es = remove_entry (pointwise nat_eq name) es

  -- what is left was there
  pub left-in : (es : List (List ℕ × X)) (e : List ℕ × X) → IsIn e (without es) → IsIn e es
  left-in [] e k = absurd k
  left-in (d ∷ es) e k =
      elim (pointwise nat_eq name d.0) as (λ b. IsIn e (cond b es (d ∷ without es)) → IsIn e (d ∷ es)) [
        | true ↦ λ j. inr j
        | false ↦ elim [ inl j ↦ inl j | inr j ↦ inr (left-in es e j) ]
      ] k

  -- what holds of each still does
  pub left-all : (P : List ℕ × X → Type 0) (es : List (List ℕ × X)) → AllByRecursion P es → AllByRecursion P (without es)
  left-all P [] h = tt
  left-all P (d ∷ es) h =
      elim (pointwise nat_eq name d.0) as (λ b. AllByRecursion P (cond b es (d ∷ without es))) [
        | true ↦ h.1
        | false ↦ (h.0, left-all P es h.1)
      ]

  left-keys : (P : List ℕ → Type 0) (es : List (List ℕ × X)) → AllByRecursion P (keys_of es) → AllByRecursion P (keys_of (without es))
  left-keys P [] h = tt
  left-keys P (d ∷ es) h =
      elim (pointwise nat_eq name d.0) as (λ b. AllByRecursion P (keys_of (cond b es (d ∷ without es)))) [
        | true ↦ h.1
        | false ↦ (h.0, left-keys P es h.1)
      ]

  pub left-distinct : (es : List (List ℕ × X)) → IsDistinct (pointwise nat_eq) (keys_of es) → IsDistinct (pointwise nat_eq) (keys_of (without es))
  left-distinct [] h = h
  left-distinct (d ∷ es) h =
      let tail = IsDistinct-tail (pointwise nat_eq) d.0 (keys_of es) h in
      elim (pointwise nat_eq name d.0) as (λ b. IsDistinct (pointwise nat_eq) (keys_of (cond b es (d ∷ without es)))) [
        | true ↦ tail
        | false ↦
            IsDistinct-cons (pointwise nat_eq) d.0 (keys_of (without es)) (left-keys (λ y. pointwise nat_eq d.0 y ≡ false) es (IsDistinct-head (pointwise nat_eq) d.0 (keys_of es) h)) (left-distinct es tail)
      ]

  pub left-length : (es : List (List ℕ × X)) → length (without es) ≤ length es
  left-length [] = omega arith
  left-length (d ∷ es) =
      elim (pointwise nat_eq name d.0) as (λ b. length (cond b es (d ∷ without es)) ≤ suc (length es)) [
        | true ↦ omega arith
        | false ↦ let rest = left-length es in omega (arith, rest)
      ]

  pub left-sum : (w : List ℕ × X → ℕ) (es : List (List ℕ × X)) → sum_by w (without es) ≤ sum_by w es
  left-sum w [] = omega arith
  left-sum w (d ∷ es) =
      elim (pointwise nat_eq name d.0) as (λ b. sum_by w (cond b es (d ∷ without es)) ≤ sum_by w (d ∷ es)) [
        | true ↦ omega (arith, sum_by-cons w d es)
        | false ↦ omega (arith, left-sum w es, sum_by-cons w d es, sum_by-cons w d (without es))
      ]

  apart-in : (d : List ℕ × X) (es : List (List ℕ × X)) (e : List ℕ × X) → pointwise nat_eq name d.0 ≡ true → AllByRecursion (λ y. pointwise nat_eq d.0 y ≡ false) (keys_of es) → IsIn e es → pointwise nat_eq name e.0 ≡ false
  apart-in d es e own all i =
      let key : List ℕ × X → List ℕ = λ x. x.0 in
      let one : pointwise nat_eq d.0 e.0 ≡ false = of_all (λ (y : List ℕ). pointwise nat_eq d.0 y ≡ false) (keys_of es) e.0 all (IsIn-map key es e i) in
      ap (λ (k : List ℕ). pointwise nat_eq k e.0) (same_text-told name d.0 own) ∙ one

  -- and has another key
  pub left-apart : (es : List (List ℕ × X)) (e : List ℕ × X) → IsDistinct (pointwise nat_eq) (keys_of es) → IsIn e (without es) → pointwise nat_eq name e.0 ≡ false
  left-apart [] e h k = absurd k
  left-apart (d ∷ es) e h k =
      elim (pointwise nat_eq name d.0) as (λ b. pointwise nat_eq name d.0 ≡ b → IsIn e (cond b es (d ∷ without es)) → pointwise nat_eq name e.0 ≡ false) [
        | true ↦ λ own j. apart-in d es e own (IsDistinct-head (pointwise nat_eq) d.0 (keys_of es) h) j
        | false ↦ λ other j. elim j [
          | inl same ↦ ap (λ (x : List ℕ × X). pointwise nat_eq name x.0) same ∙ other
          | inr rest ↦ left-apart es e (IsDistinct-tail (pointwise nat_eq) d.0 (keys_of es) h) rest
        ]
      ] refl k

  -- all others are left
  pub others-left : (es : List (List ℕ × X)) (v : X) (e : List ℕ × X) → lookup (pointwise nat_eq name) es ≡ Some v → IsIn e es → (e.1 ≡ v → ⊥) → IsIn e (without es)
  others-left [] v e found k other = absurd k
  others-left (d ∷ es) v e found k other =
      elim (pointwise nat_eq name d.0) as (λ b. cond b (Some d.1) (lookup (pointwise nat_eq name) es) ≡ Some v → IsIn e (cond b es (d ∷ without es))) [
        | true ↦ λ h. elim k [
          | inl same ↦ absurd (other (ap (λ (x : List ℕ × X). x.1) same ∙ (let one : d.1 ≡ v = cc in one)))
          | inr rest ↦ rest
        ]
        | false ↦ λ h. elim k [ inl same ↦ inl same | inr rest ↦ inr (others-left es v e h rest other) ]
      ] found

  -- what a look-up finds is there
  pub looked-in : (es : List (List ℕ × X)) (v : X) → lookup (pointwise nat_eq name) es ≡ Some v → IsIn (name, v) es
  looked-in [] v found = absurd (cc)
  looked-in (d ∷ es) v found =
      elim (pointwise nat_eq name d.0) as (λ b. pointwise nat_eq name d.0 ≡ b → cond b (Some d.1) (lookup (pointwise nat_eq name) es) ≡ Some v → IsIn (name, v) (d ∷ es)) [
        | true ↦ λ own h. inl (λ j. (same_text-told name d.0 own j, sym (let one : d.1 ≡ v = cc in one) j))
        | false ↦ λ other h. inr (looked-in es v h)
      ] refl found

  -- a list without those of the name, by a filter
  module _ {Y : Type 0} (g : List ℕ × X → Y) (named : Y → List ℕ) (own : (e : List ℕ × X) → named (g e) ≡ e.0) where
    abbrev stays : Y → Bool
    stays y = not (same_text (named y) name)

    test-is : (e : List ℕ × X) (b : Bool) → pointwise nat_eq name e.0 ≡ b → same_text (named (g e)) name ≡ b
    test-is e b h = ap (λ (k : List ℕ). same_text k name) (own e) ∙ same_text-sym e.0 name ∙ h

    all-stay : (es : List (List ℕ × X)) → ((e : List ℕ × X) → IsIn e es → pointwise nat_eq name e.0 ≡ false) → filter stays (map g es) ≡ map g es
    all-stay [] h = refl
    all-stay (e ∷ es) h =
        ap (λ b. cond (not b) (g e ∷ filter stays (map g es)) (filter stays (map g es))) (test-is e false (h e (inl refl)))
        ∙ ap (λ (l : List Y). g e ∷ l) (all-stay es (λ x i. h x (inr i)))

    pub left-filtered : (es : List (List ℕ × X)) → IsDistinct (pointwise nat_eq) (keys_of es) → map g (without es) ≡ filter stays (map g es)
    left-filtered [] h = refl
    left-filtered (e ∷ es) h =
        elim (pointwise nat_eq name e.0) as (λ b. pointwise nat_eq name e.0 ≡ b → map g (cond b es (e ∷ without es)) ≡ cond (stays (g e)) (g e ∷ filter stays (map g es)) (filter stays (map g es))) [
          | true ↦ λ k.
              sym (all-stay es (λ x i. apart-in e es x k (IsDistinct-head (pointwise nat_eq) e.0 (keys_of es) h) i))
              ∙ sym (ap (λ b. cond (not b) (g e ∷ filter stays (map g es)) (filter stays (map g es))) (test-is e true k))
          | false ↦ λ k.
              ap (λ (l : List Y). g e ∷ l) (left-filtered es (IsDistinct-tail (pointwise nat_eq) e.0 (keys_of es) h))
              ∙ sym (ap (λ b. cond (not b) (g e ∷ filter stays (map g es)) (filter stays (map g es))) (test-is e false k))
        ] refl
