-- Lists with the member at a place changed.
use Rattle.std.proofs.Common.{◌≡◌, ◌+◌, ℕ, zero, suc, true, false, cond, nat_eq, List, [], ◌∷◌, ◌++◌, map, length, sum_by, slice_get, Some, refl, sym, ap, subst, ◌∙◌, arith}
use Rattle.std.specs.Cmp.Lexicographic.{pointwise}
use Rattle.std.specs.List.{AllByRecursion, IsDistinct}
use Rattle.std.proofs.lemmas.List.Sums.{sum_by-cons}
use Rattle.std.proofs.lemmas.Map.Keys.{IsDistinct-head, IsDistinct-tail}
use Rattle.object_paths.specs.Slots.{same_text}
use Rattle.doc_tables.specs.Shown.{change_at}
use Rattle.doc_tables.proofs.Finding.{apart_at, same_text-refl, same_text-sym}

-- a change that a function does not see
pub map-change : {A B : Type 0} (g : A → B) (f : A → A) → ((x : A) → g (f x) ≡ g x) → (i : ℕ) (xs : List A) → map g (change_at f i xs) ≡ map g xs
map-change g f h i [] = refl
map-change g f h zero (x ∷ xs) = λ j. h x j ∷ map g xs
map-change g f h (suc i) (x ∷ xs) = ap (λ l. g x ∷ l) (map-change g f h i xs)

pub length-change : {A : Type 0} (f : A → A) (i : ℕ) (xs : List A) → length (change_at f i xs) ≡ length xs
length-change f i [] = refl
length-change f zero (x ∷ xs) = refl
length-change f (suc i) (x ∷ xs) = ap suc (length-change f i xs)

-- a sum with one member changed
pub sum_by-change : {A : Type 0} (w : A → ℕ) (f : A → A) (i : ℕ) (xs : List A) (x : A) (n : ℕ) → slice_get xs i ≡ Some x → w (f x) ≡ w x + n → sum_by w (change_at f i xs) ≡ sum_by w xs + n
sum_by-change w f i [] x n at e = absurd (cc)
sum_by-change {A} w f zero (y ∷ xs) x n at e =
    let same : y ≡ x = cc in
    let here : w (f y) ≡ w y + n = subst (λ (z : A). w (f z) ≡ w z + n) (sym same) e in
    omega (arith, here, sum_by-cons w (f y) xs, sum_by-cons w y xs)
sum_by-change w f (suc i) (y ∷ xs) x n at e =
    omega (arith, sum_by-change w f i xs x n at e, sum_by-cons w y (change_at f i xs), sum_by-cons w y xs)

-- what holds of each still does
pub all-change : {A : Type 0} (P : A → Type 0) (f : A → A) (i : ℕ) (xs : List A) → ((x : A) → slice_get xs i ≡ Some x → P x → P (f x)) → AllByRecursion P xs → AllByRecursion P (change_at f i xs)
all-change P f i [] h all = tt
all-change P f zero (x ∷ xs) h all = (h x refl all.0, all.1)
all-change P f (suc i) (x ∷ xs) h all = (all.0, all-change P f i xs h all.1)

pub all-push : {A : Type 0} (P : A → Type 0) (xs : List A) (y : A) → AllByRecursion P xs → P y → AllByRecursion P (xs ++ y ∷ [])
all-push P [] y all here = (here, tt)
all-push P (x ∷ xs) y all here = (all.0, all-push P xs y all.1 here)

-- the member of a key changed, where keys are distinct
module _ {A B : Type 0} (key : A → List ℕ) (f : A → A) (g : A → B) (h : B → B) (k : List ℕ) (P : A → Type 0)
    (by : (y : A) → P y → h (g y) ≡ cond (same_text (key y) k) (g (f y)) (g y)) where
  others : (a : List ℕ) → a ≡ k → (ys : List A) → AllByRecursion P ys → AllByRecursion (λ b. pointwise nat_eq a b ≡ false) (map key ys) → map g ys ≡ map h (map g ys)
  others a e [] all apart = refl
  others a e (y ∷ ys) all apart =
      let other : same_text (key y) k ≡ false = same_text-sym (key y) k ∙ ap (λ (b : List ℕ). same_text b (key y)) (sym e) ∙ apart.0 in
      λ j. sym (by y all.0 ∙ ap (λ b. cond b (g (f y)) (g y)) other) j ∷ others a e ys all.1 apart.1 j

  pub change-only : (xs : List A) (i : ℕ) (x : A) → AllByRecursion P xs → IsDistinct (pointwise nat_eq) (map key xs) → slice_get xs i ≡ Some x → key x ≡ k → map g (change_at f i xs) ≡ map h (map g xs)
  change-only [] i x all distinct at same = absurd (cc)
  change-only (y ∷ ys) zero x all distinct at same =
      let one : y ≡ x = cc in
      let own : key y ≡ k = ap key one ∙ same in
      let here : same_text (key y) k ≡ true = ap (same_text (key y)) (sym own) ∙ same_text-refl (key y) in
      λ j. sym (by y all.0 ∙ ap (λ b. cond b (g (f y)) (g y)) here) j ∷ others (key y) own ys all.1 (IsDistinct-head (pointwise nat_eq) (key y) (map key ys) distinct) j
  change-only (y ∷ ys) (suc i) x all distinct at same =
      let other : same_text (key y) k ≡ false =
      ap (same_text (key y)) (sym same) ∙ apart_at key (key y) ys i x (IsDistinct-head (pointwise nat_eq) (key y) (map key ys) distinct) at
      in
      λ j. sym (by y all.0 ∙ ap (λ b. cond b (g (f y)) (g y)) other) j ∷ change-only ys i x all.1 (IsDistinct-tail (pointwise nat_eq) (key y) (map key ys) distinct) at same j
