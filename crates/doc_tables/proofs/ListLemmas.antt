-- The lists so far, with one more.
use Rattle.std.proofs.Common.{◌≡◌, ◌+◌, ◌<◌, ℕ, zero, suc, false, List, [], ◌∷◌, ◌++◌, map, length, Option, Some, None, is_some, slice_get, unwrap_or, refl, sym, ap, subst, ◌∙◌, arith, below_more}
use Rattle.std.specs.Option.{option_map_or}
use Rattle.std.proofs.lemmas.Bool.{false≢true}
use Rattle.object_paths.specs.Slots.{Slot}
use Rattle.document_model.specs.Dependencies.{deps}
use Rattle.doc_tables.specs.Accessors.{deps_at}
use Rattle.doc_tables.specs.Numbered.{Numbered, slot_at}

pub slice_get-left : {A : Type 0} (xs ys : List A) (n : ℕ) → n < length xs → slice_get (xs ++ ys) n ≡ slice_get xs n
slice_get-left [] ys n h = absurd (omega arith)
slice_get-left (x ∷ xs) ys zero h = refl
slice_get-left (x ∷ xs) ys (suc n) h = slice_get-left xs ys n (omega arith)

pub slice_get-seam : {A : Type 0} (xs : List A) (y : A) (ys : List A) → slice_get (xs ++ y ∷ ys) (length xs) ≡ Some y
slice_get-seam [] y ys = refl
slice_get-seam (x ∷ xs) y ys = slice_get-seam xs y ys

-- what holds of each list, and of one more
pub lists-more :
    {A : Type 0} (P : ℕ → List A → Type 0) (lists : List (List A)) (one : List A) (k : ℕ) → length lists ≡ k
    → ((n : ℕ) → n < k → P n (unwrap_or (slice_get lists n) [])) → P k one
    → (n : ℕ) → n < k + 1 → P n (unwrap_or (slice_get (lists ++ one ∷ []) n) [])
lists-more {A} P lists one k count below here =
    below_more (λ (n : ℕ). P n (unwrap_or (slice_get (lists ++ one ∷ []) n) [])) k
    (λ n h. let within : n < length lists = omega arith in subst (λ (x : Option (List A)). P n (unwrap_or x [])) (sym (slice_get-left lists (one ∷ []) n within)) (below n h))
    (subst (λ (m : ℕ). P k (unwrap_or (slice_get (lists ++ one ∷ []) m) [])) count
    (subst (λ (x : Option (List A)). P k (unwrap_or x [])) (sym (slice_get-seam lists one [])) here))

-- a number that is not in use depends on nothing
pub none-depend : (t : Numbered) (n : ℕ) → is_some (slot_at t n) ≡ false → deps_at t n ≡ []
none-depend t n h = of (slot_at t n) h
  where
    of : (x : Option Slot) → is_some x ≡ false → option_map_or (deps t.document) x [] ≡ []
    of None e = refl
    of (Some s) e = absurd (false≢true (sym e))
