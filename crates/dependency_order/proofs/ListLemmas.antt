-- One more member at the end of a list.
use Rattle.std.proofs.Common.{◌≡◌, ◌⊎◌, inl, inr, ℕ, zero, suc, ◌<◌, List, [], ◌∷◌, ◌++◌, length, take, get_or, None, Some, slice_get, refl, sym, arith}
use Rattle.std.proofs.lemmas.Option.{none-some, same_Some}
use Rattle.fc_base.specs.Graph.{IsIn, IsOrdered}

pub IsIn-front : {S : Type 0} (xs : List S) (x y : S) → IsIn x xs → IsIn x (xs ++ y ∷ [])
IsIn-front [] x y i = absurd i
IsIn-front (z ∷ xs) x y (inl e) = inl e
IsIn-front (z ∷ xs) x y (inr i) = inr (IsIn-front xs x y i)

pub IsIn-last : {S : Type 0} (xs : List S) (y : S) → IsIn y (xs ++ y ∷ [])
IsIn-last [] y = inl refl
IsIn-last (z ∷ xs) y = inr (IsIn-last xs y)

pub IsIn-push : {S : Type 0} (xs : List S) (x y : S) → IsIn x (xs ++ y ∷ []) → IsIn x xs ⊎ (x ≡ y)
IsIn-push [] x y (inl e) = inr e
IsIn-push [] x y (inr i) = absurd i
IsIn-push (z ∷ xs) x y (inl e) = inl (inl e)
IsIn-push (z ∷ xs) x y (inr i) = elim (IsIn-push xs x y i) [ inl j ↦ inl (inr j) | inr e ↦ inr e ]

-- what is read at a place stands in the list
pub IsIn-from_get : {S : Type 0} (xs : List S) (i : ℕ) (x : S) → slice_get xs i ≡ Some x → IsIn x xs
IsIn-from_get [] i x e = absurd (none-some x e)
IsIn-from_get (y ∷ xs) zero x e = inl (sym (same_Some y x e))
IsIn-from_get (y ∷ xs) (suc i) x e = inr (IsIn-from_get xs i x e)

-- one more of the front
pub take_get : {S : Type 0} (xs : List S) (i : ℕ) (x : S) → slice_get xs i ≡ Some x → take (suc i) xs ≡ take i xs ++ x ∷ []
take_get [] i x e = absurd (none-some x e)
take_get (y ∷ xs) zero x e = let f = same_Some y x e in cc
take_get (y ∷ xs) (suc i) x e = let f : take (suc i) xs ≡ take i xs ++ x ∷ [] = take_get xs i x e in cc

pub get_within : {S : Type 0} (xs : List S) (i : ℕ) (x : S) → slice_get xs i ≡ Some x → i < length xs
get_within [] i x e = absurd (none-some x e)
get_within (y ∷ xs) zero x e = omega arith
get_within (y ∷ xs) (suc i) x e = let f : i < length xs = get_within xs i x e in omega arith

-- where nothing is left the front is all
pub take_none : {S : Type 0} (xs : List S) (i : ℕ) → slice_get xs i ≡ None → take i xs ≡ xs
take_none [] zero e = refl
take_none [] (suc i) e = refl
take_none (y ∷ xs) zero e = absurd (none-some y (sym e))
take_none (y ∷ xs) (suc i) e = let f : take i xs ≡ xs = take_none xs i e in cc

ready_before : {S : Type 0} (x y : S) (xs ys : List S) → IsIn x (y ∷ ys) ⊎ IsIn x xs → IsIn x ys ⊎ IsIn x (y ∷ xs)
ready_before x y xs ys (inl (inl e)) = inr (inl e)
ready_before x y xs ys (inl (inr i)) = inl i
ready_before x y xs ys (inr i) = inr (inr i)

pub IsOrdered-push :
    {S : Type 0} (deps : S → List S) (seen order : List S) (x : S) → IsOrdered deps seen order
    → ((d : S) → IsIn d (deps x) → IsIn d order ⊎ IsIn d seen) → (IsIn x order → ⊥) → (IsIn x seen → ⊥) → IsOrdered deps seen (order ++ x ∷ [])
IsOrdered-push deps seen [] x ordered behind new unseen =
    ((λ d i. elim (behind d i) [ inl j ↦ absurd j | inr j ↦ j ]), unseen, tt)
IsOrdered-push deps seen (y ∷ order) x ordered behind new unseen = (
  ordered.0,
  ordered.1,
  IsOrdered-push deps (y ∷ seen) order x ordered.2 (λ d i. ready_before d y seen order (behind d i)) (λ i. new (inr i))
      (λ i. elim i [ inl e ↦ new (inl e) | inr j ↦ unseen j ]),
)

pub IsIn-at : {S : Type 0} (xs : List S) (i : ℕ) (d : S) → i < length xs → IsIn (get_or xs i d) xs
IsIn-at [] i d lt = absurd (omega arith)
IsIn-at (y ∷ xs) zero d lt = inl refl
IsIn-at (y ∷ xs) (suc i) d lt = inr (IsIn-at xs i d (omega arith))
