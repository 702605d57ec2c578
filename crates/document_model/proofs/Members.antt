-- What stands in a list that is made of others, and where an option's value comes from.
use Rattle.std.proofs.Common.{◌≡◌, ◌⊎◌, inl, inr, Bool, true, false, cond, List, [], ◌∷◌, ◌++◌, map, Some, None, refl, sym, ap, subst, ◌∙◌}
use Rattle.std.specs.Prelude.{Option}
use Rattle.std.specs.List.{find, filter, filter_map, flat_map, cons_option}
use Rattle.std.specs.Option.{option_map, option_and_then, option_or, option_to_list}
use Rattle.std.proofs.lemmas.Bool.{false≢true}
use Rattle.fc_base.specs.Graph.{IsIn}

module _ {A B : Type 0} where
  pub and_then_some : (f : A → Option B) (o : Option A) (y : B) → option_and_then f o ≡ Some y → (x : A) × (o ≡ Some x) × (f x ≡ Some y)
  and_then_some f None y h = absurd (cc)
  and_then_some f (Some x) y h = (x, refl, h)

  pub map_some : (f : A → B) (o : Option A) (y : B) → option_map f o ≡ Some y → (x : A) × (o ≡ Some x) × (y ≡ f x)
  map_some f None y h = absurd (cc)
  map_some f (Some x) y h = (x, refl, cc)

  pub IsIn-map : (f : A → B) (xs : List A) (x : A) → IsIn x xs → IsIn (f x) (map f xs)
  IsIn-map f [] x i = absurd i
  IsIn-map f (z ∷ xs) x (inl e) = inl (λ j. f (e j))
  IsIn-map f (z ∷ xs) x (inr i) = inr (IsIn-map f xs x i)

  pub from_map : (f : A → B) (xs : List A) (y : B) → IsIn y (map f xs) → (x : A) × IsIn x xs × (y ≡ f x)
  from_map f [] y i = absurd i
  from_map f (x ∷ xs) y (inl e) = (x, inl refl, e)
  from_map f (x ∷ xs) y (inr i) = let r = from_map f xs y i in (r.0, inr r.1, r.2)

module _ {A : Type 0} where
  pub or_some : (a b : Option A) (y : A) → option_or a b ≡ Some y → (a ≡ Some y) ⊎ (b ≡ Some y)
  or_some None b y h = inr h
  or_some (Some x) b y h = inl h

  pub from_option : (o : Option A) (y : A) → IsIn y (option_to_list o) → o ≡ Some y
  from_option None y i = absurd i
  from_option (Some x) y (inl e) = λ j. Some (sym e j)
  from_option (Some x) y (inr i) = absurd i

  pub from_find : (p : A → Bool) (xs : List A) (y : A) → find p xs ≡ Some y → IsIn y xs
  from_find p [] y h = absurd (cc)
  from_find p (x ∷ xs) y h =
      elim (p x) as (λ b. cond b (Some x) (find p xs) ≡ Some y → IsIn y (x ∷ xs)) [ true ↦ λ e. inl (cc) | false ↦ λ e. inr (from_find p xs y e) ] h

  -- where one passes, one is found
  pub found-some : (p : A → Bool) (xs : List A) (x : A) → IsIn x xs → p x ≡ true → (y : A) × (find p xs ≡ Some y)
  found-some p [] x i h = absurd i
  found-some p (z ∷ xs) x i h =
      elim (p z) as (λ b. p z ≡ b → (y : A) × (cond b (Some z) (find p xs) ≡ Some y)) [
        | true ↦ λ e. (z, refl)
        | false ↦ λ e. found-some p xs x (elim i [ inl q ↦ absurd (false≢true (sym e ∙ ap p (sym q) ∙ h)) | inr j ↦ j ]) h
      ] refl

  pub from_filter : (p : A → Bool) (xs : List A) (y : A) → IsIn y (filter p xs) → IsIn y xs
  from_filter p [] y i = i
  from_filter p (x ∷ xs) y i =
      elim (p x) as (λ b. IsIn y (cond b (x ∷ filter p xs) (filter p xs)) → IsIn y (x ∷ xs)) [
        | true ↦ elim [ inl e ↦ inl e | inr j ↦ inr (from_filter p xs y j) ]
        | false ↦ λ j. inr (from_filter p xs y j)
      ] i

  pub IsIn-left : (xs ys : List A) (y : A) → IsIn y xs → IsIn y (xs ++ ys)
  IsIn-left [] ys y i = absurd i
  IsIn-left (x ∷ xs) ys y (inl e) = inl e
  IsIn-left (x ∷ xs) ys y (inr i) = inr (IsIn-left xs ys y i)

  pub IsIn-right : (xs ys : List A) (y : A) → IsIn y ys → IsIn y (xs ++ ys)
  IsIn-right [] ys y i = i
  IsIn-right (x ∷ xs) ys y i = inr (IsIn-right xs ys y i)

  pub from_append : (xs ys : List A) (y : A) → IsIn y (xs ++ ys) → IsIn y xs ⊎ IsIn y ys
  from_append [] ys y i = inr i
  from_append (x ∷ xs) ys y (inl e) = inl (inl e)
  from_append (x ∷ xs) ys y (inr i) = elim (from_append xs ys y i) [ inl j ↦ inl (inr j) | inr j ↦ inr j ]

module _ {A B : Type 0} where
  pub IsIn-flat_map : (f : A → List B) (xs : List A) (x : A) (y : B) → IsIn x xs → IsIn y (f x) → IsIn y (flat_map f xs)
  IsIn-flat_map f [] x y i j = absurd i
  IsIn-flat_map f (z ∷ xs) x y (inl e) j = IsIn-left (f z) (flat_map f xs) y (subst (λ (q : A). IsIn y (f q)) e j)
  IsIn-flat_map f (z ∷ xs) x y (inr i) j = IsIn-right (f z) (flat_map f xs) y (IsIn-flat_map f xs x y i j)

  pub from_flat_map : (f : A → List B) (xs : List A) (y : B) → IsIn y (flat_map f xs) → (x : A) × IsIn x xs × IsIn y (f x)
  from_flat_map f [] y i = absurd i
  from_flat_map f (x ∷ xs) y i =
      elim (from_append (f x) (flat_map f xs) y i) [
        | inl j ↦ (x, inl refl, j)
        | inr j ↦ let r = from_flat_map f xs y j in (r.0, inr r.1, r.2)
      ]

  pub from_filter_map : (f : A → Option B) (xs : List A) (y : B) → IsIn y (filter_map f xs) → (x : A) × IsIn x xs × (f x ≡ Some y)
  from_filter_map f [] y i = absurd i
  from_filter_map f (x ∷ xs) y i =
      elim (f x) as (λ o. f x ≡ o → IsIn y (cons_option o (filter_map f xs)) → (z : A) × IsIn z (x ∷ xs) × (f z ≡ Some y)) [
        | None ↦ λ e j. let r = from_filter_map f xs y j in (r.0, inr r.1, r.2)
        | Some v ↦ λ e. elim [
          | inl g ↦ (x, inl refl, cc)
          | inr j ↦ let r = from_filter_map f xs y j in (r.0, inr r.1, r.2)
        ]
      ] refl i
