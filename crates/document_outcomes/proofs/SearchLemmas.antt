-- A search finds nothing exactly where no member of the list passes.
use Rattle.std.proofs.Common.{◌≡◌, Bool, true, false, ◌||◌, List, [], ◌∷◌, cond, Some, None, inl, inr, refl, sym, subst}
use Rattle.std.specs.Prelude.{Option, find}
use Rattle.std.specs.List.{list_any}
use Rattle.std.specs.Option.{option_map, option_or}
use Rattle.fc_base.specs.Graph.{IsIn}
use Rattle.document_outcomes.specs.Faults.{first_some}

pub or_none : {A : Type 0} (a b : Option A) → option_or a b ≡ None → (a ≡ None) × (b ≡ None)
or_none None b h = (refl, h)
or_none (Some x) b h = absurd (cc)

pub none_or : {A : Type 0} (a b : Option A) → a ≡ None → b ≡ None → option_or a b ≡ None
none_or None b p q = q
none_or (Some x) b p q = absurd (cc)

pub map_none : {A B : Type 0} (f : A → B) (o : Option A) → option_map f o ≡ None → o ≡ None
map_none f None h = refl
map_none f (Some x) h = absurd (cc)

pub none_map : {A B : Type 0} (f : A → B) (o : Option A) → o ≡ None → option_map f o ≡ None
none_map f None h = refl
none_map f (Some x) h = absurd (cc)

pub cond_none : {A : Type 0} (b : Bool) (x : A) → cond b (Some x) None ≡ None → b ≡ false
cond_none true x h = absurd (cc)
cond_none false x h = refl

pub or_false : (a b : Bool) → (a || b) ≡ false → (a ≡ false) × (b ≡ false)
or_false true b h = absurd (cc)
or_false false b h = (refl, h)

pub find-none : {A : Type 0} (p : A → Bool) (xs : List A) → find p xs ≡ None → (x : A) → IsIn x xs → p x ≡ false
find-none p [] h x i = absurd i
find-none {A} p (y ∷ ys) h x i =
    elim (p y) as (λ b. p y ≡ b → cond b (Some y) (find p ys) ≡ None → p x ≡ false) [
      | true ↦ λ e g. absurd (cc)
      | false ↦ λ e g. elim i [
        | inl same ↦ subst (λ (z : A). p z ≡ false) (sym same) e
        | inr j ↦ find-none p ys g x j
      ]
    ] refl h

pub none-find : {A : Type 0} (p : A → Bool) (xs : List A) → ((x : A) → IsIn x xs → p x ≡ false) → find p xs ≡ None
none-find p [] h = refl
none-find p (y ∷ ys) h = rw (h y (inl refl)) (none-find p ys (λ x i. h x (inr i)))

pub any-false : {A : Type 0} (p : A → Bool) (xs : List A) → list_any p xs ≡ false → (x : A) → IsIn x xs → p x ≡ false
any-false p [] h x i = absurd i
any-false {A} p (y ∷ ys) h x (inl e) = subst (λ (z : A). p z ≡ false) (sym e) (or_false (p y) (list_any p ys) h).0
any-false p (y ∷ ys) h x (inr i) = any-false p ys (or_false (p y) (list_any p ys) h).1 x i

pub false-any : {A : Type 0} (p : A → Bool) (xs : List A) → ((x : A) → IsIn x xs → p x ≡ false) → list_any p xs ≡ false
false-any p [] h = refl
false-any p (y ∷ ys) h = rw (h y (inl refl)) (false-any p ys (λ x i. h x (inr i)))

pub first_some-none : {A B : Type 0} (f : A → Option B) (xs : List A) → first_some f xs ≡ None → (x : A) → IsIn x xs → f x ≡ None
first_some-none f [] h x i = absurd i
first_some-none {A} f (y ∷ ys) h x (inl e) = subst (λ (z : A). f z ≡ None) (sym e) (or_none (f y) (first_some f ys) h).0
first_some-none f (y ∷ ys) h x (inr i) = first_some-none f ys (or_none (f y) (first_some f ys) h).1 x i

pub none-first_some : {A B : Type 0} (f : A → Option B) (xs : List A) → ((x : A) → IsIn x xs → f x ≡ None) → first_some f xs ≡ None
none-first_some f [] h = refl
none-first_some f (y ∷ ys) h = none_or (f y) (first_some f ys) (h y (inl refl)) (none-first_some f ys (λ x i. h x (inr i)))
