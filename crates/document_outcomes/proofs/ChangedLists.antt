-- Lists whose members are changed one by one: what is found, kept or made of them.
use Rattle.std.proofs.Common.{◌≡◌, inl, inr, Bool, true, false, cond, List, [], ◌∷◌, ◌++◌, map, Some, None, refl, sym, ◌∙◌}
use Rattle.std.specs.Prelude.{Option}
use Rattle.std.specs.List.{find, filter, filter_map, flat_map, cons_option}
use Rattle.std.specs.Option.{option_map, option_to_list}
use Rattle.std.proofs.lemmas.List.{map-append}
use Rattle.fc_base.specs.Graph.{IsIn}

-- what is found among changed things is what was found, changed, where the tests agree on what stands there
pub find-changed :
    {A B : Type 0} (f : A → B) (p : B → Bool) (q : A → Bool) (xs : List A)
    → ((x : A) → IsIn x xs → p (f x) ≡ q x) → find p (map f xs) ≡ option_map f (find q xs)
find-changed f p q [] alike = refl
find-changed f p q (x ∷ xs) alike =
    (λ i. cond (alike x (inl refl) i) (Some (f x)) (find-changed f p q xs (λ y j. alike y (inr j)) i))
    ∙ elim (q x) as (λ b. cond b (Some (f x)) (option_map f (find q xs)) ≡ option_map f (cond b (Some x) (find q xs))) [ true ↦ refl | false ↦ refl ]

-- and those that pass a test are those that passed it, changed
pub filter-changed :
    {A B : Type 0} (f : A → B) (p : B → Bool) (q : A → Bool) (xs : List A)
    → ((x : A) → IsIn x xs → p (f x) ≡ q x) → filter p (map f xs) ≡ map f (filter q xs)
filter-changed f p q [] alike = refl
filter-changed f p q (x ∷ xs) alike =
    (λ i. cond (alike x (inl refl) i) (f x ∷ filter-changed f p q xs (λ y j. alike y (inr j)) i) (filter-changed f p q xs (λ y j. alike y (inr j)) i))
    ∙ elim (q x) as (λ b. cond b (f x ∷ map f (filter q xs)) (map f (filter q xs)) ≡ map f (cond b (x ∷ filter q xs) (filter q xs))) [ true ↦ refl | false ↦ refl ]

pub flat_map-changed :
    {A B C D : Type 0} (f : A → B) (g : B → List D) (h : A → List C) (k : C → D) (xs : List A)
    → ((x : A) → IsIn x xs → g (f x) ≡ map k (h x)) → flat_map g (map f xs) ≡ map k (flat_map h xs)
flat_map-changed f g h k [] alike = refl
flat_map-changed f g h k (x ∷ xs) alike =
    (λ i. alike x (inl refl) i ++ flat_map-changed f g h k xs (λ y j. alike y (inr j)) i) ∙ sym (map-append k (h x) (flat_map h xs))

pub filter_map-changed :
    {A B C D : Type 0} (f : A → B) (g : B → Option D) (h : A → Option C) (k : C → D) (xs : List A)
    → ((x : A) → IsIn x xs → g (f x) ≡ option_map k (h x)) → filter_map g (map f xs) ≡ map k (filter_map h xs)
filter_map-changed f g h k [] alike = refl
filter_map-changed f g h k (x ∷ xs) alike =
    (λ i. cons_option (alike x (inl refl) i) (filter_map-changed f g h k xs (λ y j. alike y (inr j)) i))
    ∙ elim (h x) as (λ o. cons_option (option_map k o) (map k (filter_map h xs)) ≡ map k (cons_option o (filter_map h xs))) [ None ↦ refl | Some y ↦ refl ]

pub map-alike : {A B : Type 0} (f g : A → B) (xs : List A) → ((x : A) → IsIn x xs → f x ≡ g x) → map f xs ≡ map g xs
map-alike f g [] alike = refl
map-alike f g (x ∷ xs) alike = λ i. alike x (inl refl) i ∷ map-alike f g xs (λ y j. alike y (inr j)) i

pub map-twice : {A B C : Type 0} (f : A → B) (g : B → C) (xs : List A) → map g (map f xs) ≡ map (λ x. g (f x)) xs
map-twice f g [] = refl
map-twice f g (x ∷ xs) = λ i. g (f x) ∷ map-twice f g xs i

pub listed : {A B : Type 0} (f : A → B) (o : Option A) → option_to_list (option_map f o) ≡ map f (option_to_list o)
listed f None = refl
listed f (Some x) = refl

pub map-same : {A : Type 0} (f : A → A) (xs : List A) → ((x : A) → f x ≡ x) → map f xs ≡ xs
map-same f [] same = refl
map-same f (x ∷ xs) same = λ i. same x i ∷ map-same f xs same i
