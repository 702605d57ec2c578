-- Lists in the order of label.
use Rattle.std.proofs.Common.{◌≡◌, ◌+◌, ◌<◌, ℕ, zero, suc, Bool, true, false, not, cond, List, [], ◌∷◌, ◌++◌, map, length, slice_get, get_or, Option, Some, None, refl, sym, ap, subst, ◌∙◌, arith}
use Rattle.std.specs.Cmp.{IsTotalOrder}
use Rattle.std.specs.Cmp.Lexicographic.{texts_ties}
use Rattle.std.specs.List.{filter, find, insert, position_or_len, AllByRecursion}
use Rattle.std.specs.List.Sorted.{IsPartitionedBy}
use Rattle.std.specs.Ordering.{is_eq, ordering_reverse}
use Rattle.std.specs.Option.{option_and_then, option_map, option_map_or}
use Rattle.std.specs.declared.cmp.Ordering.{Ordering}
use Rattle.std.specs.declared.cmp.Ordering.TheVariants.{Less, Equal, Greater}
use Rattle.std.proofs.lemmas.Bool.{false≢true}
use Rattle.std.proofs.lemmas.Cmp.{nat_list_cmp_total}
use Rattle.std.proofs.lemmas.List.Folds.{find_at}
use Rattle.fc_base.specs.declared.ids.ObjectId.{ObjectId}
use Rattle.object_paths.specs.Order.{text_cmp}
use Rattle.object_paths.specs.Slots.{same_text}
use Rattle.doc_tables.specs.Labels.{Labelled, Rises, before_by, text_before, of_label}
use Rattle.doc_tables.proofs.Finding.{same_text-told}

-- ---- texts
total : IsTotalOrder text_cmp
total = nat_list_cmp_total

reversed : (o : Ordering) → o ≡ ordering_reverse o → o ≡ Equal
reversed Less h = absurd (cc)
reversed Equal h = refl
reversed Greater h = absurd (cc)

pub text_cmp-refl : (a : List ℕ) → text_cmp a a ≡ Equal
text_cmp-refl a = reversed (text_cmp a a) (total.antisymm a a)

flip : (a b : List ℕ) (o : Ordering) → text_cmp a b ≡ o → text_cmp b a ≡ ordering_reverse o
flip a b o h = total.antisymm b a ∙ ap ordering_reverse h

less-not : (o : Ordering) → o ≡ Less → before_by false o ≡ false → ⊥
less-not o h k = false≢true (sym k ∙ ap (before_by false) h)

-- what is not less than a text that does not stand before another does not stand before it
pub before-step : (e : Bool) (t p q : List ℕ) → text_before e t p ≡ false → text_before false p q ≡ false → text_before e t q ≡ false
before-step e t p q h k =
    elim (text_cmp q t) as (λ o. text_cmp q t ≡ o → before_by e o ≡ false) [
      | Less ↦ λ l. absurd (less-not (text_cmp q p) (of-less l) k)
      | Equal ↦ λ l. of-equal e h l
      | Greater ↦ λ l. refl
    ] refl
  where
    of-less : text_cmp q t ≡ Less → text_cmp q p ≡ Less
    of-less l =
        elim (text_cmp p t) as (λ o. text_cmp p t ≡ o → text_cmp q p ≡ Less) [
          | Less ↦ λ m. absurd (false≢true (sym h ∙ ap (before_by e) m))
          | Equal ↦ λ m. flip p q Greater (total.congr p t q m ∙ flip q t Less l)
          | Greater ↦ λ m. total.trans q t p l (flip p t Greater m)
        ] refl

    of-equal : (b : Bool) → text_before b t p ≡ false → text_cmp q t ≡ Equal → b ≡ false
    of-equal false g l = refl
    of-equal true g l =
        elim (text_cmp p t) as (λ o. text_cmp p t ≡ o → true ≡ false) [
          | Less ↦ λ m. absurd (false≢true (sym g ∙ ap (before_by true) m))
          | Equal ↦ λ m. absurd (false≢true (sym g ∙ ap (before_by true) m))
          | Greater ↦ λ m. absurd (less-not (text_cmp q p) (total.congr q t p l ∙ flip p t Greater m) k)
        ] refl

-- a text and itself
pub same-not_less : (t p : List ℕ) → same_text p t ≡ true → text_before false t p ≡ false
same-not_less t p h = ap (before_by false) (ap (λ (x : List ℕ). text_cmp x t) (same_text-told p t h) ∙ text_cmp-refl t)

pub same-before : (t p : List ℕ) → same_text p t ≡ true → text_before true t p ≡ true
same-before t p h = ap (before_by true) (ap (λ (x : List ℕ). text_cmp x t) (same_text-told p t h) ∙ text_cmp-refl t)

pub not-same : (t p : List ℕ) → text_before true t p ≡ false → same_text p t ≡ false
not-same t p h =
    elim (same_text p t) as (λ b. same_text p t ≡ b → b ≡ false) [
      | true ↦ λ e. absurd (false≢true (sym h ∙ same-before t p e))
      | false ↦ λ e. refl
    ] refl

pub less-not_same : (t p : List ℕ) → text_before false t p ≡ true → same_text p t ≡ false
less-not_same t p h =
    elim (same_text p t) as (λ b. same_text p t ≡ b → b ≡ false) [
      | true ↦ λ e. absurd (false≢true (sym (same-not_less t p e) ∙ h))
      | false ↦ λ e. refl
    ] refl

-- what is neither less nor the same is greater
pub greater : (t p : List ℕ) → text_before false t p ≡ false → same_text p t ≡ false → text_before true t p ≡ false
greater t p h k =
    elim (text_cmp p t) as (λ o. text_cmp p t ≡ o → before_by true o ≡ false) [
      | Less ↦ λ l. absurd (less-not (text_cmp p t) l h)
      | Equal ↦ λ l. absurd (false≢true (sym k ∙ equal-same p t l))
      | Greater ↦ λ l. refl
    ] refl
  where
    equal-same : (a b : List ℕ) → text_cmp a b ≡ Equal → same_text a b ≡ true
    equal-same a b l = texts_ties a b ∙ ap is_eq l

-- a text that is not greater: the other is not less
pub behind : (t p : List ℕ) → text_before true t p ≡ true → text_before false p t ≡ false
behind t p h =
    elim (text_cmp p t) as (λ o. text_cmp p t ≡ o → text_before false p t ≡ false) [
      | Less ↦ λ l. ap (before_by false) (flip p t Less l)
      | Equal ↦ λ l. ap (before_by false) (flip p t Equal l)
      | Greater ↦ λ l. absurd (false≢true (ap (before_by true) (sym l) ∙ h))
    ] refl

pub ahead : (t p : List ℕ) → text_before true t p ≡ false → text_before false t p ≡ false
ahead t p h =
    elim (text_cmp p t) as (λ o. text_cmp p t ≡ o → before_by false o ≡ false) [
      | Less ↦ λ l. absurd (false≢true (sym h ∙ ap (before_by true) l))
      | Equal ↦ λ l. refl
      | Greater ↦ λ l. refl
    ] refl

-- ---- lists that rise
pub of-more : {A : Type 0} (P Q : A → Type 0) (xs : List A) → ((x : A) → P x → Q x) → AllByRecursion P xs → AllByRecursion Q xs
of-more P Q [] f h = tt
of-more P Q (x ∷ xs) f h = (f x h.0, of-more P Q xs f h.1)

-- where the first does not stand before a text, none does
pub none-before : (e : Bool) (t : List ℕ) (p : Labelled) (ps : List Labelled) → text_before e t p.0 ≡ false → AllByRecursion (λ (q : Labelled). text_before false p.0 q.0 ≡ false) ps
    → AllByRecursion (λ (q : Labelled). text_before e t q.0 ≡ false) ps
none-before e t p ps h all = of-more (λ (q : Labelled). text_before false p.0 q.0 ≡ false) (λ (q : Labelled). text_before e t q.0 ≡ false) ps (λ q k. before-step e t p.0 q.0 h k) all

-- what is greater than a text is not of that label
pub none-of : (t : List ℕ) (ps : List Labelled) → AllByRecursion (λ (q : Labelled). text_before true t q.0 ≡ false) ps → of_label t ps ≡ []
none-of t [] h = refl
none-of t (p ∷ ps) h = ap (λ b. cond b (p ∷ of_label t ps) (of_label t ps)) (not-same t p.0 h.0) ∙ none-of t ps h.1

-- a member behind those that are not greater
abbrev pub put_by : Labelled → List Labelled → List Labelled
put_by y [] = y ∷ []
put_by y (p ∷ ps) = cond (text_before true y.0 p.0) (p ∷ put_by y ps) (y ∷ p ∷ ps)

put-all : (P : Labelled → Type 0) (y : Labelled) (ps : List Labelled) → P y → AllByRecursion P ps → AllByRecursion P (put_by y ps)
put-all P y [] own h = (own, tt)
put-all P y (p ∷ ps) own h =
    elim (text_before true y.0 p.0) as (λ b. AllByRecursion P (cond b (p ∷ put_by y ps) (y ∷ p ∷ ps))) [
      | true ↦ (h.0, put-all P y ps own h.1)
      | false ↦ (own, h)
    ]

pub put-rises : (y : Labelled) (ps : List Labelled) → Rises ps → Rises (put_by y ps)
put-rises y [] h = (tt, tt)
put-rises y (p ∷ ps) h =
    elim (text_before true y.0 p.0) as (λ b. text_before true y.0 p.0 ≡ b → Rises (cond b (p ∷ put_by y ps) (y ∷ p ∷ ps))) [
      | true ↦ λ e. (put-all (λ (q : Labelled). text_before false p.0 q.0 ≡ false) y ps (behind y.0 p.0 e) h.0, put-rises y ps h.1)
      | false ↦ λ e. let first = ahead y.0 p.0 e in ((first, none-before false y.0 p ps first h.0), h)
    ] refl

pub put-of : (t : List ℕ) (y : Labelled) (ps : List Labelled) → Rises ps → of_label t (put_by y ps) ≡ of_label t ps ++ of_label t (y ∷ [])
put-of t y [] h = refl
put-of t y (p ∷ ps) h =
    elim (text_before true y.0 p.0) as (λ b. text_before true y.0 p.0 ≡ b → of_label t (cond b (p ∷ put_by y ps) (y ∷ p ∷ ps)) ≡ of_label t (p ∷ ps) ++ of_label t (y ∷ [])) [
      | true ↦ λ e.
          elim (same_text p.0 t) as (λ b. cond b (p ∷ of_label t (put_by y ps)) (of_label t (put_by y ps)) ≡ cond b (p ∷ of_label t ps) (of_label t ps) ++ of_label t (y ∷ [])) [
            | true ↦ ap (λ (l : List Labelled). p ∷ l) (put-of t y ps h.1)
            | false ↦ put-of t y ps h.1
          ]
      | false ↦ λ e.
          elim (same_text y.0 t) as (λ b. same_text y.0 t ≡ b → cond b (y ∷ of_label t (p ∷ ps)) (of_label t (p ∷ ps)) ≡ of_label t (p ∷ ps) ++ cond b (y ∷ []) []) [
            | true ↦ λ k.
                let none : of_label t (p ∷ ps) ≡ [] =
                none-of t (p ∷ ps) (subst (λ (l : List ℕ). AllByRecursion (λ (q : Labelled). text_before true l q.0 ≡ false) (p ∷ ps)) (same_text-told y.0 t k) (e, none-before true y.0 p ps e h.0))
                in
                ap (λ (l : List Labelled). y ∷ l) none ∙ sym (ap (λ (l : List Labelled). l ++ y ∷ []) none)
            | false ↦ λ k. sym (append-none (of_label t (p ∷ ps)))
          ] refl
    ] refl
  where
    append-none : (xs : List Labelled) → xs ++ [] ≡ xs
    append-none [] = refl
    append-none (x ∷ xs) = ap (λ (l : List Labelled). x ∷ l) (append-none xs)

-- a filter keeps the order
filter-all : {A : Type 0} (P : A → Type 0) (p : A → Bool) (xs : List A) → AllByRecursion P xs → AllByRecursion P (filter p xs)
filter-all P p [] h = tt
filter-all P p (x ∷ xs) h =
    elim (p x) as (λ b. AllByRecursion P (cond b (x ∷ filter p xs) (filter p xs))) [
      | true ↦ (h.0, filter-all P p xs h.1)
      | false ↦ filter-all P p xs h.1
    ]

pub filter-rises : (p : Labelled → Bool) (ps : List Labelled) → Rises ps → Rises (filter p ps)
filter-rises p [] h = tt
filter-rises p (x ∷ xs) h =
    elim (p x) as (λ b. Rises (cond b (x ∷ filter p xs) (filter p xs))) [
      | true ↦ (filter-all (λ (q : Labelled). text_before false x.0 q.0 ≡ false) p xs h.0, filter-rises p xs h.1)
      | false ↦ filter-rises p xs h.1
    ]

pub filter-swap : {A : Type 0} (p q : A → Bool) (xs : List A) → filter p (filter q xs) ≡ filter q (filter p xs)
filter-swap p q [] = refl
filter-swap {A = A} p q (x ∷ xs) =
    elim (p x) as (λ b. p x ≡ b → filter p (cond (q x) (x ∷ filter q xs) (filter q xs)) ≡ filter q (cond b (x ∷ filter p xs) (filter p xs))) [
      | true ↦ λ e. elim (q x) as (λ c. filter p (cond c (x ∷ filter q xs) (filter q xs)) ≡ cond c (x ∷ filter q (filter p xs)) (filter q (filter p xs))) [
        | true ↦ ap (λ b. cond b (x ∷ filter p (filter q xs)) (filter p (filter q xs))) e ∙ ap (λ (l : List A). x ∷ l) (filter-swap p q xs)
        | false ↦ filter-swap p q xs
      ]
      | false ↦ λ e. elim (q x) as (λ c. filter p (cond c (x ∷ filter q xs) (filter q xs)) ≡ filter q (filter p xs)) [
        | true ↦ ap (λ b. cond b (x ∷ filter p (filter q xs)) (filter p (filter q xs))) e ∙ filter-swap p q xs
        | false ↦ filter-swap p q xs
      ]
    ] refl

pub filter-map : {A B : Type 0} (f : A → B) (p : B → Bool) (xs : List A) → filter p (map f xs) ≡ map f (filter (λ x. p (f x)) xs)
filter-map f p [] = refl
filter-map f p (x ∷ xs) =
    elim (p (f x)) as (λ b. cond b (f x ∷ filter p (map f xs)) (filter p (map f xs)) ≡ map f (cond b (x ∷ filter (λ y. p (f y)) xs) (filter (λ y. p (f y)) xs))) [
      | true ↦ ap (λ l. f x ∷ l) (filter-map f p xs)
      | false ↦ filter-map f p xs
    ]

-- ---- a search
-- the first that passes is the first of those that pass
pub find-filter : {A : Type 0} (p : A → Bool) (xs : List A) → find p xs ≡ slice_get (filter p xs) 0
find-filter p [] = refl
find-filter p (x ∷ xs) =
    elim (p x) as (λ b. cond b (Some x) (find p xs) ≡ slice_get (cond b (x ∷ filter p xs) (filter p xs)) 0) [
      | true ↦ refl
      | false ↦ find-filter p xs
    ]

-- what stands at the place of a search, if it passes
pub searched : (before has : ObjectId → Bool) (ids : List ObjectId) (place : ℕ) (found : Option ObjectId) → place ≡ position_or_len (λ id. not (before id)) ids → found ≡ slice_get ids place
    → option_and_then (λ id. cond (has id) (Some id) None) found ≡ option_and_then (λ id. cond (has id) (Some id) None) (find (λ id. not (before id)) ids)
searched before has ids place found at is = ap (option_and_then (λ id. cond (has id) (Some id) None)) (is ∙ ap (slice_get ids) at ∙ sym (find_at (λ id. not (before id)) ids))

-- where the texts are those of numbers, a test of numbers parts them
module _ (text_of : ObjectId → Option (List ℕ)) where
  abbrev pub Tells : List Labelled → Type 0
  Tells ps = AllByRecursion (λ (p : Labelled). text_of p.1 ≡ Some p.0) ps

  abbrev pub goes_before : Bool → List ℕ → ObjectId → Bool
  goes_before e t id = option_map_or (text_before e t) (text_of id) false

  abbrev pub is_of : List ℕ → ObjectId → Bool
  is_of t id = option_map_or (λ other. same_text other t) (text_of id) false

  goes : (e : Bool) (t : List ℕ) (p : Labelled) → text_of p.1 ≡ Some p.0 → goes_before e t p.1 ≡ text_before e t p.0
  goes e t p h = ap (λ (o : Option (List ℕ)). option_map_or (text_before e t) o false) h

  none-go : (e : Bool) (t : List ℕ) (ps : List Labelled) → Tells ps → AllByRecursion (λ (q : Labelled). text_before e t q.0 ≡ false) ps → (j : ℕ) (d : ObjectId) → j < length (map (λ (p : Labelled). p.1) ps)
      → goes_before e t (get_or (map (λ (p : Labelled). p.1) ps) j d) ≡ false
  none-go e t [] tells h j d l = absurd (omega arith)
  none-go e t (p ∷ ps) tells h zero d l = goes e t p tells.0 ∙ h.0
  none-go e t (p ∷ ps) tells h (suc j) d l = none-go e t ps tells.1 h.1 j d (omega arith)

  pub parted : (e : Bool) (t : List ℕ) (ps : List Labelled) → Rises ps → Tells ps → IsPartitionedBy (goes_before e t) (map (λ (p : Labelled). p.1) ps)
  parted e t [] h tells i j d le l k = absurd (omega arith)
  parted e t (p ∷ ps) h tells zero zero d le l k = k
  parted e t (p ∷ ps) h tells (suc i) zero d le l k = absurd (omega arith)
  parted e t (p ∷ ps) h tells (suc i) (suc j) d le l k = parted e t ps h.1 tells.1 i j d (omega arith) (omega arith) k
  parted e t (p ∷ ps) h tells zero (suc j) d le l k =
      goes e t p tells.0
      ∙ (elim (text_before e t p.0) as (λ b. text_before e t p.0 ≡ b → b ≡ true) [
        | true ↦ λ m. refl
        | false ↦ λ m. absurd (false≢true (sym (none-go e t ps tells.1 (none-before e t p ps m h.0) j d (omega arith)) ∙ k))
      ] refl)

  abbrev first_by : List ℕ → List ObjectId → Option ObjectId
  first_by t ids = option_and_then (λ id. cond (is_of t id) (Some id) None) (find (λ id. not (goes_before false t id)) ids)

  none-found : (t : List ℕ) (ps : List Labelled) → AllByRecursion (λ (q : Labelled). text_before true t q.0 ≡ false) ps → find (λ (p : Labelled). same_text p.0 t) ps ≡ None
  none-found t [] h = refl
  none-found t (p ∷ ps) h = ap (λ b. cond b (Some p) (find (λ (q : Labelled). same_text q.0 t) ps)) (not-same t p.0 h.0) ∙ none-found t ps h.1

  pub found-first : (t : List ℕ) (ps : List Labelled) → Rises ps → Tells ps → first_by t (map (λ (p : Labelled). p.1) ps) ≡ option_map (λ (p : Labelled). p.1) (find (λ (p : Labelled). same_text p.0 t) ps)
  found-first t [] h tells = refl
  found-first t (p ∷ ps) h tells =
      let rest = map (λ (q : Labelled). q.1) ps in
      ap (λ b. option_and_then (λ id. cond (is_of t id) (Some id) None) (cond (not b) (Some p.1) (find (λ id. not (goes_before false t id)) rest))) (goes false t p tells.0)
      ∙ (elim (text_before false t p.0) as (λ b. text_before false t p.0 ≡ b → option_and_then (λ id. cond (is_of t id) (Some id) None) (cond (not b) (Some p.1) (find (λ id. not (goes_before false t id)) rest))
      ≡ option_map (λ (q : Labelled). q.1) (cond (same_text p.0 t) (Some p) (find (λ (q : Labelled). same_text q.0 t) ps))) [
        | true ↦ λ e.
            found-first t ps h.1 tells.1
            ∙ sym (ap (λ b. option_map (λ (q : Labelled). q.1) (cond b (Some p) (find (λ (q : Labelled). same_text q.0 t) ps))) (less-not_same t p.0 e))
        | false ↦ λ e.
            ap (λ (o : Option (List ℕ)). cond (option_map_or (λ other. same_text other t) o false) (Some p.1) None) tells.0
            ∙ (elim (same_text p.0 t) as (λ b. same_text p.0 t ≡ b → cond b (Some p.1) None ≡ option_map (λ (q : Labelled). q.1) (cond b (Some p) (find (λ (q : Labelled). same_text q.0 t) ps))) [
              | true ↦ λ k. refl
              | false ↦ λ k. sym (ap (option_map (λ (q : Labelled). q.1)) (none-found t ps (none-before true t p ps (greater t p.0 e k) h.0)))
            ] refl)
      ] refl)

  -- a number goes in behind those that do not go before
  pub put-in : (y : Labelled) (ps : List Labelled) → Tells ps
      → insert (map (λ (p : Labelled). p.1) ps) (position_or_len (λ id. not (goes_before true y.0 id)) (map (λ (p : Labelled). p.1) ps)) y.1 ≡ map (λ (p : Labelled). p.1) (put_by y ps)
  put-in y [] tells = refl
  put-in y (p ∷ ps) tells =
      let rest = map (λ (q : Labelled). q.1) ps in
      let place : ℕ = position_or_len (λ id. not (goes_before true y.0 id)) rest in
      ap (λ b. insert (p.1 ∷ rest) (cond (not (not b)) (1 + place) 0) y.1) (goes true y.0 p tells.0)
      ∙ (elim (text_before true y.0 p.0) as (λ b. insert (p.1 ∷ rest) (cond (not (not b)) (1 + place) 0) y.1 ≡ map (λ (q : Labelled). q.1) (cond b (p ∷ put_by y ps) (y ∷ p ∷ ps))) [
        | true ↦ insert-next p.1 rest place y.1 ∙ ap (λ (l : List ObjectId). p.1 ∷ l) (put-in y ps tells.1)
        | false ↦ refl
      ])
    where
      insert-next : (x : ObjectId) (xs : List ObjectId) (n : ℕ) (z : ObjectId) → insert (x ∷ xs) (1 + n) z ≡ x ∷ insert xs n z
      insert-next x xs n z = let e : 1 + n ≡ suc n = omega arith in rw e refl
