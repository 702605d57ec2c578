-- What a search finds in a list whose keys are distinct texts, and in a mapped list.
use Rattle.std.proofs.Common.{◌≡◌, ◌<◌, ℕ, zero, suc, Bool, true, false, cond, nat_eq, nat_lt, List, [], ◌∷◌, map, length, Option, Some, None, IsSome, is_some, Bor, slice_get, get_or, position, refl, sym, ap, subst, ◌∙◌, arith}
use Rattle.std.proofs.lemmas.Bool.{false≢true}
use Rattle.std.specs.Cmp.Lexicographic.{pointwise, nat_list_eq_equiv, same_text as texts_tell}
use Rattle.std.specs.List.{find, position_or_len, IsDistinct, AllByRecursion}
use Rattle.std.specs.Map.{keys_of, lookup, lookup_key}
use Rattle.std.specs.Option.{option_and_then, option_copied, option_map}
use Rattle.std.proofs.lemmas.List.{length-map}
use Rattle.std.proofs.lemmas.List.Folds.{find_at}
use Rattle.std.proofs.lemmas.List.Quantifiers.{position-Some}
use Rattle.std.proofs.lemmas.Option.{slice_get-map, slice_get_past, get_or_from_slice_get}
use Rattle.std.proofs.lemmas.Map.Keys.{IsDistinct-head, IsDistinct-tail}
use Rattle.object_paths.specs.Slots.{same_text}

pub same_text-refl : (a : List ℕ) → same_text a a ≡ true
same_text-refl a = nat_list_eq_equiv.refl a

pub same_text-sym : (a b : List ℕ) → same_text a b ≡ same_text b a
same_text-sym a b = nat_list_eq_equiv.symm a b

pub same_text-told : (a b : List ℕ) → same_text a b ≡ true → a ≡ b
same_text-told a b h = texts_tell a b (sym h)

-- a search in a mapped list
pub find-map : {A B : Type 0} (f : A → B) (p : B → Bool) (xs : List A) → find p (map f xs) ≡ option_map f (find (λ x. p (f x)) xs)
find-map f p [] = refl
find-map f p (x ∷ xs) =
    elim (p (f x)) as (λ b. cond b (Some (f x)) (find p (map f xs)) ≡ option_map f (cond b (Some x) (find (λ y. p (f y)) xs))) [
      | true ↦ refl
      | false ↦ find-map f p xs
    ]

pub apart_at : {A : Type 0} (key : A → List ℕ) (a : List ℕ) (xs : List A) (i : ℕ) (x : A) → AllByRecursion (λ b. pointwise nat_eq a b ≡ false) (map key xs) → slice_get xs i ≡ Some x → same_text a (key x) ≡ false
apart_at key a [] i x h at = absurd (cc)
apart_at {A} key a (y ∷ ys) zero x h at = subst (λ (z : A). same_text a (key z) ≡ false) (let e : y ≡ x = cc in e) h.0
apart_at key a (y ∷ ys) (suc i) x h at = apart_at key a ys i x h.1 at

-- what stands at a place is found by its key, where keys are distinct
pub find-at : {A : Type 0} (key : A → List ℕ) (xs : List A) (i : ℕ) (x : A) → IsDistinct (pointwise nat_eq) (map key xs) → slice_get xs i ≡ Some x → find (λ y. same_text (key y) (key x)) xs ≡ Some x
find-at key [] i x h at = absurd (cc)
find-at {A} key (y ∷ ys) zero x h at =
    let same : y ≡ x = cc in
    subst (λ (z : A). find (λ w. same_text (key w) (key z)) (y ∷ ys) ≡ Some z) same
    (ap (λ b. cond b (Some y) (find (λ w. same_text (key w) (key y)) ys)) (same_text-refl (key y)))
find-at key (y ∷ ys) (suc i) x h at =
    ap (λ b. cond b (Some y) (find (λ w. same_text (key w) (key x)) ys))
    (apart_at key (key y) ys i x (IsDistinct-head (pointwise nat_eq) (key y) (map key ys) h) at)
    ∙ find-at key ys i x (IsDistinct-tail (pointwise nat_eq) (key y) (map key ys) h) at

-- what is found passes, and stands somewhere
pub find-passes : {A : Type 0} (p : A → Bool) (xs : List A) (x : A) → find p xs ≡ Some x → p x ≡ true
find-passes p [] x h = absurd (cc)
find-passes {A} p (y ∷ ys) x h =
    elim (p y) as (λ b. p y ≡ b → cond b (Some y) (find p ys) ≡ Some x → p x ≡ true) [
      | true ↦ λ e g. subst (λ (z : A). p z ≡ true) (let same : y ≡ x = cc in same) e
      | false ↦ λ e g. find-passes p ys x g
    ] refl h

pub find-place : {A : Type 0} (p : A → Bool) (xs : List A) (x : A) → find p xs ≡ Some x → (i : ℕ) × (slice_get xs i ≡ Some x)
find-place p [] x h = absurd (cc)
find-place {A} p (y ∷ ys) x h =
    elim (p y) as (λ b. cond b (Some y) (find p ys) ≡ Some x → (i : ℕ) × (slice_get (y ∷ ys) i ≡ Some x)) [
      | true ↦ λ g. (0, g)
      | false ↦ λ g. let r = find-place p ys x g in (suc r.0, r.1)
    ] h

-- the same tests find the same
pub find-same : {A : Type 0} (p q : A → Bool) (xs : List A) → ((x : A) → p x ≡ q x) → find p xs ≡ find q xs
find-same p q [] h = refl
find-same p q (x ∷ xs) h = (λ j. cond (h x j) (Some x) (find-same p q xs h j))

-- what a map's look-ups find
pub lookup-find : {K X : Type 0} (t : K → Bool) (es : List (K × X)) → lookup t es ≡ option_map (λ (e : K × X). e.1) (find (λ (e : K × X). t e.0) es)
lookup-find t [] = refl
lookup-find {K} {X} t (e ∷ es) =
    elim (t e.0) as (λ b. cond b (Some e.1) (lookup t es) ≡ option_map (λ (d : K × X). d.1) (cond b (Some e) (find (λ (d : K × X). t d.0) es))) [
      | true ↦ refl
      | false ↦ lookup-find t es
    ]

pub lookup_key-find : {K X : Type 0} (t : K → Bool) (es : List (K × X)) → lookup_key t es ≡ option_map (λ (e : K × X). e.0) (find (λ (e : K × X). t e.0) es)
lookup_key-find t [] = refl
lookup_key-find {K} {X} t (e ∷ es) =
    elim (t e.0) as (λ b. cond b (Some e.0) (lookup_key t es) ≡ option_map (λ (d : K × X). d.0) (cond b (Some e) (find (λ (d : K × X). t d.0) es))) [
      | true ↦ refl
      | false ↦ lookup_key-find t es
    ]

-- keys that are the same stand at one place
pub same-place : {A : Type 0} (key : A → List ℕ) (xs : List A) (i j : ℕ) (x y : A) → IsDistinct (pointwise nat_eq) (map key xs) → slice_get xs i ≡ Some x → slice_get xs j ≡ Some y → key x ≡ key y → i ≡ j
same-place key [] i j x y h a b e = absurd (cc)
same-place key (z ∷ zs) zero zero x y h a b e = refl
same-place {A} key (z ∷ zs) zero (suc j) x y h a b e =
    let same : key z ≡ key y = ap key (let one : z ≡ x = cc in one) ∙ e in
    let apart : same_text (key z) (key y) ≡ false = apart_at key (key z) zs j y (IsDistinct-head (pointwise nat_eq) (key z) (map key zs) h) b in
    absurd (false≢true (sym apart ∙ ap (same_text (key z)) (sym same) ∙ same_text-refl (key z)))
same-place {A} key (z ∷ zs) (suc i) zero x y h a b e =
    let same : key z ≡ key x = ap key (let one : z ≡ y = cc in one) ∙ sym e in
    let apart : same_text (key z) (key x) ≡ false = apart_at key (key z) zs i x (IsDistinct-head (pointwise nat_eq) (key z) (map key zs) h) a in
    absurd (false≢true (sym apart ∙ ap (same_text (key z)) (sym same) ∙ same_text-refl (key z)))
same-place key (z ∷ zs) (suc i) (suc j) x y h a b e = ap suc (same-place key zs i j x y (IsDistinct-tail (pointwise nat_eq) (key z) (map key zs) h) a b e)

-- where one passes, one is found
pub find-some : {A : Type 0} (p : A → Bool) (xs : List A) (i : ℕ) (x : A) → slice_get xs i ≡ Some x → p x ≡ true → find p xs ≡ None → ⊥
find-some p [] i x at h none = absurd (cc)
find-some {A} p (y ∷ ys) zero x at h none =
    elim (p y) as (λ b. p y ≡ b → cond b (Some y) (find p ys) ≡ None → ⊥) [
      | true ↦ λ e g. absurd (cc)
      | false ↦ λ e g. false≢true (sym e ∙ ap p (let one : y ≡ x = cc in one) ∙ h)
    ] refl none
find-some {A} p (y ∷ ys) (suc i) x at h none =
    elim (p y) as (λ b. cond b (Some y) (find p ys) ≡ None → ⊥) [
      | true ↦ λ g. absurd (cc)
      | false ↦ λ g. find-some p ys i x at h g
    ] none

-- what is found by a place is what is found
pub find-position : {A : Type 0} (p : A → Bool) (xs : List A) → find p xs ≡ option_and_then (slice_get xs) (position p xs)
find-position p xs =
    find_at p xs
    ∙ (elim (nat_lt (position_or_len p xs) (length xs)) as (λ b. nat_lt (position_or_len p xs) (length xs) ≡ b → slice_get xs (position_or_len p xs) ≡ option_and_then (slice_get xs) (cond b (Some (position_or_len p xs)) None)) [
      | true ↦ λ e. refl
      | false ↦ λ e. slice_get_past xs (position_or_len p xs) (grind (arith, e))
    ] refl)

-- ---- entries by their keys
module _ {X : Type 0} (es : List (List ℕ × X)) where
  -- a look-up finds what stands at a place
  pub lookup-at : (i : ℕ) (e : List ℕ × X) → IsDistinct (pointwise nat_eq) (keys_of es) → slice_get es i ≡ Some e → lookup (pointwise nat_eq e.0) es ≡ Some e.1
  lookup-at i e distinct at =
      lookup-find (pointwise nat_eq e.0) es
      ∙ ap (option_map (λ (x : List ℕ × X). x.1))
      (find-same (λ (x : List ℕ × X). pointwise nat_eq e.0 x.0) (λ (x : List ℕ × X). same_text x.0 e.0) es (λ x. same_text-sym e.0 x.0)
      ∙ find-at (λ (x : List ℕ × X). x.0) es i e distinct at)

  -- what stands at the place of a key has the key
  pub placed-key : (name : List ℕ) (i : ℕ) → position (pointwise nat_eq name) (keys_of es) ≡ Some i → (e : List ℕ × X) × (slice_get es i ≡ Some e) × (e.0 ≡ name)
  placed-key name i h =
      let key : List ℕ × X → List ℕ = λ e. e.0 in
      let p : List ℕ → Bool = pointwise nat_eq name in
      let r = position-Some p (keys_of es) i name h in
      let below : i < length es = omega (arith, r.0, length-map es key) in
      let m = at_below es i below in
      let there : slice_get (keys_of es) i ≡ Some m.0.0 = slice_get-map key es i ∙ ap (option_map key) m.1 in
      let own : get_or (keys_of es) i name ≡ m.0.0 = get_or_from_slice_get (keys_of es) i m.0.0 name there in
      (m.0, m.1, sym (same_text-told name m.0.0 (ap p (sym own) ∙ r.1)))
    where
      at_below : (xs : List (List ℕ × X)) (n : ℕ) → n < length xs → (x : List ℕ × X) × (slice_get xs n ≡ Some x)
      at_below [] n k = absurd (omega arith)
      at_below (x ∷ xs) zero k = (x, refl)
      at_below (x ∷ xs) (suc n) k = at_below xs n (omega arith)

  -- the place of a key is where it stands
  pub position-at : (i : ℕ) (e : List ℕ × X) → IsDistinct (pointwise nat_eq) (keys_of es) → slice_get es i ≡ Some e → position (pointwise nat_eq e.0) (keys_of es) ≡ Some i
  position-at i e distinct at =
      let key : List ℕ × X → List ℕ = λ x. x.0 in
      let p : List ℕ → Bool = pointwise nat_eq e.0 in
      let there : slice_get (keys_of es) i ≡ Some e.0 = slice_get-map key es i ∙ ap (option_map key) at in
      elim (position p (keys_of es)) as (λ r. position p (keys_of es) ≡ r → r ≡ Some i) [
        | None ↦ λ none. absurd (find-some p (keys_of es) i e.0 there (same_text-refl e.0) (find-position p (keys_of es) ∙ ap (option_and_then (slice_get (keys_of es))) none))
        | Some m ↦ λ found. let o = placed-key e.0 m found in ap Some (same-place key es m i o.0 e distinct o.1 at o.2)
      ] refl

-- where a look-up finds something, so does the call
pub looked-some : {T : Type 0} (r : Option (Bor T)) (x : Option T) → option_copied r ≡ x → IsSome x → IsSome r
looked-some None x e h = absurd (false≢true (ap is_some e ∙ h))
looked-some (Some r) x e h = refl
