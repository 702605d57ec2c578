-- Names that stand in a list once, and lists of which each member passes a rule.
use Rattle.std.proofs.Common.{◌≡◌, inl, inr, ℕ, nat_eq, Bool, true, false, cond, not, List, [], ◌∷◌, ◌++◌, map, Some, None, refl, sym, ap, subst, ◌∙◌}
use Rattle.std.specs.List.{find, filter, AllByRecursion}
use Rattle.std.specs.Cmp.Lexicographic.{pointwise, bytes_decides, nat_list_eq_equiv}
use Rattle.std.proofs.lemmas.Bool.{and_parts, and_from, or_parts, or_from, or_left, or_right, not-true, not_from_false, false≢true}
use Rattle.std.proofs.lemmas.List.Folds.{list_any-append}
use Rattle.fc_base.specs.Graph.{IsIn}
use Rattle.object_paths.specs.Slots.{same_text}
use Rattle.property_types.specs.Reserved.{is_among, are_distinct}
use Rattle.document_model.proofs.Members.{from_find}

pub same-itself : (a : List ℕ) → same_text a a ≡ true
same-itself a = nat_list_eq_equiv.refl a

pub same-swapped : (a b : List ℕ) → same_text a b ≡ same_text b a
same-swapped a b = nat_list_eq_equiv.symm a b

pub same-told : (a b : List ℕ) → same_text a b ≡ true → a ≡ b
same-told a b h = (bytes_decides a b).0 h

-- what is found passes
pub found-passes : {A : Type 0} (p : A → Bool) (xs : List A) (x : A) → find p xs ≡ Some x → p x ≡ true
found-passes p [] x h = absurd (cc)
found-passes {A} p (y ∷ ys) x h =
    elim (p y) as (λ b. p y ≡ b → cond b (Some y) (find p ys) ≡ Some x → p x ≡ true) [
      | true ↦ λ e g. let same : y ≡ x = cc in subst (λ (z : A). p z ≡ true) same e
      | false ↦ λ e g. found-passes p ys x g
    ] refl h

-- ---- names

pub distinct-parts : (name : List ℕ) (names : List (List ℕ)) → are_distinct (name ∷ names) ≡ true → (is_among name names ≡ false) × (are_distinct names ≡ true)
distinct-parts name names h =
    let parts = and_parts (not (is_among name names)) (are_distinct names) h in
    (not-true (is_among name names) parts.0, parts.1)

pub distinct-cons : (name : List ℕ) (names : List (List ℕ)) → is_among name names ≡ false → are_distinct names ≡ true → are_distinct (name ∷ names) ≡ true
distinct-cons name names apart h = and_from (not (is_among name names)) (are_distinct names) (not_from_false (is_among name names) apart) h

-- among none of two lists
pub among-neither : (name : List ℕ) (xs ys : List (List ℕ)) → is_among name xs ≡ false → is_among name ys ≡ false → is_among name (xs ++ ys) ≡ false
among-neither name xs ys h g = list_any-append (pointwise nat_eq name) xs ys ∙ or_from (is_among name xs) (is_among name ys) h g

pub among-parts : (name : List ℕ) (xs ys : List (List ℕ)) → is_among name (xs ++ ys) ≡ false → (is_among name xs ≡ false) × (is_among name ys ≡ false)
among-parts name xs ys h = or_parts (is_among name xs) (is_among name ys) (sym (list_any-append (pointwise nat_eq name) xs ys) ∙ h)

-- one more, which is none of them
pub distinct-end : (name : List ℕ) (names : List (List ℕ)) → are_distinct names ≡ true → is_among name names ≡ false → are_distinct (names ++ name ∷ []) ≡ true
distinct-end name [] h apart = refl
distinct-end name (first ∷ names) h apart =
    let parts = distinct-parts first names h in
    let each = or_parts (same_text name first) (is_among name names) apart in
    distinct-cons first (names ++ name ∷ [])
    (among-neither first names (name ∷ []) parts.0 (or_from (same_text first name) false (same-swapped first name ∙ each.0) refl))
    (distinct-end name names parts.1 each.1)

-- without those in the middle
pub distinct-ends : (xs ys zs : List (List ℕ)) → are_distinct ((xs ++ ys) ++ zs) ≡ true → are_distinct (xs ++ zs) ≡ true
distinct-ends [] [] zs h = h
distinct-ends [] (y ∷ ys) zs h = distinct-ends [] ys zs (distinct-parts y (ys ++ zs) h).1
distinct-ends (x ∷ xs) ys zs h =
    let parts = distinct-parts x ((xs ++ ys) ++ zs) h in
    let apart = among-parts x (xs ++ ys) zs parts.0 in
    distinct-cons x (xs ++ zs) (among-neither x xs zs (among-parts x xs ys apart.0).0 apart.1) (distinct-ends xs ys zs parts.1)

-- ---- lists by the names of their members
module _ {A : Type 0} (key : A → List ℕ) where
  pub among-key : (xs : List A) (x : A) → IsIn x xs → is_among (key x) (map key xs) ≡ true
  among-key [] x i = absurd i
  among-key (y ∷ ys) x (inl e) =
      or_left (same_text (key x) (key y)) (is_among (key x) (map key ys)) (ap (λ (z : A). same_text (key x) (key z)) (sym e) ∙ same-itself (key x))
  among-key (y ∷ ys) x (inr i) = or_right (same_text (key x) (key y)) (is_among (key x) (map key ys)) (among-key ys x i)

  clash : (y : A) (ys : List A) (x : A) → are_distinct (map key (y ∷ ys)) ≡ true → IsIn x ys → key y ≡ key x → ⊥
  clash y ys x h i e =
      false≢true (sym (distinct-parts (key y) (map key ys) h).0 ∙ ap (λ (name : List ℕ). is_among name (map key ys)) e ∙ among-key ys x i)

  -- two members of one name are one
  pub only-one : (xs : List A) (x y : A) → are_distinct (map key xs) ≡ true → IsIn x xs → IsIn y xs → key x ≡ key y → x ≡ y
  only-one [] x y h i j e = absurd i
  only-one (z ∷ zs) x y h (inl p) (inl q) e = p ∙ sym q
  only-one (z ∷ zs) x y h (inl p) (inr j) e = absurd (clash z zs y h j (ap key (sym p) ∙ e))
  only-one (z ∷ zs) x y h (inr i) (inl q) e = absurd (clash z zs x h i (ap key (sym q) ∙ sym e))
  only-one (z ∷ zs) x y h (inr i) (inr j) e = only-one zs x y (distinct-parts (key z) (map key zs) h).1 i j e

  -- the member of a name is the one that is found
  pub only-found : (xs : List A) (name : List ℕ) (x y : A) → are_distinct (map key xs) ≡ true → IsIn x xs → same_text (key x) name ≡ true → find (λ z. same_text (key z) name) xs ≡ Some y → x ≡ y
  only-found xs name x y h i e found =
      only-one xs x y h i (from_find (λ z. same_text (key z) name) xs y found)
      (same-told (key x) name e ∙ sym (same-told (key y) name (found-passes (λ z. same_text (key z) name) xs y found)))

  -- what is not found is no name
  pub not-among : (name : List ℕ) (xs : List A) → find (λ z. same_text (key z) name) xs ≡ None → is_among name (map key xs) ≡ false
  not-among name [] h = refl
  not-among name (x ∷ xs) h =
      elim (same_text (key x) name)
      as (λ b. same_text (key x) name ≡ b → cond b (Some x) (find (λ z. same_text (key z) name) xs) ≡ None → is_among name (map key (x ∷ xs)) ≡ false) [
        | true ↦ λ e g. absurd (cc)
        | false ↦ λ e g. or_from (same_text name (key x)) (is_among name (map key xs)) (same-swapped name (key x) ∙ e) (not-among name xs g)
      ] refl h

  module _ (keeps : A → Bool) where
    among-fewer : (name : List ℕ) (xs : List A) → is_among name (map key xs) ≡ false → is_among name (map key (filter keeps xs)) ≡ false
    among-fewer name [] h = refl
    among-fewer name (x ∷ xs) h =
        let parts = or_parts (same_text name (key x)) (is_among name (map key xs)) h in
        let later = among-fewer name xs parts.1 in
        elim (keeps x) as (λ b. is_among name (map key (cond b (x ∷ filter keeps xs) (filter keeps xs))) ≡ false) [
          | true ↦ or_from (same_text name (key x)) (is_among name (map key (filter keeps xs))) parts.0 later
          | false ↦ later
        ]

    -- fewer names are still distinct
    pub distinct-fewer : (xs : List A) → are_distinct (map key xs) ≡ true → are_distinct (map key (filter keeps xs)) ≡ true
    distinct-fewer [] h = refl
    distinct-fewer (x ∷ xs) h =
        let parts = distinct-parts (key x) (map key xs) h in
        let later = distinct-fewer xs parts.1 in
        elim (keeps x) as (λ b. are_distinct (map key (cond b (x ∷ filter keeps xs) (filter keeps xs))) ≡ true) [
          | true ↦ distinct-cons (key x) (map key (filter keeps xs)) (among-fewer (key x) xs parts.0) later
          | false ↦ later
        ]

    pub distinct-fewer_behind : (names : List (List ℕ)) (xs : List A) → are_distinct (names ++ map key xs) ≡ true → are_distinct (names ++ map key (filter keeps xs)) ≡ true
    distinct-fewer_behind [] xs h = distinct-fewer xs h
    distinct-fewer_behind (name ∷ names) xs h =
        let parts = distinct-parts name (names ++ map key xs) h in
        let apart = among-parts name names (map key xs) parts.0 in
        distinct-cons name (names ++ map key (filter keeps xs))
        (among-neither name names (map key (filter keeps xs)) apart.0 (among-fewer name xs apart.1))
        (distinct-fewer_behind names xs parts.1)

-- ---- lists of which each member passes a rule
module _ {A : Type 0} (P : A → Type 0) where
  pub all-in : (xs : List A) (x : A) → AllByRecursion P xs → IsIn x xs → P x
  all-in [] x all i = absurd i
  all-in (y ∷ ys) x all (inl e) = subst P (sym e) all.0
  all-in (y ∷ ys) x all (inr i) = all-in ys x all.1 i

  pub all-end : (xs : List A) (x : A) → AllByRecursion P xs → P x → AllByRecursion P (xs ++ x ∷ [])
  all-end [] x all one = (one, tt)
  all-end (y ∷ ys) x all one = (all.0, all-end ys x all.1 one)

  pub all-fewer : (keeps : A → Bool) (xs : List A) → AllByRecursion P xs → AllByRecursion P (filter keeps xs)
  all-fewer keeps [] all = tt
  all-fewer keeps (x ∷ xs) all =
      let later = all-fewer keeps xs all.1 in
      elim (keeps x) as (λ b. AllByRecursion P (cond b (x ∷ filter keeps xs) (filter keeps xs))) [ true ↦ (all.0, later) | false ↦ later ]

  pub all-changed : (change : A → A) (xs : List A) → ((x : A) → IsIn x xs → P x → P (change x)) → AllByRecursion P xs → AllByRecursion P (map change xs)
  all-changed change [] kept all = tt
  all-changed change (x ∷ xs) kept all = (kept x (inl refl) all.0, all-changed change xs (λ y i. kept y (inr i)) all.1)

-- names that a change keeps
pub names-kept : {A : Type 0} (key : A → List ℕ) (change : A → A) (xs : List A) → ((x : A) → IsIn x xs → key (change x) ≡ key x) → map key (map change xs) ≡ map key xs
names-kept key change [] kept = refl
names-kept key change (x ∷ xs) kept = λ j. kept x (inl refl) j ∷ names-kept key change xs (λ y i. kept y (inr i)) j
