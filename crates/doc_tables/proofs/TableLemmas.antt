-- What stands in a table of numbers after a change, and how many numbers are in use.
use Rattle.std.proofs.Common.{◌≡◌, ◌≢◌, ◌⊎◌, ◌+◌, ◌^◌, ◌<◌, ◌≤◌, ℕ, zero, suc, Bool, true, false, cond, ◌||◌, nat_eq, List, [], ◌∷◌, ◌++◌, map, length, slice_get, Option, Some, None, IsSome, is_some, inl, inr, refl, sym, ap, subst, ◌∙◌, arith, below_more}
use Rattle.std.specs.List.{flat_map, list_any}
use Rattle.std.specs.Option.{option_map}
use Rattle.std.proofs.lemmas.Bool.{false≢true}
use Rattle.std.proofs.lemmas.Bool.Decides.{nat_tests}
use Rattle.fc_base.specs.Graph.{IsIn}
use Rattle.document_model.proofs.Members.{from_append, IsIn-left, IsIn-right}
use Rattle.doc_tables.specs.Numbered.{at_number}
use Rattle.doc_tables.specs.Shown.{change_at}
use Rattle.doc_tables.specs.Table.{freed_at, HasRoom, IsTable}

-- what has a number in a mapped table
pub at_number-map : {A B : Type 0} (f : A → B) (table : List (Option A)) (n : ℕ) → at_number (map (option_map f) table) n ≡ option_map f (at_number table n)
at_number-map f [] n = refl
at_number-map f (x ∷ xs) zero = refl
at_number-map f (x ∷ xs) (suc n) = at_number-map f xs n

pub some_of : {A : Type 0} (o : Option A) → IsSome o → (a : A) × (o ≡ Some a)
some_of None h = absurd (false≢true h)
some_of (Some a) h = (a, refl)

same_or_not : (m n : ℕ) → (m ≡ n) ⊎ (m ≢ n)
same_or_not zero zero = inl refl
same_or_not zero (suc n) = inr (λ e. absurd (omega arith))
same_or_not (suc m) zero = inr (λ e. absurd (omega arith))
same_or_not (suc m) (suc n) = elim (same_or_not m n) [ inl e ↦ inl (ap suc e) | inr e ↦ inr (λ k. e (omega arith)) ]

-- a number in use is not a free one
pub apart : {A : Type 0} (table : List (Option A)) (m n : ℕ) (a : A) → at_number table m ≡ Some a → at_number table n ≡ None → m ≢ n
apart table m n a x y e = absurd (cc (ap (at_number table) e))

-- the numbers below which all are in use are within the table
pub used-within : {A : Type 0} (table : List (Option A)) (n : ℕ) → ((m : ℕ) → m < n → IsSome (at_number table m)) → n ≤ length table
used-within [] zero h = omega arith
used-within [] (suc n) h = absurd (false≢true (h 0 (omega arith)))
used-within (x ∷ xs) zero h = omega arith
used-within (x ∷ xs) (suc n) h = let rest : n ≤ length xs = used-within xs n (λ m k. h (suc m) (omega arith)) in omega arith

-- ---- no more numbers than things
module _ {X : Type 0} where
  without : (x : X) (xs : List X) → IsIn x xs → List X
  without x [] i = absurd i
  without x (y ∷ ys) (inl e) = ys
  without x (y ∷ ys) (inr i) = y ∷ without x ys i

  length-without : (x : X) (xs : List X) (i : IsIn x xs) → length xs ≡ suc (length (without x xs i))
  unfolding without
  length-without x [] i = absurd i
  length-without x (y ∷ ys) (inl e) = refl
  length-without x (y ∷ ys) (inr i) = ap suc (length-without x ys i)

  still-in : (x : X) (xs : List X) (i : IsIn x xs) (z : X) → IsIn z xs → z ≢ x → IsIn z (without x xs i)
  unfolding without
  still-in x [] i z k other = absurd i
  still-in x (y ∷ ys) (inl e) z (inl k) other = absurd (other (k ∙ sym e))
  still-in x (y ∷ ys) (inl e) z (inr k) other = k
  still-in x (y ∷ ys) (inr i) z (inl k) other = inl k
  still-in x (y ∷ ys) (inr i) z (inr k) other = inr (still-in x ys i z k other)

pub below_count : {A : Type 0} (n : ℕ) (things : List (ℕ × A)) → ((m : ℕ) → m < n → (a : A) × IsIn (m, a) things) → n ≤ length things
below_count zero things h = omega arith
below_count {A} (suc n) things h =
    let top = h n (omega arith) in
    let x : ℕ × A = (n, top.0) in
    let rest : n ≤ length (without x things top.1) =
    below_count n (without x things top.1) (λ m k.
    let one = h m (omega arith) in
    (one.0, still-in x things top.1 (m, one.0) one.1 (λ e. let same : m ≡ n = ap (λ (p : ℕ × A). p.0) e in absurd (omega arith))))
    in
    omega (arith, length-without x things top.1)

-- ---- one more number
module _ {A : Type 0} (table : List (Option A)) (things : List (ℕ × A)) (h : IsTable table things) where
  -- there are no more numbers in use than things
  pub table-count : (n : ℕ) → ((m : ℕ) → m < n → IsSome (at_number table m)) → n ≤ length things
  table-count n used = below_count n things (λ m k. let one = some_of (at_number table m) (used m k) in (one.0, h.back m one.0 one.1))

  module _ (table' : List (Option A)) (things' : List (ℕ × A)) (n : ℕ) (a : A) (free : at_number table n ≡ None) (here : at_number table' n ≡ Some a)
      (others : (m : ℕ) → m ≢ n → at_number table' m ≡ at_number table m) (into : (x : ℕ × A) → IsIn x things' → IsIn x things ⊎ (x ≡ (n, a)))
      (kept : (x : ℕ × A) → IsIn x things → IsIn x things') (new : IsIn (n, a) things') where
    more-there : (x : ℕ × A) → IsIn x things ⊎ (x ≡ (n, a)) → at_number table' x.0 ≡ Some x.1
    more-there x (inl old) = let was : at_number table x.0 ≡ Some x.1 = h.there x.0 x.1 old in others x.0 (apart table x.0 n x.1 was free) ∙ was
    more-there x (inr e) = let P : ℕ × A → Type 0 = λ y. at_number table' y.0 ≡ Some y.1 in subst P (sym e) here

    more-back : (m : ℕ) (b : A) → (m ≡ n) ⊎ (m ≢ n) → at_number table' m ≡ Some b → IsIn (m, b) things'
    more-back m b (inl same) e =
        let thing : a ≡ b = cc (here, ap (at_number table') same) in
        subst (λ (x : ℕ × A). IsIn x things') (λ j. (sym same j, thing j)) new
    more-back m b (inr other) e = kept (m, b) (h.back m b (sym (others m other) ∙ e))

    pub table-more : IsTable table' things'
    table-more = record { there = λ m b i. more-there (m, b) (into (m, b) i); back = λ m b e. more-back m b (same_or_not m n) e }

pub room-more : {A : Type 0} (table table' : List (Option A)) (n : ℕ) (a : A) → ((m : ℕ) → m < n → IsSome (at_number table m)) → at_number table' n ≡ Some a
    → ((m : ℕ) → m ≢ n → at_number table' m ≡ at_number table m) → length table' < 2 ^ 32 → HasRoom table' (n + 1)
room-more table table' n a used here others few = record {
  used =
      below_more (λ (m : ℕ). IsSome (at_number table' m)) n
      (λ m k. ap is_some (others m (λ e. absurd (omega arith))) ∙ used m k)
      (ap is_some here);
  few = few;
}

-- ---- lists with one more member
pub pushed-into : {A : Type 0} (xs : List A) (y z : A) → IsIn z (xs ++ y ∷ []) → IsIn z xs ⊎ (z ≡ y)
pushed-into xs y z i = elim (from_append xs (y ∷ []) z i) [ inl j ↦ inl j | inr j ↦ elim j [ inl e ↦ inr e | inr k ↦ absurd k ] ]

pub pushed-new : {A : Type 0} (xs : List A) (y : A) → IsIn y (xs ++ y ∷ [])
pushed-new xs y = IsIn-right xs (y ∷ []) y (inl refl)

-- a list that is made of others, where one more is empty
pub flat-empty : {A B : Type 0} (g : A → List B) (xs : List A) (y : A) → g y ≡ [] → flat_map g (xs ++ y ∷ []) ≡ flat_map g xs
flat-empty {A} {B} g [] y e = ap (λ (l : List B). l ++ []) e
flat-empty {A} {B} g (x ∷ xs) y e = ap (λ (l : List B). g x ++ l) (flat-empty g xs y e)

-- where a change is not seen
pub flat-change : {A B : Type 0} (g : A → List B) (f : A → A) → ((x : A) → g (f x) ≡ g x) → (i : ℕ) (xs : List A) → flat_map g (change_at f i xs) ≡ flat_map g xs
flat-change g f h i [] = refl
flat-change g f h zero (x ∷ xs) = λ j. h x j ++ flat_map g xs
flat-change {A} {B} g f h (suc i) (x ∷ xs) = ap (λ (l : List B). g x ++ l) (flat-change g f h i xs)

-- where one of them has one more
module _ {A B : Type 0} (g : A → List B) (f : A → A) (y : B) where
  pub grown-into : (i : ℕ) (xs : List A) (o : A) → slice_get xs i ≡ Some o → g (f o) ≡ g o ++ y ∷ [] → (z : B) → IsIn z (flat_map g (change_at f i xs)) → IsIn z (flat_map g xs) ⊎ (z ≡ y)
  grown-into i [] o at e z k = absurd k
  grown-into zero (x ∷ xs) o at e z k =
      let same : x ≡ o = cc in
      let own : g (f x) ≡ g x ++ y ∷ [] = subst (λ (q : A). g (f q) ≡ g q ++ y ∷ []) (sym same) e in
      elim (from_append (g (f x)) (flat_map g xs) z k) [
        | inl j ↦ elim (pushed-into (g x) y z (subst (λ (l : List B). IsIn z l) own j)) [ inl m ↦ inl (IsIn-left (g x) (flat_map g xs) z m) | inr m ↦ inr m ]
        | inr j ↦ inl (IsIn-right (g x) (flat_map g xs) z j)
      ]
  grown-into (suc i) (x ∷ xs) o at e z k =
      elim (from_append (g x) (flat_map g (change_at f i xs)) z k) [
        | inl j ↦ inl (IsIn-left (g x) (flat_map g xs) z j)
        | inr j ↦ elim (grown-into i xs o at e z j) [ inl m ↦ inl (IsIn-right (g x) (flat_map g xs) z m) | inr m ↦ inr m ]
      ]

  pub grown-kept : (i : ℕ) (xs : List A) (o : A) → slice_get xs i ≡ Some o → g (f o) ≡ g o ++ y ∷ [] → (z : B) → IsIn z (flat_map g xs) → IsIn z (flat_map g (change_at f i xs))
  grown-kept i [] o at e z k = absurd k
  grown-kept zero (x ∷ xs) o at e z k =
      let same : x ≡ o = cc in
      let own : g (f x) ≡ g x ++ y ∷ [] = subst (λ (q : A). g (f q) ≡ g q ++ y ∷ []) (sym same) e in
      elim (from_append (g x) (flat_map g xs) z k) [
        | inl j ↦ IsIn-left (g (f x)) (flat_map g xs) z (subst (λ (l : List B). IsIn z l) (sym own) (IsIn-left (g x) (y ∷ []) z j))
        | inr j ↦ IsIn-right (g (f x)) (flat_map g xs) z j
      ]
  grown-kept (suc i) (x ∷ xs) o at e z k =
      elim (from_append (g x) (flat_map g xs) z k) [
        | inl j ↦ IsIn-left (g x) (flat_map g (change_at f i xs)) z j
        | inr j ↦ IsIn-right (g x) (flat_map g (change_at f i xs)) z (grown-kept i xs o at e z j)
      ]

  pub grown-new : (i : ℕ) (xs : List A) (o : A) → slice_get xs i ≡ Some o → g (f o) ≡ g o ++ y ∷ [] → IsIn y (flat_map g (change_at f i xs))
  grown-new i [] o at e = absurd (cc)
  grown-new zero (x ∷ xs) o at e =
      let same : x ≡ o = cc in
      let own : g (f x) ≡ g x ++ y ∷ [] = subst (λ (q : A). g (f q) ≡ g q ++ y ∷ []) (sym same) e in
      IsIn-left (g (f x)) (flat_map g xs) y (subst (λ (l : List B). IsIn y l) (sym own) (pushed-new (g x) y))
  grown-new (suc i) (x ∷ xs) o at e = IsIn-right (g x) (flat_map g (change_at f i xs)) y (grown-new i xs o at e)

-- ---- fewer numbers
pub nat_eq-told : (m n : ℕ) → nat_eq m n ≡ true → m ≡ n
nat_eq-told m n h = grind (arith, nat_tests, h)

pub nat_eq-refl : (n : ℕ) → nat_eq n n ≡ true
nat_eq-refl n = grind (arith, nat_tests)

pub nat_eq-below : (m n : ℕ) → m < n → nat_eq m n ≡ false
nat_eq-below m n h = grind (arith, nat_tests, h)

pub any-from : (n : ℕ) (ns : List ℕ) → list_any (nat_eq n) ns ≡ true → IsIn n ns
any-from n [] h = absurd (false≢true h)
any-from n (m ∷ ms) h =
    elim (nat_eq n m) as (λ b. nat_eq n m ≡ b → (b || list_any (nat_eq n) ms) ≡ true → IsIn n (m ∷ ms)) [
      | true ↦ λ e k. inl (nat_eq-told n m e)
      | false ↦ λ e k. inr (any-from n ms k)
    ] refl h

pub any-of : (n : ℕ) (ns : List ℕ) → IsIn n ns → list_any (nat_eq n) ns ≡ true
any-of n [] i = absurd i
any-of n (m ∷ ms) (inl e) = ap (λ b. b || list_any (nat_eq n) ms) (ap (nat_eq n) (sym e) ∙ nat_eq-refl n)
any-of n (m ∷ ms) (inr i) =
    elim (nat_eq n m) as (λ b. (b || list_any (nat_eq n) ms) ≡ true) [
      | true ↦ refl
      | false ↦ any-of n ms i
    ]

-- one number freed, and then the others
pub freed-step : {A : Type 0} (m : ℕ) (ms : List ℕ) (n : ℕ) (x y : Option A) → y ≡ cond (nat_eq n m) None x → freed_at ms n y ≡ freed_at (m ∷ ms) n x
freed-step {A} m ms n x y e =
    ap (λ (z : Option A). cond (list_any (nat_eq n) ms) None z) e
    ∙ (elim (nat_eq n m) as (λ b. cond (list_any (nat_eq n) ms) None (cond b None x) ≡ cond (b || list_any (nat_eq n) ms) None x) [
      | true ↦ same (list_any (nat_eq n) ms)
      | false ↦ refl
    ])
  where
    same : (b : Bool) → (let none : Option A = None in cond b none none ≡ none)
    same true = refl
    same false = refl

pub freed-shrinks : {A : Type 0} (b : Bool) (x : Option A) (a : A) → cond b None x ≡ Some a → x ≡ Some a
freed-shrinks true x a h = absurd (cc)
freed-shrinks false x a h = h

module _ {A : Type 0} (table table' : List (Option A)) (gone : ℕ → Bool) (freed : (m : ℕ) → at_number table' m ≡ cond (gone m) None (at_number table m)) where
  pub table-less : (things things' : List (ℕ × A)) → IsTable table things → ((x : ℕ × A) → IsIn x things' → IsIn x things × (gone x.0 ≡ false)) → ((x : ℕ × A) → IsIn x things → gone x.0 ≡ false → IsIn x things') → IsTable table' things'
  table-less things things' h into kept = record {
    there = λ m a i.
        let j = into (m, a) i in
        freed m ∙ ap (λ b. cond b None (at_number table m)) j.1 ∙ h.there m a j.0;
    back = λ m a e. by m a (gone m) refl (sym (freed m) ∙ e);
  }
    where
      by : (m : ℕ) (a : A) (b : Bool) → gone m ≡ b → cond b None (at_number table m) ≡ Some a → IsIn (m, a) things'
      by m a true g e = absurd (cc)
      by m a false g e = kept (m, a) (h.back m a e) g

  pub room-less : (free free' : ℕ) → HasRoom table free → ((m : ℕ) → m < free' → m < free) → ((m : ℕ) → m < free' → gone m ≡ false) → length table' ≡ length table → HasRoom table' free'
  room-less free free' h below kept same = record {
    used = λ m k. ap is_some (freed m ∙ ap (λ b. cond b None (at_number table m)) (kept m k)) ∙ h.used m (below m k);
    few = subst (λ (n : ℕ). n < 2 ^ 32) (sym same) h.few;
  }
