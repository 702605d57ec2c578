-- How a write into the maps changes what is shown of them.
use Rattle.std.proofs.Common.{◌≡◌, ℕ, zero, suc, nat_eq, List, [], ◌∷◌, map, Option, Some, None, IfSome, slice_get, refl, sym, ap, subst, ◌∙◌}
use Rattle.std.specs.Cmp.Lexicographic.{pointwise}
use Rattle.std.specs.Map.{values_of}
use Rattle.indexmap.specs.IndexMap.{get, set_value_at}
use Rattle.document_model.specs.declared.content.Content.{Content}
use Rattle.doc_tables.specs.declared.entry.ObjectEntry.{ObjectEntry}
use Rattle.doc_tables.specs.declared.entry.PropertyEntry.{PropertyEntry}
use Rattle.doc_tables.specs.Shown.{Shown, shown, change_at, entry_with}
use Rattle.doc_tables.proofs.HeldLemmas.{Named, Owned}

-- the value at a place has a key
pub keyed : {K X : Type 0} (es : List (K × X)) (i : ℕ) (v : X) → slice_get (values_of es) i ≡ Some v → (k : K) × (slice_get es i ≡ Some (k, v))
keyed [] i v h = absurd (cc)
keyed {K} {X} (e ∷ es) zero v h = (e.0, ap (λ (o : Option X). pair o) h)
  where
    pair : Option X → Option (K × X)
    pair None = None
    pair (Some x) = Some (e.0, x)
keyed (e ∷ es) (suc i) v h = keyed es i v h

-- an object written at a place
pub set-shown : (f : Shown → Shown) (es : List Owned) (i : ℕ) (v w : ObjectEntry) → slice_get (values_of es) i ≡ Some v
    → ((k : List ℕ) → shown (k, w) ≡ f (shown (k, v))) → map shown (set_value_at es i w) ≡ change_at f i (map shown es)
set-shown f [] i v w at h = refl
set-shown f (e ∷ es) zero v w at h =
    let same : e.1 ≡ v = cc in
    λ j. (h e.0 ∙ sym (ap (λ (x : ObjectEntry). f (shown (e.0, x))) same)) j ∷ map shown es
set-shown f (e ∷ es) (suc i) v w at h = ap (λ (l : List Shown). shown e ∷ l) (set-shown f es i v w at h)

-- a place at which nothing changes
pub change-none : {A : Type 0} (i : ℕ) (xs : List A) → change_at (λ x. x) i xs ≡ xs
change-none i [] = refl
change-none zero (x ∷ xs) = refl
change-none (suc i) (x ∷ xs) = ap (λ l. x ∷ l) (change-none i xs)

-- a property written at a place
pub set-entry : (new : Content) (es : List Named) (i : ℕ) (v : PropertyEntry) → slice_get (values_of es) i ≡ Some v → set_value_at es i (record v { content = new }) ≡ change_at (entry_with new) i es
set-entry new [] i v at = refl
set-entry new (e ∷ es) zero v at =
    let same : e.1 ≡ v = cc in
    λ j. (e.0, record (sym same j) { content = new }) ∷ es
set-entry new (e ∷ es) (suc i) v at = ap (λ (l : List Named). e ∷ l) (set-entry new es i v at)

-- the object at a place lacks a name
pub lacks-at : (es : List Owned) (i : ℕ) (v : ObjectEntry) (name : List ℕ) → slice_get (values_of es) i ≡ Some v
    → IfSome (slice_get es i) (λ (o : Owned). get (pointwise nat_eq) o.1.properties name ≡ None) → get (pointwise nat_eq) v.properties name ≡ None
lacks-at es i v name at h =
    let k = keyed es i v at in
    subst (λ (r : Option Owned). IfSome r (λ (o : Owned). get (pointwise nat_eq) o.1.properties name ≡ None)) k.1 h
