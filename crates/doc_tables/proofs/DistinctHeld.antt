-- No slot stands twice among those of what is held.
use Rattle.std.proofs.Common.{◌≡◌, Bool, true, false, ◌&&◌, List, [], ◌∷◌, ◌++◌, map, inl, inr, refl, sym, ap, subst, ◌∙◌}
use Rattle.std.specs.Prelude.{nat_eq}
use Rattle.std.specs.Cmp.Lexicographic.{pointwise}
use Rattle.std.specs.List.{flat_map, AllByRecursion, IsDistinct}
use Rattle.fc_base.specs.Graph.{IsIn}
use Rattle.object_paths.specs.Slots.{Slot, same_slot, same_text}
use Rattle.document_model.specs.Slots.{slots}
use Rattle.document_model.proofs.Members.{from_map}
use Rattle.doc_tables.specs.declared.tables.Tables.TheInside.{Inside}
use Rattle.doc_tables.specs.Held.{numbered_held, IsObjectHeld, IsHeld}
use Rattle.doc_tables.specs.Numbered.{Numbered}
use Rattle.doc_tables.proofs.HeldLemmas.{Named, Owned, slot_named, slots_in, slots-held}

all-append : {A : Type 0} (P : A → Type 0) (xs ys : List A) → AllByRecursion P xs → AllByRecursion P ys → AllByRecursion P (xs ++ ys)
all-append P [] ys h k = k
all-append P (x ∷ xs) ys h k = (h.0, all-append P xs ys h.1 k)

-- two lists of different members with none alike between them
distinct-append :
    {A : Type 0} (same : A → A → Bool) (xs ys : List A) → IsDistinct same xs → IsDistinct same ys
    → ((x : A) → IsIn x xs → AllByRecursion (λ y. same x y ≡ false) ys) → IsDistinct same (xs ++ ys)
unfolding IsDistinct
distinct-append same [] ys h k apart = k
distinct-append same (x ∷ xs) ys h k apart =
    (all-append (λ y. same x y ≡ false) xs ys h.0 (apart x (inl refl)), distinct-append same xs ys h.1 k (λ z i. apart z (inr i)))

both-false : (a : Bool) → (a && false) ≡ false
both-false true = refl
both-false false = refl

-- properties of different names have different slots
others-apart :
    (o : Owned) (e : Named) (es : List Named) → AllByRecursion (λ y. pointwise nat_eq e.0 y ≡ false) (map (λ (x : Named). x.0) es)
    → AllByRecursion (λ s. same_slot (slot_named o e) s ≡ false) (map (slot_named o) es)
others-apart o e [] h = tt
others-apart o e (f ∷ es) h = (ap (λ (b : Bool). same_text o.0 o.0 && b) h.0 ∙ both-false (same_text o.0 o.0), others-apart o e es h.1)

entries-distinct : (o : Owned) (es : List Named) → IsDistinct (pointwise nat_eq) (map (λ (x : Named). x.0) es) → IsDistinct same_slot (map (slot_named o) es)
unfolding IsDistinct
entries-distinct o [] h = tt
entries-distinct o (e ∷ es) h = (others-apart o e es h.0, entries-distinct o es h.1)

-- slots of objects of different names are different
strangers-apart :
    (o p : Owned) (e : Named) (es : List Named) → pointwise nat_eq o.0 p.0 ≡ false → AllByRecursion (λ s. same_slot (slot_named o e) s ≡ false) (map (slot_named p) es)
strangers-apart o p e [] h = tt
strangers-apart o p e (f ∷ es) h = (ap (λ (b : Bool). b && same_text e.0 f.0) h, strangers-apart o p e es h)

owners-apart :
    (o : Owned) (e : Named) (os : List Owned) → AllByRecursion (λ y. pointwise nat_eq o.0 y ≡ false) (map (λ (x : Owned). x.0) os)
    → AllByRecursion (λ s. same_slot (slot_named o e) s ≡ false) (flat_map slots_in os)
owners-apart o e [] h = tt
owners-apart o e (p ∷ os) h =
    all-append (λ s. same_slot (slot_named o e) s ≡ false) (slots_in p) (flat_map slots_in os) (strangers-apart o p e p.1.properties.entries h.0) (owners-apart o e os h.1)

objects-distinct : (os : List Owned) → IsDistinct (pointwise nat_eq) (map (λ (x : Owned). x.0) os) → AllByRecursion IsObjectHeld os → IsDistinct same_slot (flat_map slots_in os)
unfolding IsDistinct
objects-distinct [] h held = tt
objects-distinct (o ∷ os) h held =
    distinct-append same_slot (slots_in o) (flat_map slots_in os) (entries-distinct o o.1.properties.entries held.0.distinct) (objects-distinct os h.1 held.1)
    (λ s i.
    let m = from_map (slot_named o) o.1.properties.entries s i in
    subst (λ (q : Slot). AllByRecursion (λ s. same_slot q s ≡ false) (flat_map slots_in os)) (sym m.2) (owners-apart o m.0 os h.0))

-- no slot stands twice in the document that tables show
pub distinct-read : (v : Numbered) (t : Inside) → IsHeld t → numbered_held t ≡ v → IsDistinct same_slot (slots v.document)
distinct-read v t held is =
    subst (λ (q : Numbered). IsDistinct same_slot (slots q.document)) is
    (subst (IsDistinct same_slot) (sym (slots-held t held)) (objects-distinct t.objects.entries held.distinct held.objects))
