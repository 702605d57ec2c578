-- In what is held numbers in use and slots are one to one, and so are numbers and objects.
use Rattle.std.proofs.Common.{◌≡◌, ℕ, Bool, true, false, List, [], Option, Some, None, IsTrue, is_some, slice_get, position, refl, sym, ap, subst, ◌∙◌}
use Rattle.std.specs.Prelude.{◌↔◌}
use Rattle.std.specs.List.{find, flat_map}
use Rattle.std.specs.Option.{option_and_then, option_map, option_map_or}
use Rattle.std.proofs.lemmas.Bool.{false≢true}
use Rattle.std.proofs.lemmas.List.Quantifiers.{position-Some}
use Rattle.fc_base.specs.Graph.{IsIn}
use Rattle.object_paths.specs.declared.slot_name.SlotName.{SlotName}
use Rattle.object_paths.specs.declared.slot_name.SlotName.TheVariants.{Plain, Component, Marked}
use Rattle.object_paths.specs.Slots.{Slot, same_slot, same_text, SameSlotIsEquality}
use Rattle.document_model.specs.Document.{Object, object_named}
use Rattle.document_model.specs.Slots.{slots}
use Rattle.document_model.proofs.Members.{from_map, from_flat_map, IsIn-map, IsIn-flat_map}
use Rattle.doc_tables.specs.declared.tables.Tables.TheInside.{Inside}
use Rattle.doc_tables.specs.Held.{object_held, document_held, numbered_held, IsHeld}
use Rattle.doc_tables.specs.Numbered.{Numbered, IsNumbered, Keeps, at_number, slot_at, name_at, number_of, number_of_object}
use Rattle.doc_tables.proofs.Finding.{find-map, find-place, find-passes, find-position, find-some, same-place, same_text-refl, same_text-told}
use Rattle.doc_tables.proofs.HeldLemmas.{At, Named, Owned, Owns, at_number-held, in-at, member_below, name_at-held, object-found, object-held, owns-held, place-in, slot_named, slots_in, slots-held, slot_at-stands}

at-number : {A : Type 0} (things : List (Option A)) (n : ℕ) (a : A) → at_number things n ≡ Some a → slice_get things n ≡ Some (Some a)
at-number {A} things n a h =
    elim (slice_get things n) as (λ r. option_and_then (λ (x : Option A). x) r ≡ Some a → r ≡ Some (Some a)) [
      | None ↦ λ g. absurd (cc)
      | Some x ↦ λ g. ap Some g
    ] h

-- numbers of things that a test tells apart
module _ {A : Type 0} (test : A → A → Bool) (exact : (a b : A) → IsTrue (test a b) ↔ (a ≡ b)) (things : List (Option A)) (a : A) where
  told : (x : Option A) → option_map_or (test a) x false ≡ true → x ≡ Some a
  told None h = absurd (false≢true h)
  told (Some b) h = ap Some (sym ((exact a b).0 h))

  -- the first that passes is the thing
  placed : (n : ℕ) → position (λ (x : Option A). option_map_or (test a) x false) things ≡ Some n → slice_get things n ≡ Some (Some a)
  placed n h =
      let p : Option A → Bool = λ x. option_map_or (test a) x false in
      let m = member_below things n (position-Some p things n None h).0 in
      let found : find p things ≡ Some m.0 = find-position p things ∙ ap (option_and_then (slice_get things)) h ∙ m.1 in
      m.1 ∙ ap Some (told m.0 (find-passes p things m.0 found))

  -- where the thing stands at one place alone, that is its number
  numbered : (n : ℕ) → slice_get things n ≡ Some (Some a) → ((m : ℕ) → slice_get things m ≡ Some (Some a) → m ≡ n) → position (λ (x : Option A). option_map_or (test a) x false) things ≡ Some n
  numbered n at only =
      let p : Option A → Bool = λ x. option_map_or (test a) x false in
      elim (position p things) as (λ r. position p things ≡ r → r ≡ Some n) [
        | None ↦ λ e. absurd (find-some p things n (Some a) at ((exact a a).1 refl) (find-position p things ∙ ap (option_and_then (slice_get things)) e))
        | Some m ↦ λ e. ap Some (only m (placed m e))
      ] refl

  number-iff : (n : ℕ) → ((m : ℕ) → at_number things n ≡ Some a → at_number things m ≡ Some a → m ≡ n)
      → (at_number things n ≡ Some a) ↔ (position (λ (x : Option A). option_map_or (test a) x false) things ≡ Some n)
  number-iff n only = (
    λ h. numbered n (at-number things n a h) (λ m k. only m h (ap (option_and_then (λ (x : Option A). x)) k)),
    λ h. ap (option_and_then (λ (x : Option A). x)) (placed n h),
  )

name_in : SlotName → List ℕ
name_in (Plain n) = n
name_in (Component n k) = n
name_in (Marked p) = []

module _ (t : Inside) (held : IsHeld t) where
  -- a slot has one number
  pub slot-once : (n m : ℕ) (s : Slot) → slot_at (numbered_held t) n ≡ Some s → slot_at (numbered_held t) m ≡ Some s → m ≡ n
  slot-once n m s h k =
      let a : At t n = at_number-held t held n (ap is_some h) in
      let b : At t m = at_number-held t held m (ap is_some k) in
      let slot : slot_named a.owner a.entry ≡ slot_named b.owner b.entry = cc (a.found, b.found, h, k) in
      let name : a.entry.0 ≡ b.entry.0 = let plain : Plain a.entry.0 ≡ Plain b.entry.0 = ap (λ (q : Slot). q.name) slot in cc in
      let objects : (a.place).object ≡ (b.place).object =
      same-place (λ (x : Owned). x.0) t.objects.entries (a.place).object (b.place).object a.owner b.owner held.distinct a.stands.object b.stands.object (ap (λ (q : Slot). q.object) slot)
      in
      let owner : a.owner ≡ b.owner = cc (a.stands.object, b.stands.object, objects) in
      let there : slice_get a.owner.1.properties.entries (b.place).property ≡ Some b.entry = ap (λ (o : Owned). slice_get o.1.properties.entries (b.place).property) owner ∙ b.stands.property in
      let properties : (a.place).property ≡ (b.place).property =
      same-place (λ (x : Named). x.0) a.owner.1.properties.entries (a.place).property (b.place).property a.entry b.entry
      (object-held t held a.place a.owner a.entry a.stands).distinct a.stands.property there name
      in
      let entry : a.entry ≡ b.entry = cc (a.stands.property, there, properties) in
      sym b.number ∙ ap (λ (e : Named). e.1.slot.0) (sym entry) ∙ a.number

  pub name-once : (n m : ℕ) (name : List ℕ) → name_at (numbered_held t) n ≡ Some name → name_at (numbered_held t) m ≡ Some name → m ≡ n
  name-once n m name h k =
      let a : Owns t.objects.entries n name = owns-held t held n name h in
      let b : Owns t.objects.entries m name = owns-held t held m name k in
      let place : a.place ≡ b.place = same-place (λ (x : Owned). x.0) t.objects.entries a.place b.place a.owner b.owner held.distinct a.stands b.stands (a.name_is ∙ sym b.name_is) in
      let owner : a.owner ≡ b.owner = cc (a.stands, b.stands, place) in
      sym b.number ∙ ap (λ (o : Owned). o.1.number.0) (sym owner) ∙ a.number

  -- a slot of the document has a number
  pub slot-has_number : (s : Slot) → IsIn s (slots (document_held t.objects.entries)) → (n : ℕ) × (slot_at (numbered_held t) n ≡ Some s)
  slot-has_number s i =
      let o = from_flat_map slots_in t.objects.entries s (subst (λ (l : List Slot). IsIn s l) (slots-held t held) i) in
      let owner : Owned = o.0 in
      let e = from_map (slot_named owner) owner.1.properties.entries s o.2 in
      let entry : Named = e.0 in
      let x = place-in t.objects.entries owner o.1 in
      let y = place-in owner.1.properties.entries entry e.1 in
      (entry.1.slot.0, slot_at-stands t held (record { object = x.0; property = y.0 }) owner entry (record { object = x.1; property = y.1 }) ∙ ap Some (sym e.2))

  -- and so has an object
  pub object-has_number : (name : List ℕ) → IsTrue (is_some (object_named (document_held t.objects.entries) name)) → (n : ℕ) × (name_at (numbered_held t) n ≡ Some name)
  object-has_number name h =
      let test : Owned → Bool = λ o. same_text o.0 name in
      elim (find test t.objects.entries) as (λ r. find test t.objects.entries ≡ r → IsTrue (is_some (option_map object_held r)) → (n : ℕ) × (name_at (numbered_held t) n ≡ Some name)) [
        | None ↦ λ e g. absurd (false≢true g)
        | Some o ↦ λ e g.
            let i = find-place test t.objects.entries o e in
            (o.1.number.0, name_at-held t held i.0 o i.1 ∙ ap Some (same_text-told o.0 name (find-passes test t.objects.entries o e)))
      ] refl (subst (λ (q : Option Object). IsTrue (is_some q)) (find-map object_held (λ q. same_text q.name name) t.objects.entries) h)

  text-exact : (a b : List ℕ) → IsTrue (same_text a b) ↔ (a ≡ b)
  text-exact a b = (same_text-told a b, λ e. subst (λ (c : List ℕ). same_text a c ≡ true) e (same_text-refl a))

  module _ (exact : SameSlotIsEquality) where
    slot-iff : (n : ℕ) (s : Slot) → (slot_at (numbered_held t) n ≡ Some s) ↔ (number_of (numbered_held t) s ≡ Some n)
    slot-iff n s = number-iff same_slot exact (numbered_held t).slots s n (λ m h k. slot-once n m s h k)

    name-iff : (n : ℕ) (name : List ℕ) → (name_at (numbered_held t) n ≡ Some name) ↔ (number_of_object (numbered_held t) name ≡ Some n)
    name-iff n name = number-iff same_text text-exact (numbered_held t).objects name n (λ m h k. name-once n m name h k)

    slot-numbered : (s : Slot) → IsIn s (slots (document_held t.objects.entries)) → IsTrue (is_some (number_of (numbered_held t) s))
    slot-numbered s i = let n = slot-has_number s i in ap is_some ((slot-iff n.0 s).0 n.1)

    numbered-slot : (s : Slot) → IsTrue (is_some (number_of (numbered_held t) s)) → IsIn s (slots (document_held t.objects.entries))
    numbered-slot s h =
        elim (number_of (numbered_held t) s) as (λ r. number_of (numbered_held t) s ≡ r → IsTrue (is_some r) → IsIn s (slots (document_held t.objects.entries))) [
          | None ↦ λ e g. absurd (false≢true g)
          | Some n ↦ λ e g.
              let at : slot_at (numbered_held t) n ≡ Some s = (slot-iff n s).1 e in
              let a : At t n = at_number-held t held n (ap is_some at) in
              let same : slot_named a.owner a.entry ≡ s = cc (a.found, at) in
              subst (λ (l : List Slot). IsIn s l) (sym (slots-held t held))
              (subst (λ (q : Slot). IsIn q (flat_map slots_in t.objects.entries)) same
              (IsIn-flat_map slots_in t.objects.entries a.owner (slot_named a.owner a.entry) (in-at t.objects.entries (a.place).object a.owner a.stands.object)
              (IsIn-map (slot_named a.owner) a.owner.1.properties.entries a.entry (in-at a.owner.1.properties.entries (a.place).property a.entry a.stands.property))))
        ] refl h

    object-numbered : (name : List ℕ) → IsTrue (is_some (object_named (document_held t.objects.entries) name)) → IsTrue (is_some (number_of_object (numbered_held t) name))
    object-numbered name h = let n = object-has_number name h in ap is_some ((name-iff n.0 name).0 n.1)

    numbered-object : (name : List ℕ) → IsTrue (is_some (number_of_object (numbered_held t) name)) → IsTrue (is_some (object_named (document_held t.objects.entries) name))
    numbered-object name h =
        elim (number_of_object (numbered_held t) name) as (λ r. number_of_object (numbered_held t) name ≡ r → IsTrue (is_some r) → IsTrue (is_some (object_named (document_held t.objects.entries) name))) [
          | None ↦ λ e g. absurd (false≢true g)
          | Some n ↦ λ e g.
              let o : Owns t.objects.entries n name = owns-held t held n name ((name-iff n name).1 e) in
              subst (λ (m : List ℕ). IsTrue (is_some (object_named (document_held t.objects.entries) m))) o.name_is (ap is_some (object-found t held o.place o.owner o.stands))
        ] refl h

    numbered-held : IsNumbered (numbered_held t)
    numbered-held = record {
      slot_numbers = slot-iff;
      all_slots = λ s. (slot-numbered s, numbered-slot s);
      object_numbers = name-iff;
      all_objects = λ name. (object-numbered name, numbered-object name);
    }

-- what tables show is numbered
pub numbered-read : (v : Numbered) (t : Inside) → IsHeld t → numbered_held t ≡ v → SameSlotIsEquality → IsNumbered v
numbered-read v t held is exact = subst IsNumbered is (numbered-held t held exact)

-- where numbers are only given up, what stays keeps its own
pub shrunk-keeps : (t u : Inside) → IsHeld t → IsHeld u → ((n : ℕ) (name : List ℕ) → name_at (numbered_held u) n ≡ Some name → name_at (numbered_held t) n ≡ Some name)
    → ((n : ℕ) (s : Slot) → slot_at (numbered_held u) n ≡ Some s → slot_at (numbered_held t) n ≡ Some s) → Keeps (numbered_held t) (numbered_held u)
shrunk-keeps t u held kept names keys = record {
  objects = λ n name h k.
      let m = object-has_number u kept name k in
      subst (λ (i : ℕ). name_at (numbered_held u) i ≡ Some name) (sym (name-once t held m.0 n name (names m.0 name m.1) h)) m.1;
  slots = λ n s h k.
      let m = slot-has_number u kept s k in
      subst (λ (i : ℕ). slot_at (numbered_held u) i ≡ Some s) (sym (slot-once t held m.0 n s (keys m.0 s m.1) h)) m.1;
}
