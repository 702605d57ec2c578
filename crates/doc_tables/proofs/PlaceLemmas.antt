-- Objects and slots by their places in the document.
use Rattle.std.proofs.Common.{◌≡◌, ℕ, Bool, nat_eq, List, map, Option, Some, None, slice_get, position, refl, sym, ap, subst, ◌∙◌}
use Rattle.std.specs.Cmp.Lexicographic.{pointwise}
use Rattle.std.specs.List.{find}
use Rattle.std.specs.Map.{lookup}
use Rattle.std.specs.Option.{option_and_then, option_map}
use Rattle.std.proofs.lemmas.Option.{slice_get-map}
use Rattle.fc_base.specs.declared.ids.ObjectId.{ObjectId}
use Rattle.fc_base.specs.declared.ids.SlotId.{SlotId}
use Rattle.object_paths.specs.Slots.{Slot, same_text}
use Rattle.document_model.specs.Document.{Object, object_labelled, object_named}
use Rattle.doc_tables.specs.declared.entry.ObjectEntry.{ObjectEntry}
use Rattle.doc_tables.specs.declared.tables.Tables.TheInside.{Inside}
use Rattle.doc_tables.specs.Accessors.{AreNumbersOf, IsNumberOf, IsNumberOfObject}
use Rattle.fc_base.specs.Graph.{IsIn}
use Rattle.doc_tables.specs.Entries.{IsEntryFor}
use Rattle.doc_tables.specs.FindsAll.{FindsAll}
use Rattle.doc_tables.specs.Labels.{first_of_label}
use Rattle.doc_tables.specs.Held.{object_held, document_held, numbered_held, IsHeld}
use Rattle.doc_tables.specs.Numbered.{Numbered, at_number, name_at, object_at, slot_at}
use Rattle.doc_tables.proofs.Finding.{find-map, find-place, find-position, find-same, lookup-find, same_text-sym}
use Rattle.doc_tables.proofs.LabelsHeld.{label-found}
use Rattle.doc_tables.proofs.HeldLemmas.{Owned, Owns, in-at, name_at-held, object-found, owner-looked, owns-held}

-- the slot at a place has the number at that place
pub number-at : (t : Numbered) (ids : List SlotId) (all : List Slot) (k : ℕ) → AreNumbersOf t ids all → IsNumberOf t (slice_get ids k) (slice_get all k)
number-at t ids all k h =
    sym (slice_get-map (λ (id : SlotId). slot_at t id.0) ids k) ∙ ap (λ (l : List (Option Slot)). slice_get l k) h ∙ slice_get-map Some all k

-- the number of an object, where there is one
abbrev number_found : Option Owned → Option ObjectId
number_found f = option_map (λ (e : ObjectEntry). e.number) (option_map (λ (o : Owned). o.1) f)

module _ (t : Inside) (held : IsHeld t) where
  number-found : (f : Option Owned) → ((o : Owned) → f ≡ Some o → (i : ℕ) × (slice_get t.objects.entries i ≡ Some o)) → IsNumberOfObject (numbered_held t) (number_found f) (option_map object_held f)
  number-found None there = refl
  number-found (Some o) there = let i = there o refl in ap Some (name_at-held t held i.0 o i.1)

  entry-number : (f : Option Owned) → ((o : Owned) → f ≡ Some o → (i : ℕ) × (slice_get t.objects.entries i ≡ Some o)) → IsNumberOfObject (numbered_held t) (option_map (λ (o : Owned). o.1.number) f) (option_map object_held f)
  entry-number None there = refl
  entry-number (Some o) there = let i = there o refl in ap Some (name_at-held t held i.0 o i.1)

  -- the object that a search finds has the number of its entry
  searched-number : (test : Owned → Bool) → IsNumberOfObject (numbered_held t) (number_found (option_and_then (slice_get t.objects.entries) (position test t.objects.entries))) (option_map object_held (find test t.objects.entries))
  searched-number test =
      subst (λ (f : Option Owned). IsNumberOfObject (numbered_held t) (number_found f) (option_map object_held (find test t.objects.entries))) (find-position test t.objects.entries)
      (number-found (find test t.objects.entries) (λ o h. find-place test t.objects.entries o h))

  named-held : (name : List ℕ) → IsNumberOfObject (numbered_held t) (number_found (option_and_then (slice_get t.objects.entries) (position (λ (o : Owned). same_text o.0 name) t.objects.entries))) (object_named (document_held t.objects.entries) name)
  named-held name =
      searched-number (λ o. same_text o.0 name)
      ∙ ap (option_map (λ (o : Object). Some o.name)) (sym (find-map object_held (λ q. same_text q.name name) t.objects.entries))

  labelled-held : (label : List ℕ) → IsNumberOfObject (numbered_held t) (option_map (λ (o : Owned). o.1.number) (find (λ (o : Owned). same_text o.1.label label) t.objects.entries)) (object_labelled (document_held t.objects.entries) label)
  labelled-held label =
      entry-number (find (λ (o : Owned). same_text o.1.label label) t.objects.entries) (λ o h. find-place (λ (q : Owned). same_text q.1.label label) t.objects.entries o h)
      ∙ ap (option_map (λ (o : Object). Some o.name)) (sym (find-map object_held (λ q. same_text q.label label) t.objects.entries))

  placed-held : (k : ℕ) → IsNumberOfObject (numbered_held t) (number_found (slice_get t.objects.entries k)) (slice_get (map object_held t.objects.entries) k)
  placed-held k =
      number-found (slice_get t.objects.entries k) (λ o h. (k, h))
      ∙ ap (option_map (λ (o : Object). Some o.name)) (sym (slice_get-map object_held t.objects.entries k))

found-in : {A : Type 0} (p : A → Bool) (xs : List A) (x : A) → find p xs ≡ Some x → IsIn x xs
found-in p xs x h = let i = find-place p xs x h in in-at xs i.0 x i.1

-- the object of a label has the entry of its number
pub labelled-entry : (v : Numbered) (finds : FindsAll v.document) (label : List ℕ) (id : ObjectId) (found : ObjectEntry) → IsNumberOfObject v (Some id) (object_labelled v.document label) → IsEntryFor v (object_at v id.0) (Some found)
    → IsEntryFor v (object_labelled v.document label) (Some found)
labelled-entry v finds label id found n e = of (object_labelled v.document label) refl n
  where
    of : (o : Option Object) → object_labelled v.document label ≡ o → IsNumberOfObject v (Some id) o → IsEntryFor v o (Some found)
    of None at n = absurd (cc)
    of (Some o) at n =
        let named : name_at v id.0 ≡ Some o.name = cc in
        let same : object_at v id.0 ≡ Some o = ap (option_and_then (object_named v.document)) named ∙ finds.objects o (found-in (λ (q : Object). same_text q.label label) v.document.objects o at) in
        subst (λ (q : Option Object). IsEntryFor v q (Some found)) same e

-- of what tables show
module _ (v : Numbered) (t : Inside) (held : IsHeld t) (is : numbered_held t ≡ v) where
  number-told : (place : Option ℕ) (entry : Option ObjectEntry) (id : Option ObjectId) → entry ≡ option_map (λ (o : Owned). o.1) (option_and_then (slice_get t.objects.entries) place)
      → id ≡ option_map (λ (e : ObjectEntry). e.number) entry → id ≡ number_found (option_and_then (slice_get t.objects.entries) place)
  number-told place entry id e h = h ∙ ap (option_map (λ (x : ObjectEntry). x.number)) e

  pub named-number : (name : List ℕ) (place : Option ℕ) (entry : Option ObjectEntry) (id : Option ObjectId) → place ≡ position (λ (o : Owned). same_text o.0 name) t.objects.entries
      → entry ≡ option_map (λ (o : Owned). o.1) (option_and_then (slice_get t.objects.entries) place) → id ≡ option_map (λ (e : ObjectEntry). e.number) entry → IsNumberOfObject v id (object_named v.document name)
  named-number name place entry id at e h =
      subst (λ (w : Numbered). IsNumberOfObject w id (object_named w.document name)) is
      (ap (option_map (λ (x : ObjectId). name_at (numbered_held t) x.0)) (number-told place entry id e h ∙ ap (λ (p : Option ℕ). number_found (option_and_then (slice_get t.objects.entries) p)) at) ∙ named-held t held name)

  pub looked-number : (name : List ℕ) (entry : Option ObjectEntry) (id : Option ObjectId) → entry ≡ lookup (pointwise nat_eq name) t.objects.entries → id ≡ option_map (λ (e : ObjectEntry). e.number) entry
      → IsNumberOfObject v id (object_named v.document name)
  looked-number name entry id at h =
      let es = t.objects.entries in
      let test : Owned → Bool = λ o. same_text o.0 name in
      let found : entry ≡ option_map (λ (o : Owned). o.1) (find test es) =
      at ∙ lookup-find (pointwise nat_eq name) es ∙ ap (option_map (λ (o : Owned). o.1)) (find-same (λ (o : Owned). pointwise nat_eq name o.0) test es (λ o. same_text-sym name o.0))
      in
      subst (λ (w : Numbered). IsNumberOfObject w id (object_named w.document name)) is
      (ap (option_map (λ (x : ObjectId). name_at (numbered_held t) x.0)) (h ∙ ap (option_map (λ (x : ObjectEntry). x.number)) found)
      ∙ number-found t held (find test es) (λ o k. find-place test es o k)
      ∙ ap (option_map (λ (o : Object). Some o.name)) (sym (find-map object_held (λ q. same_text q.name name) es)))

  pub labelled-number : (label : List ℕ) (id : Option ObjectId) → id ≡ first_of_label t.object_names.items t.objects.entries label t.by_label.items → IsNumberOfObject v id (object_labelled v.document label)
  labelled-number label id h =
      subst (λ (w : Numbered). IsNumberOfObject w id (object_labelled w.document label)) is
      (ap (option_map (λ (x : ObjectId). name_at (numbered_held t) x.0)) (h ∙ label-found t held label) ∙ labelled-held t held label)

  pub place-number : (k : ℕ) (entry : Option ObjectEntry) (id : Option ObjectId) → entry ≡ option_map (λ (o : Owned). o.1) (slice_get t.objects.entries k) → id ≡ option_map (λ (e : ObjectEntry). e.number) entry
      → IsNumberOfObject v id (slice_get v.document.objects k)
  place-number k entry id e h =
      subst (λ (w : Numbered). IsNumberOfObject w id (slice_get w.document.objects k)) is
      (ap (option_map (λ (x : ObjectId). name_at (numbered_held t) x.0)) (number-told (Some k) entry id e h) ∙ placed-held t held k)

  pub label-read : (n : ℕ) (name : List ℕ) (entry : ObjectEntry) → Some name ≡ at_number t.object_names.items n → Some entry ≡ lookup (pointwise nat_eq name) t.objects.entries
      → Some entry.label ≡ option_map (λ (q : Object). q.label) (object_at v n)
  label-read n name entry h own =
      let d = document_held t.objects.entries in
      let w : Owns t.objects.entries n name = owns-held t held n name (sym h) in
      let both : Some entry ≡ Some w.owner.1 = own ∙ owner-looked t held n name w in
      let same : entry ≡ w.owner.1 = cc in
      let found : object_at (numbered_held t) n ≡ Some (object_held w.owner) =
      ap (option_and_then (object_named d)) (sym h ∙ ap Some (sym w.name_is)) ∙ object-found t held w.place w.owner w.stands
      in
      subst (λ (x : Numbered). Some entry.label ≡ option_map (λ (q : Object). q.label) (object_at x n)) is
      (ap (λ (e : ObjectEntry). Some e.label) same ∙ sym (ap (option_map (λ (q : Object). q.label)) found))
