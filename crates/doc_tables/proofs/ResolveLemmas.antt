-- The entry of an object has the numbers of its slots, however the object was found.
use Rattle.std.proofs.Common.{◌≡◌, ℕ, Bool, false, nat_eq, List, [], ◌∷◌, Option, Some, None, slice_get, refl, sym, ap, subst, ◌∙◌}
use Rattle.std.specs.Cmp.Lexicographic.{pointwise}
use Rattle.std.specs.List.{find}
use Rattle.std.specs.Map.{lookup}
use Rattle.std.specs.Option.{option_and_then, option_map}
use Rattle.fc_base.specs.declared.ids.SlotId.{SlotId}
use Rattle.object_paths.specs.declared.path.Owner.TheVariants.{Here, ByName, ByLabel}
use Rattle.object_paths.specs.declared.path.Path.{Path}
use Rattle.object_paths.specs.declared.slot_name.SlotName.{SlotName}
use Rattle.object_paths.specs.declared.slot_name.SlotName.TheVariants.{Plain, Component, Marked}
use Rattle.object_paths.specs.Slots.{same_text, same_slot_name}
use Rattle.document_model.specs.Document.{Document, Object, object_labelled, object_named}
use Rattle.document_model.specs.Resolution.{owner_of, slot_in, spelled_slot, resolve}
use Rattle.document_model.specs.Slots.{Row, row_in, slot_of}
use Rattle.doc_tables.specs.declared.entry.ObjectEntry.{ObjectEntry}
use Rattle.doc_tables.specs.declared.entry.PropertyEntry.{PropertyEntry}
use Rattle.doc_tables.specs.declared.tables.Tables.TheInside.{Inside}
use Rattle.doc_tables.specs.Accessors.{IsNumberOf}
use Rattle.doc_tables.specs.Entries.{number_in, IsObjectEntry, IsEntryFor}
use Rattle.doc_tables.specs.Held.{object_held, document_held, numbered_held, IsObjectHeld, IsHeld}
use Rattle.doc_tables.specs.Numbered.{Numbered, at_number, object_at, slot_at}
use Rattle.doc_tables.proofs.Finding.{find-map, find-place, find-same, lookup-find, same_text-sym}
use Rattle.doc_tables.proofs.HeldLemmas.{Named, Owned, Owns, name_at-held, name-read, owner-looked, owns-held, row_held, rows-held, slot_named, slot_at-stands, object-found, all_at}

find-never : {A : Type 0} (xs : List A) → find (λ x. false) xs ≡ None
find-never [] = refl
find-never (x ∷ xs) = find-never xs

module _ (t : Inside) (held : IsHeld t) where
  d : Document
  d = document_held t.objects.entries

  rows_of : (i : ℕ) (o : Owned) → slice_get t.objects.entries i ≡ Some o → (name : SlotName) → slot_in (document_held t.objects.entries) (object_held o) name ≡ option_map (λ (e : Named). slot_named o e) (find (λ (e : Named). same_slot_name (Plain e.0) name) o.1.properties.entries)
  rows_of i o at name =
      ap (λ (all : List Row). option_map (λ (r : Row). slot_of (object_held o) r.name) (row_in all name))
      (rows-held (document_held t.objects.entries) o (all_at IsObjectHeld t.objects.entries i o held.objects at))
      ∙ ap (option_map (λ (r : Row). slot_of (object_held o) r.name)) (find-map row_held (λ r. same_slot_name r.name name) o.1.properties.entries)
      ∙ (elim (find (λ (e : Named). same_slot_name (Plain e.0) name) o.1.properties.entries) as (λ f. option_map (λ (r : Row). slot_of (object_held o) r.name) (option_map row_held f) ≡ option_map (λ (e : Named). slot_named o e) f) [
        | None ↦ refl
        | Some e ↦ refl
      ])

  numbered : (i : ℕ) (o : Owned) → slice_get t.objects.entries i ≡ Some o → (f : Option Named) → ((e : Named) → f ≡ Some e → (j : ℕ) × (slice_get o.1.properties.entries j ≡ Some e))
      → option_map (λ (id : SlotId). slot_at (numbered_held t) id.0) (option_map (λ (e : Named). e.1.slot) f) ≡ option_map Some (option_map (λ (e : Named). slot_named o e) f)
  numbered i o at None place = refl
  numbered i o at (Some e) place =
      let j = place e refl in
      ap Some (slot_at-stands t held (record { object = i; property = j.0 }) o e (record { object = at; property = j.1 }))

  -- the entry of an object at a place
  pub entry-at : (i : ℕ) (o : Owned) → slice_get t.objects.entries i ≡ Some o → IsObjectEntry (numbered_held t) (object_held o) o.1
  entry-at i o at (Plain name) =
      let es = o.1.properties.entries in
      let test : Named → Bool = λ e. same_text e.0 name in
      let own : option_map (λ (p : PropertyEntry). p.slot) (lookup (pointwise nat_eq name) es) ≡ option_map (λ (e : Named). e.1.slot) (find test es) =
      ap (option_map (λ (p : PropertyEntry). p.slot)) (lookup-find (pointwise nat_eq name) es)
      ∙ ap (λ (f : Option Named). option_map (λ (p : PropertyEntry). p.slot) (option_map (λ (e : Named). e.1) f)) (find-same (λ (e : Named). pointwise nat_eq name e.0) test es (λ e. same_text-sym name e.0))
      ∙ (elim (find test es) as (λ f. option_map (λ (p : PropertyEntry). p.slot) (option_map (λ (e : Named). e.1) f) ≡ option_map (λ (e : Named). e.1.slot) f) [ None ↦ refl | Some e ↦ refl ])
      in
      ap (option_map (λ (id : SlotId). slot_at (numbered_held t) id.0)) own
      ∙ numbered i o at (find test es) (λ e h. find-place test es e h)
      ∙ ap (option_map Some) (sym (rows_of i o at (Plain name)))
  entry-at i o at (Component name k) =
      ap (option_map Some) (sym (rows_of i o at (Component name k) ∙ ap (option_map (λ (e : Named). slot_named o e)) (find-never o.1.properties.entries)))
  entry-at i o at (Marked p) =
      ap (option_map Some) (sym (rows_of i o at (Marked p) ∙ ap (option_map (λ (e : Named). slot_named o e)) (find-never o.1.properties.entries)))

  -- of an object that a search finds
  entry-found : (f : Option Owned) → ((o : Owned) → f ≡ Some o → (i : ℕ) × (slice_get t.objects.entries i ≡ Some o)) → IsEntryFor (numbered_held t) (option_map object_held f) (option_map (λ (o : Owned). o.1) f)
  entry-found None place = tt
  entry-found (Some o) place = let i = place o refl in entry-at i.0 o i.1

  pub entry-named : (name : List ℕ) → IsEntryFor (numbered_held t) (object_named (document_held t.objects.entries) name) (lookup (pointwise nat_eq name) t.objects.entries)
  entry-named name =
      let es = t.objects.entries in
      let test : Owned → Bool = λ o. same_text o.0 name in
      let object : object_named (document_held es) name ≡ option_map object_held (find test es) = find-map object_held (λ q. same_text q.name name) es in
      let entry : lookup (pointwise nat_eq name) es ≡ option_map (λ (o : Owned). o.1) (find test es) =
      lookup-find (pointwise nat_eq name) es ∙ ap (option_map (λ (o : Owned). o.1)) (find-same (λ (o : Owned). pointwise nat_eq name o.0) test es (λ o. same_text-sym name o.0))
      in
      subst (λ (e : Option ObjectEntry). IsEntryFor (numbered_held t) (object_named (document_held es) name) e) (sym entry)
      (subst (λ (q : Option Object). IsEntryFor (numbered_held t) q (option_map (λ (o : Owned). o.1) (find test es))) (sym object)
      (entry-found (find test es) (λ o h. find-place test es o h)))

  -- the object of the number of an entry is that entry's
  pub object_at-place : (i : ℕ) (o : Owned) → slice_get t.objects.entries i ≡ Some o → object_at (numbered_held t) o.1.number.0 ≡ Some (object_held o)
  object_at-place i o at =
      ap (option_and_then (object_named (document_held t.objects.entries))) (name_at-held t held i o at)
      ∙ object-found t held i o at

-- the slot that a name spells at an object that was found
pub spelled-found : (t : Numbered) (found : Option Object) (entry : Option ObjectEntry) (name : SlotName) → IsEntryFor t found entry → IsNumberOf t (option_and_then (λ (e : ObjectEntry). number_in e name) entry) (option_and_then (λ (o : Object). spelled_slot t.document o o.kind name) found)
spelled-found t None None name h = refl
spelled-found t None (Some e) name h = absurd h
spelled-found t (Some o) None name h = absurd h
spelled-found t (Some o) (Some e) name h = h name

-- what a path of an object names, by the entry of its owner
pub resolve-found : (t : Numbered) (here : Option Object) (e : ObjectEntry) (p : Path) (w : Option Object) (found : Option ObjectEntry) (id : Option SlotId)
    → ((o : Object) → here ≡ Some o → owner_of t.document o p.owner ≡ w) → IsEntryFor t here (Some e) → IsEntryFor t w found
    → id ≡ option_and_then (λ (x : ObjectEntry). number_in x p.slot) found → IsNumberOf t id (option_and_then (λ (o : Object). resolve t.document o p) here)
unfolding resolve
resolve-found t None e p w found id owner h k is = absurd h
resolve-found t (Some o) e p w found id owner h k is =
    subst (λ (x : Option SlotId). IsNumberOf t x (option_and_then (λ (q : Object). spelled_slot t.document q q.kind p.slot) (owner_of t.document o p.owner))) (sym is)
    (subst (λ (x : Option Object). IsNumberOf t (option_and_then (λ (y : ObjectEntry). number_in y p.slot) found) (option_and_then (λ (q : Object). spelled_slot t.document q q.kind p.slot) x))
    (sym (owner o refl)) (spelled-found t w found p.slot k))

module _ (t : Numbered) (here : Option Object) (e : ObjectEntry) (p : Path) (h : IsEntryFor t here (Some e)) where
  pub resolve-here : (id : Option SlotId) → p.owner ≡ Here → id ≡ number_in e p.slot → IsNumberOf t id (option_and_then (λ (o : Object). resolve t.document o p) here)
  resolve-here id is n = resolve-found t here e p here (Some e) id (λ o at. ap (owner_of t.document o) is ∙ sym at) h h n

  pub resolve-named : (name : List ℕ) (found : Option ObjectEntry) (id : Option SlotId) → p.owner ≡ ByName name → IsEntryFor t (object_named t.document name) found
      → id ≡ option_and_then (λ (x : ObjectEntry). number_in x p.slot) found → IsNumberOf t id (option_and_then (λ (o : Object). resolve t.document o p) here)
  resolve-named name found id is k n = resolve-found t here e p (object_named t.document name) found id (λ o at. ap (owner_of t.document o) is) h k n

  pub resolve-labelled : (label : List ℕ) (found : Option ObjectEntry) (id : Option SlotId) → p.owner ≡ ByLabel label → IsEntryFor t (object_labelled t.document label) found
      → id ≡ option_and_then (λ (x : ObjectEntry). number_in x p.slot) found → IsNumberOf t id (option_and_then (λ (o : Object). resolve t.document o p) here)
  resolve-labelled label found id is k n = resolve-found t here e p (object_labelled t.document label) found id (λ o at. ap (owner_of t.document o) is) h k n

-- the same of what tables show
module _ (v : Numbered) (t : Inside) (held : IsHeld t) (is : numbered_held t ≡ v) where
  pub named-read : (name : List ℕ) (e : Option ObjectEntry) → e ≡ lookup (pointwise nat_eq name) t.objects.entries → IsEntryFor v (object_named v.document name) e
  named-read name e h =
      subst (λ (x : Option ObjectEntry). IsEntryFor v (object_named v.document name) x) (sym h)
      (subst (λ (w : Numbered). IsEntryFor w (object_named w.document name) (lookup (pointwise nat_eq name) t.objects.entries)) is (entry-named t held name))

  pub here-read : (n : ℕ) (name : List ℕ) (e : ObjectEntry) → Some name ≡ at_number t.object_names.items n → Some e ≡ lookup (pointwise nat_eq name) t.objects.entries → IsEntryFor v (object_at v n) (Some e)
  here-read n name e h own =
      subst (λ (q : Option Object). IsEntryFor v q (Some e)) (ap (option_and_then (object_named v.document)) (name-read v t held is n name h))
      (named-read name (Some e) own)

  -- the slot of a name of the object of a number
  pub slot-read : (n : ℕ) (name : List ℕ) (e : ObjectEntry) → Some name ≡ at_number t.object_names.items n → Some e ≡ lookup (pointwise nat_eq name) t.objects.entries → (k : SlotName) (id : Option SlotId) → id ≡ number_in e k
      → IsNumberOf v id (option_and_then (λ (o : Object). slot_in v.document o k) (object_at v n))
  slot-read n name e h own k id told =
      let d = document_held t.objects.entries in
      let w : Owns t.objects.entries n name = owns-held t held n name (sym h) in
      let both : Some e ≡ Some w.owner.1 = own ∙ owner-looked t held n name w in
      let same : e ≡ w.owner.1 = cc in
      let found : object_at (numbered_held t) n ≡ Some (object_held w.owner) =
      ap (option_and_then (object_named d)) (sym h ∙ ap Some (sym w.name_is)) ∙ object-found t held w.place w.owner w.stands
      in
      subst (λ (x : Numbered). IsNumberOf x id (option_and_then (λ (o : Object). slot_in x.document o k) (object_at x n))) is
      (subst (λ (q : Option Object). IsNumberOf (numbered_held t) id (option_and_then (λ (o : Object). slot_in d o k) q)) (sym found)
      (subst (λ (x : Option SlotId). IsNumberOf (numbered_held t) x (slot_in d (object_held w.owner) k)) (sym (told ∙ ap (λ (y : ObjectEntry). number_in y k) same))
      (entry-at t held w.place w.owner w.stands k)))
