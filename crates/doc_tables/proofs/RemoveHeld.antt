-- What tables show after a removal.
use Rattle.std.proofs.Common.{◌≡◌, ◌^◌, ◌<◌, ◌||◌, ℕ, Bool, true, false, not, cond, nat_eq, min, List, [], ◌∷◌, map, length, position, slice_get, sum_by, Option, Some, None, IfSome, IsSome, IsTrue, is_some, refl, sym, ap, subst, ◌∙◌, arith}
use Rattle.std.specs.Cmp.Lexicographic.{pointwise}
use Rattle.std.specs.List.{filter, flat_map, list_any, AllByRecursion, IsDistinct}
use Rattle.std.specs.Map.{keys_of, lookup, remove_entry}
use Rattle.std.specs.Option.{option_map, option_map_or}
use Rattle.std.proofs.lemmas.Bool.{false≢true}
use Rattle.std.proofs.lemmas.List.{length-map}
use Rattle.indexmap.specs.IndexMap.{get, IsUnique}
use Rattle.fc_base.specs.Graph.{IsIn}
use Rattle.fc_base.specs.declared.ids.ObjectId.{ObjectId}
use Rattle.fc_base.specs.declared.ids.SlotId.{SlotId}
use Rattle.object_paths.specs.declared.slot_name.SlotName.TheVariants.{Plain}
use Rattle.object_paths.specs.Slots.{Slot, same_text}
use Rattle.document_model.specs.Document.{Object, Property}
use Rattle.document_model.specs.WellFormed.{IsWellFormed}
use Rattle.document_model.specs.Edited.{without_object, without_property}
use Rattle.document_model.proofs.Members.{from_flat_map, from_map, IsIn-flat_map, IsIn-map}
use Rattle.doc_tables.specs.declared.entry.ObjectEntry.{ObjectEntry}
use Rattle.doc_tables.specs.declared.entry.PropertyEntry.{PropertyEntry}
use Rattle.doc_tables.specs.declared.entry.SlotKey.{SlotKey}
use Rattle.doc_tables.specs.declared.tables.Tables.TheInside.{Inside}
use Rattle.doc_tables.specs.Held.{property_held, object_held, object_numbered, slot_of_key, slots_numbered, slots_of_keys, document_held, numbered_held, IsObjectHeld, HoldsReached, IsHeld}
use Rattle.doc_tables.specs.Labels.{AreByLabel, labelled}
use Rattle.doc_tables.specs.Numbered.{Numbered, Keeps, LeadsTo, at_number, name_at}
use Rattle.doc_tables.specs.Primitives.{lacks_property}
use Rattle.doc_tables.specs.Shown.{Shown, shown, change_at, without_entry}
use Rattle.doc_tables.specs.Table.{freed_at, HasRoom, IsTable}
use Rattle.document_model.proofs.FormLemmas.{IsWellFormed-without_object, IsWellFormed-without_property}
use Rattle.doc_tables.proofs.ChangeHeld.{any-name, found, found-object, names-are, o, shown-at}
use Rattle.doc_tables.proofs.ChangeLists.{map-change}
use Rattle.doc_tables.proofs.Finding.{same-place, same_text-refl}
use Rattle.doc_tables.proofs.HeldBy.{document-of, document-shown, entries-shown, labelled_by, labels-shown, names-shown, number_by, slots_by, slots-shown, still-held, IsObjectBy}
use Rattle.doc_tables.proofs.HeldLemmas.{Named, Owned, Owns, all_at, in-at, owner-looked, owns-held, place-in}
use Rattle.doc_tables.proofs.LabelsHeld.{labels-left}
use Rattle.doc_tables.proofs.NumberedHeld.{shrunk-keeps}
use Rattle.doc_tables.proofs.RemoveLemmas.{one_less, less-document, less-entries, less-numbers}
use Rattle.doc_tables.proofs.RemoveLists.{changed-at, left-all, left-apart, left-filtered, left-in, left-length, left-sum, looked-in, others-left, shrunk-into, shrunk-kept}
use Rattle.doc_tables.proofs.TableLemmas.{any-from, any-of, at_number-map, freed-shrinks, nat_eq-below, nat_eq-refl, nat_eq-told, room-less, some_of, table-less}

map-freed : {A B : Type 0} (f : A → B) (b : Bool) (x : Option A) → option_map f (cond b None x) ≡ cond b None (option_map f x)
map-freed f true x = refl
map-freed f false x = refl

-- keys that are freed free their slots
slots-freed : (before after : List (Option SlotKey)) (gone : ℕ → Bool) → ((m : ℕ) → at_number after m ≡ cond (gone m) None (at_number before m))
    → (m : ℕ) → at_number (slots_of_keys after) m ≡ cond (gone m) None (at_number (slots_of_keys before) m)
slots-freed before after gone freed m =
    at_number-map slot_of_key after m ∙ ap (option_map slot_of_key) (freed m) ∙ map-freed slot_of_key (gone m) (at_number before m)
    ∙ ap (cond (gone m) None) (sym (at_number-map slot_of_key before m))

-- a test that cannot pass
untrue : (b : Bool) → (b ≡ true → ⊥) → b ≡ false
untrue true h = absurd (h refl)
untrue false h = refl

some-lookup : {K X : Type 0} (p : K → Bool) (es : List (K × X)) → list_any p (keys_of es) ≡ true → IsSome (lookup p es)
some-lookup p [] h = absurd (false≢true h)
some-lookup {K} {X} p (e ∷ es) h =
    elim (p e.0) as (λ b. (b || list_any p (keys_of es)) ≡ true → IsSome (cond b (Some e.1) (lookup p es))) [
      | true ↦ λ g. refl
      | false ↦ λ g. some-lookup p es g
    ] h

twice : (b : Bool) → not (not b) ≡ true → b ≡ true
twice true h = refl
twice false h = h

-- the slots of an object, by numbers
abbrev slot_by : Shown → Named → ℕ × Slot
slot_by y e = (e.1.slot.0, record { object = y.0; name = Plain e.0 })

-- ---- one property less
module _ (v : Numbered) (t : Inside) (held : IsHeld t) (is : numbered_held t ≡ v) (number : ℕ) (owner : List ℕ) (live : Some owner ≡ name_at v number) (i : ℕ)
    (placed : position (pointwise nat_eq owner) (keys_of t.objects.entries) ≡ Some i) (name : List ℕ) where
  abbrev own : Owned
  own = o v t held is number owner live i placed

  abbrev entries : List Named
  entries = own.1.properties.entries

  stands : slice_get t.objects.entries i ≡ Some own
  stands = (found v t held is number owner live i placed).1

  module _ (has : IsTrue (not (lacks_property v number name))) where
    entry-some : IsSome (lookup (pointwise nat_eq name) entries)
    entry-some =
        some-lookup (pointwise nat_eq name) entries
        (sym (any-name entries name)
        ∙ twice (list_any (λ (p : Property). same_text p.name name) (map property_held entries))
        (sym (ap (λ (q : Option Object). not (option_map_or (λ (x : Object). not (list_any (λ (p : Property). same_text p.name name) x.dynamics)) q true)) (found-object v t held is number owner live i placed)) ∙ has))

    pub entry-there : IfSome (slice_get t.objects.entries i) (λ (x : Owned). IsSome (get (pointwise nat_eq) x.1.properties name))
    entry-there = subst (λ (r : Option Owned). IfSome r (λ (x : Owned). IsSome (get (pointwise nat_eq) x.1.properties name))) (sym stands) entry-some

    module _ (slot : SlotId) (told : IfSome (slice_get t.objects.entries i) (λ (x : Owned). Some slot ≡ option_map (λ (e : PropertyEntry). e.slot) (get (pointwise nat_eq) x.1.properties name))) where
      looked : (e : PropertyEntry) × (lookup (pointwise nat_eq name) entries ≡ Some e)
      looked = some_of (lookup (pointwise nat_eq name) entries) entry-some

      abbrev entry : PropertyEntry
      entry = looked.0

      slot-is : entry.slot ≡ slot
      slot-is =
          let told_own : Some slot ≡ option_map (λ (e : PropertyEntry). e.slot) (lookup (pointwise nat_eq name) entries) =
          subst (λ (r : Option Owned). IfSome r (λ (x : Owned). Some slot ≡ option_map (λ (e : PropertyEntry). e.slot) (get (pointwise nat_eq) x.1.properties name))) stands told
          in
          let both : Some slot ≡ Some entry.slot = told_own ∙ ap (option_map (λ (e : PropertyEntry). e.slot)) looked.1 in
          cc

      abbrev os : List Shown
      os = map shown t.objects.entries

      abbrev before : List (Option Slot)
      before = slots_of_keys t.slot_keys.items

      abbrev its : Slot
      its = record { object = own.0; name = Plain name }

      placed-shown : slice_get os i ≡ Some (shown own)
      placed-shown = shown-at v t held is number owner live i placed

      slot-here : at_number before slot.0 ≡ Some its
      slot-here =
          (slots-shown t held).there slot.0 its
          (IsIn-flat_map slots_by os (shown own) (slot.0, its) (in-at os i (shown own) placed-shown)
          (subst (λ (k : SlotId). IsIn (k.0, its) (slots_by (shown own))) slot-is
          (IsIn-map (slot_by (shown own)) entries (name, entry) (looked-in name entries entry looked.1))))

      abbrev after_objects : List Shown
      after_objects = one_less os i (shown own) name (entries-shown t held)

      own-distinct : IsDistinct (pointwise nat_eq) (keys_of entries)
      own-distinct = (all_at IsObjectBy os i (shown own) (entries-shown t held).objects_held placed-shown).distinct

      fewer : (y : Shown) (z : ℕ × Slot) → IsIn z (slots_by (without_entry name y)) → IsIn z (slots_by y)
      fewer y z k =
          let m = from_map (slot_by y) (without_entry name y).2 z k in
          subst (λ (x : ℕ × Slot). IsIn x (slots_by y)) (sym m.2) (IsIn-map (slot_by y) y.2 m.0 (left-in name y.2 m.0 m.1))

      -- the slot is not there any more
      not-there : (x : ℕ × Slot) → IsIn x (flat_map slots_by after_objects) → x.1 ≡ its → ⊥
      not-there x k same =
          let f = from_flat_map slots_by after_objects x k in
          let y : Shown = f.0 in
          let m = from_map (slot_by y) y.2 x f.2 in
          let e : Named = m.0 in
          let slot : (slot_by y e).1 ≡ its = ap (λ (p : ℕ × Slot). p.1) (sym m.2) ∙ same in
          let plain : Plain e.0 ≡ Plain name = ap (λ (q : Slot). q.name) slot in
          let name_is : e.0 ≡ name = cc in
          let p = place-in after_objects y f.1 in
          let changed : slice_get after_objects i ≡ Some (without_entry name (shown own)) = changed-at (without_entry name) i os (shown own) placed-shown in
          let place : p.0 ≡ i =
          same-place (λ (z : Shown). z.0) after_objects p.0 i y (without_entry name (shown own)) (less-entries os i (shown own) name (entries-shown t held)).distinct p.1 changed (ap (λ (q : Slot). q.object) slot)
          in
          let object : y ≡ without_entry name (shown own) = cc (p.1, changed, place) in
          let left : IsIn e (remove_entry (pointwise nat_eq name) entries) = subst (λ (z : Shown). IsIn e z.2) object m.1 in
          false≢true (sym (left-apart name entries e own-distinct left) ∙ ap (pointwise nat_eq name) name_is ∙ same_text-refl name)

      into : (x : ℕ × Slot) → IsIn x (flat_map slots_by after_objects) → IsIn x (flat_map slots_by os) × (nat_eq x.0 slot.0 ≡ false)
      into x k =
          let was = shrunk-into slots_by (without_entry name) i os fewer x k in (
            was,
            untrue (nat_eq x.0 slot.0) (λ e.
                let here : at_number before x.0 ≡ Some x.1 = (slots-shown t held).there x.0 x.1 was in
                let both : Some x.1 ≡ Some its = sym here ∙ ap (at_number before) (nat_eq-told x.0 slot.0 e) ∙ slot-here in
                let one : x.1 ≡ its = cc in
                not-there x k one),
          )

      kept : (x : ℕ × Slot) → IsIn x (flat_map slots_by os) → nat_eq x.0 slot.0 ≡ false → IsIn x (flat_map slots_by after_objects)
      kept x k other =
          shrunk-kept slots_by (without_entry name) i os x
          (λ y at j.
          let same : y ≡ shown own = cc (at, placed-shown) in
          let m = from_map (slot_by y) y.2 x j in
          let e : Named = m.0 in
          let found_at : lookup (pointwise nat_eq name) y.2 ≡ Some entry = ap (λ (z : Shown). lookup (pointwise nat_eq name) z.2) same ∙ looked.1 in
          subst (λ (z : ℕ × Slot). IsIn z (slots_by (without_entry name y))) (sym m.2)
          (IsIn-map (slot_by y) (without_entry name y).2 e
          (others-left name y.2 entry e found_at m.1 (λ it.
          let number_is : x.0 ≡ slot.0 = ap (λ (p : ℕ × Slot). p.0) m.2 ∙ ap (λ (q : PropertyEntry). q.slot.0) it ∙ ap (λ (q : SlotId). q.0) slot-is in
          false≢true (sym other ∙ ap (λ (n : ℕ). nat_eq n slot.0) number_is ∙ nat_eq-refl slot.0)))))
          k

      module _ (u : Inside) (reached : HoldsReached u) (objects : map shown u.objects.entries ≡ change_at (without_entry name) i os) (names : u.object_names.items ≡ t.object_names.items)
          (freed : (m : ℕ) → at_number u.slot_keys.items m ≡ cond (nat_eq m slot.0) None (at_number t.slot_keys.items m)) (same : length u.slot_keys.items ≡ length t.slot_keys.items)
          (next_object : u.free_object ≡ t.free_object) (next_slot : u.free_slot ≡ min t.free_slot slot.0) (same_numbers : u.by_label.items ≡ t.by_label.items) where
        abbrev after : List (Option Slot)
        after = slots_of_keys u.slot_keys.items

        freed-slots : (m : ℕ) → at_number after m ≡ cond (nat_eq m slot.0) None (at_number before m)
        freed-slots = slots-freed t.slot_keys.items u.slot_keys.items (λ m. nat_eq m slot.0) freed

        property-document : document_held u.objects.entries ≡ without_property (document_held t.objects.entries) own.0 name
        property-document =
            document-of u after_objects objects
            ∙ less-document os i (shown own) name (entries-shown t held) placed-shown
            ∙ (λ j. without_property (sym (document-shown t.objects.entries) j) own.0 name)

        pub property-held : IsHeld u
        property-held =
            let map-key : Option SlotKey → Option Slot = option_map slot_of_key in
            still-held u after_objects objects
            (less-entries os i (shown own) name (entries-shown t held))
            (subst (IsTable u.object_names.items) (sym (less-numbers os i (shown own) name (entries-shown t held)))
            (subst (λ (l : List (Option (List ℕ))). IsTable l (map number_by os)) (sym names) (names-shown t held)))
            (table-less before after (λ m. nat_eq m slot.0) freed-slots (flat_map slots_by os) (flat_map slots_by after_objects) (slots-shown t held) into kept)
            (subst (AreByLabel u.by_label.items) (sym (map-change labelled_by (without_entry name) (λ x. refl) i os))
            (subst (λ (ids : List ObjectId). AreByLabel ids (map labelled_by os)) (sym same_numbers) (labels-shown t held)))
            (subst (HasRoom u.object_names.items) (sym next_object) (subst (λ (l : List (Option (List ℕ))). HasRoom l t.free_object) (sym names) held.object_room))
            (subst (HasRoom after) (sym next_slot)
            (room-less before after (λ m. nat_eq m slot.0) freed-slots t.free_slot (min t.free_slot slot.0) held.slot_room
            (λ m k. omega arith) (λ m k. nat_eq-below m slot.0 (omega arith))
            (length-map u.slot_keys.items map-key ∙ same ∙ sym (length-map t.slot_keys.items map-key))))
            (subst IsWellFormed (sym property-document) (IsWellFormed-without_property (document_held t.objects.entries) own.0 name held.form))
            reached

        pub property-leads : (q : List ℕ) → name_at v number ≡ Some q → LeadsTo v (numbered_held u) (without_property v.document q name)
        property-leads q named =
            let owner_is : own.0 ≡ q = (found v t held is number owner live i placed).2 ∙ (let both : Some owner ≡ Some q = live ∙ named in cc) in
            record {
              document = property-document ∙ (λ j. without_property (ap (λ (w : Numbered). w.document) is j) (owner_is j) name);
              numbers =
                  subst (λ (w : Numbered). Keeps w (numbered_held u)) is
                  (shrunk-keeps t u held property-held
                  (λ n other h. ap (λ (l : List (Option (List ℕ))). at_number l n) (sym names) ∙ h)
                  (λ n s h. freed-shrinks (nat_eq n slot.0) (at_number before n) s (sym (freed-slots n) ∙ h)));
            }

-- ---- one object less
module _ (v : Numbered) (t : Inside) (held : IsHeld t) (is : numbered_held t ≡ v) (number : ℕ) (owner : List ℕ) (live : Some owner ≡ name_at v number) where
  owned : Owns t.objects.entries number owner
  owned = owns-held t held number owner (names-are v t held is number ∙ sym live)

  pub object-looked : IsSome (lookup (pointwise nat_eq owner) t.objects.entries)
  object-looked = ap is_some (owner-looked t held number owner owned)

  abbrev left : List Owned
  left = remove_entry (pointwise nat_eq owner) t.objects.entries

  module _ (x : ObjectEntry) (told : Some x ≡ lookup (pointwise nat_eq owner) t.objects.entries) where
    abbrev numbers : List ℕ
    numbers = map (λ (e : Named). e.1.slot.0) x.properties.entries

    abbrev gone : ℕ → Bool
    gone m = list_any (nat_eq m) numbers

    number-is : x.number.0 ≡ number
    number-is =
        let both : Some x ≡ Some owned.owner.1 = told ∙ owner-looked t held number owner owned in
        let same : x ≡ owned.owner.1 = cc in
        ap (λ (e : ObjectEntry). e.number.0) same ∙ owned.number

    it-in : IsIn (owner, x) t.objects.entries
    it-in = looked-in owner t.objects.entries x (sym told)

    name-here : at_number t.object_names.items number ≡ Some owner
    name-here = names-are v t held is number ∙ sym live

    apart-left : (p : Owned) → IsIn p left → p.0 ≡ owner → ⊥
    apart-left p k same = false≢true (sym (left-apart owner t.objects.entries p held.distinct k) ∙ ap (pointwise nat_eq owner) same ∙ same_text-refl owner)

    names-into : (y : ℕ × List ℕ) → IsIn y (map object_numbered left) → IsIn y (map object_numbered t.objects.entries) × (nat_eq y.0 number ≡ false)
    names-into y k =
        let m = from_map object_numbered left y k in
        let p : Owned = m.0 in
        let was : IsIn y (map object_numbered t.objects.entries) =
        subst (λ (z : ℕ × List ℕ). IsIn z (map object_numbered t.objects.entries)) (sym m.2) (IsIn-map object_numbered t.objects.entries p (left-in owner t.objects.entries p m.1))
        in (
          was,
          untrue (nat_eq y.0 number) (λ e.
              let both : Some y.1 ≡ Some owner = sym (held.object_numbers.there y.0 y.1 was) ∙ ap (at_number t.object_names.items) (nat_eq-told y.0 number e) ∙ name-here in
              let one : y.1 ≡ owner = cc in
              apart-left p m.1 (ap (λ (z : ℕ × List ℕ). z.1) (sym m.2) ∙ one)),
        )

    names-kept : (y : ℕ × List ℕ) → IsIn y (map object_numbered t.objects.entries) → nat_eq y.0 number ≡ false → IsIn y (map object_numbered left)
    names-kept y k other =
        let m = from_map object_numbered t.objects.entries y k in
        let p : Owned = m.0 in
        subst (λ (z : ℕ × List ℕ). IsIn z (map object_numbered left)) (sym m.2)
        (IsIn-map object_numbered left p
        (others-left owner t.objects.entries x p (sym told) m.1 (λ it.
        let same : y.0 ≡ number = ap (λ (z : ℕ × List ℕ). z.0) m.2 ∙ ap (λ (e : ObjectEntry). e.number.0) it ∙ number-is in
        false≢true (sym other ∙ ap (λ (n : ℕ). nat_eq n number) same ∙ nat_eq-refl number))))

    abbrev before_slots : List (Option Slot)
    before_slots = slots_of_keys t.slot_keys.items

    -- the slots of the numbers that are given up are those of the object
    gone-here : (n : ℕ) → gone n ≡ true → (s : Slot) × (at_number before_slots n ≡ Some s) × (s.object ≡ owner)
    gone-here n e =
        let number_of_entry : Named → ℕ = λ d. d.1.slot.0 in
        let m = from_map number_of_entry x.properties.entries n (any-from n numbers e) in
        let d : Named = m.0 in
        let s : Slot = record { object = owner; name = Plain d.0 } in
        let slot_of_entry : Named → ℕ × Slot = λ c. (c.1.slot.0, record { object = owner; name = Plain c.0 }) in (
          s,
          ap (at_number before_slots) m.2
              ∙ held.slot_numbers.there d.1.slot.0 s
              (IsIn-flat_map slots_numbered t.objects.entries (owner, x) (d.1.slot.0, s) it-in (IsIn-map slot_of_entry x.properties.entries d m.1)),
          refl,
        )

    slots-into : (y : ℕ × Slot) → IsIn y (flat_map slots_numbered left) → IsIn y (flat_map slots_numbered t.objects.entries) × (gone y.0 ≡ false)
    slots-into y k =
        let f = from_flat_map slots_numbered left y k in
        let p : Owned = f.0 in
        let slot_of_entry : Named → ℕ × Slot = λ c. (c.1.slot.0, record { object = p.0; name = Plain c.0 }) in
        let m = from_map slot_of_entry p.1.properties.entries y f.2 in
        let was : IsIn y (flat_map slots_numbered t.objects.entries) = IsIn-flat_map slots_numbered t.objects.entries p y (left-in owner t.objects.entries p f.1) f.2 in (
          was,
          untrue (gone y.0) (λ e.
              let s = gone-here y.0 e in
              let both : Some y.1 ≡ Some s.0 = sym (held.slot_numbers.there y.0 y.1 was) ∙ s.1 in
              let one : y.1 ≡ s.0 = cc in
              apart-left p f.1 (ap (λ (z : ℕ × Slot). z.1.object) (sym m.2) ∙ ap (λ (q : Slot). q.object) one ∙ s.2)),
        )

    slots-kept : (y : ℕ × Slot) → IsIn y (flat_map slots_numbered t.objects.entries) → gone y.0 ≡ false → IsIn y (flat_map slots_numbered left)
    slots-kept y k other =
        let f = from_flat_map slots_numbered t.objects.entries y k in
        let p : Owned = f.0 in
        let slot_of_entry : Named → ℕ × Slot = λ c. (c.1.slot.0, record { object = p.0; name = Plain c.0 }) in
        let m = from_map slot_of_entry p.1.properties.entries y f.2 in
        let number_of_entry : Named → ℕ = λ c. c.1.slot.0 in
        IsIn-flat_map slots_numbered left p y
        (others-left owner t.objects.entries x p (sym told) f.1 (λ it.
        let there : IsIn y.0 (map number_of_entry p.1.properties.entries) = subst (λ (n : ℕ). IsIn n (map number_of_entry p.1.properties.entries)) (ap (λ (z : ℕ × Slot). z.0) (sym m.2)) (IsIn-map number_of_entry p.1.properties.entries m.0 m.1) in
        let mine : IsIn y.0 numbers = subst (λ (e : ObjectEntry). IsIn y.0 (map number_of_entry e.properties.entries)) it there in
        false≢true (sym other ∙ any-of y.0 numbers mine)))
        f.2

    module _ (u : Inside) (reached : HoldsReached u) (objects : u.objects.entries ≡ left) (unique : IsUnique (pointwise nat_eq) u.objects)
        (names : (m : ℕ) → at_number u.object_names.items m ≡ cond (nat_eq m number) None (at_number t.object_names.items m)) (same_names : length u.object_names.items ≡ length t.object_names.items)
        (keys : (m : ℕ) → at_number u.slot_keys.items m ≡ freed_at numbers m (at_number t.slot_keys.items m)) (same_keys : length u.slot_keys.items ≡ length t.slot_keys.items)
        (next_object : u.free_object ≡ min t.free_object number) (next_slot : (m : ℕ) → m < u.free_slot → IsSome (at_number u.slot_keys.items m))
        (taken : u.by_label.items ≡ filter (λ (id : ObjectId). not (nat_eq id.0 number)) t.by_label.items) where
      keys-freed : (m : ℕ) → at_number (slots_of_keys u.slot_keys.items) m ≡ cond (gone m) None (at_number before_slots m)
      keys-freed = slots-freed t.slot_keys.items u.slot_keys.items gone keys

      used-mapped : (m : ℕ) (k : Option SlotKey) → at_number u.slot_keys.items m ≡ k → IsSome k → IsSome (at_number (slots_of_keys u.slot_keys.items) m)
      used-mapped m None e h = absurd (false≢true h)
      used-mapped m (Some k) e h = ap is_some (at_number-map slot_of_key u.slot_keys.items m ∙ ap (option_map slot_of_key) e)

      document-left : document_held u.objects.entries ≡ without_object (document_held t.objects.entries) owner
      document-left =
          ap document_held objects
          ∙ (λ j. record { objects = left-filtered owner object_held (λ (q : Object). q.name) (λ e. refl) t.objects.entries held.distinct j; attributes = []; before = []; between = []; after = [] })

      pub object-removed : IsHeld u
      object-removed =
          let es = t.objects.entries in
          let map-key : Option SlotKey → Option Slot = option_map slot_of_key in
          record {
            distinct = unique;
            objects = subst (AllByRecursion IsObjectHeld) (sym objects) (left-all owner IsObjectHeld es held.objects);
            few_objects = omega (arith, ap length objects, left-length owner es, held.few_objects);
            few_slots = omega (arith, ap (sum_by (λ (p : Owned). length p.1.properties.entries)) objects, left-sum owner (λ (p : Owned). length p.1.properties.entries) es, held.few_slots);
            object_numbers =
                subst (λ (l : List Owned). IsTable u.object_names.items (map object_numbered l)) (sym objects)
                (table-less t.object_names.items u.object_names.items (λ m. nat_eq m number) names (map object_numbered es) (map object_numbered left) held.object_numbers names-into names-kept);
            slot_numbers =
                subst (λ (l : List Owned). IsTable (slots_of_keys u.slot_keys.items) (flat_map slots_numbered l)) (sym objects)
                (table-less before_slots (slots_of_keys u.slot_keys.items) gone keys-freed (flat_map slots_numbered es) (flat_map slots_numbered left) held.slot_numbers slots-into slots-kept);
            labels =
                subst (λ (l : List Owned). AreByLabel u.by_label.items (map labelled l)) (sym objects)
                (subst (λ (ids : List ObjectId). AreByLabel ids (map labelled left)) (sym taken) (labels-left t held number owner name-here x told number-is));
            object_room =
                subst (HasRoom u.object_names.items) (sym next_object)
                (room-less t.object_names.items u.object_names.items (λ m. nat_eq m number) names t.free_object (min t.free_object number) held.object_room
                (λ m k. omega arith) (λ m k. nat_eq-below m number (omega arith)) same_names);
            slot_room = record {
              used = λ m k. used-mapped m (at_number u.slot_keys.items m) refl (next_slot m k);
              few = subst (λ (n : ℕ). n < 2 ^ 32) (sym (length-map u.slot_keys.items map-key ∙ same_keys ∙ sym (length-map t.slot_keys.items map-key))) held.slot_room.few;
            };
            form = subst IsWellFormed (sym document-left) (IsWellFormed-without_object (document_held t.objects.entries) owner held.form);
            reached = reached;
          }

      pub object-leads : (q : List ℕ) → name_at v number ≡ Some q → LeadsTo v (numbered_held u) (without_object v.document q)
      object-leads q named =
          let own : owner ≡ q = let both : Some owner ≡ Some q = live ∙ named in cc in
          record {
            document = document-left ∙ (λ j. without_object (ap (λ (w : Numbered). w.document) is j) (own j));
            numbers =
                subst (λ (w : Numbered). Keeps w (numbered_held u)) is
                (shrunk-keeps t u held object-removed
                (λ n other h. freed-shrinks (nat_eq n number) (at_number t.object_names.items n) other (sym (names n) ∙ h))
                (λ n s h. freed-shrinks (gone n) (at_number before_slots n) s (sym (keys-freed n) ∙ h)));
          }
