-- What tables show after a change.
use Rattle.std.proofs.Common.{◌≡◌, ◌≢◌, ◌+◌, ◌^◌, ◌<◌, ◌≤◌, ℕ, Bool, true, false, not, cond, ◌||◌, nat_eq, List, [], ◌∷◌, ◌++◌, map, length, position, slice_get, sum_by, Option, Some, None, IfSome, IsSome, IsTrue, is_some, refl, sym, ap, subst, ◌∙◌, arith}
use Rattle.std.specs.Cmp.Lexicographic.{pointwise}
use Rattle.std.specs.List.{find, flat_map, list_any}
use Rattle.std.specs.Map.{keys_of, lookup}
use Rattle.std.specs.Option.{option_and_then, option_map, option_map_or}
use Rattle.std.proofs.lemmas.Bool.{false≢true}
use Rattle.std.proofs.lemmas.List.{length-map, map-append}
use Rattle.std.proofs.lemmas.List.Concat.{length-flat_map}
use Rattle.std.proofs.lemmas.Option.{slice_get-map}
use Rattle.std.proofs.lemmas.Simd.{map-map}
use Rattle.fc_base.specs.Texts.{is_label, is_name}
use Rattle.fc_base.specs.declared.ids.ObjectId.{ObjectId}
use Rattle.indexmap.specs.IndexMap.{get}
use Rattle.object_paths.specs.declared.slot_name.SlotName.TheVariants.{Plain}
use Rattle.object_paths.specs.Slots.{Slot, same_text}
use Rattle.property_types.specs.declared.prop_type.PropType.TheVariants as prop
use Rattle.property_types.specs.Types.{zero_value}
use Rattle.document_model.specs.declared.content.Content.{Content}
use Rattle.document_model.specs.declared.content.Content.TheVariants.{Own}
use Rattle.document_model.specs.declared.kind.ObjectKind.TheVariants.{VarSet}
use Rattle.document_model.specs.Document.{Document, Object, Property, object_named}
use Rattle.document_model.specs.Kinds.{is_dynamic_name}
use Rattle.document_model.specs.WellFormed.{IsWellFormed, is_added_type}
use Rattle.document_model.specs.Edited.{new_object, new_property, with_content, with_object, with_property}
use Rattle.document_model.specs.Slots.{slots, type_of}
use Rattle.doc_tables.specs.declared.entry.ObjectEntry.{ObjectEntry}
use Rattle.doc_tables.specs.declared.entry.PropertyEntry.{PropertyEntry}
use Rattle.doc_tables.specs.declared.entry.SlotKey.{SlotKey}
use Rattle.doc_tables.specs.declared.entry.SlotPlace.{SlotPlace}
use Rattle.doc_tables.specs.declared.tables.Tables.TheInside.{Inside}
use Rattle.doc_tables.specs.Entries.{HasFewReferences}
use Rattle.doc_tables.specs.Held.{property_held, object_held, object_numbered, slot_of_key, slots_of_keys, document_held, entry_at, place_of_key, numbered_held, HoldsReached, IsHeld}
use Rattle.doc_tables.specs.Labels.{AreByLabel}
use Rattle.doc_tables.specs.Numbered.{Numbered, LeadsTo, at_number, name_at, object_at, slot_at}
use Rattle.doc_tables.specs.Primitives.{IsContentAt, lacks_property}
use Rattle.doc_tables.specs.Shown.{Shown, shown, change_at, with_entry, object_with}
use Rattle.doc_tables.specs.Table.{HasRoom, IsTable}
use Rattle.doc_tables.proofs.ChangeLemmas.{one_more, more-entries, more-document, more-numbers, more-slots, one_filled, filled-entries, filled-document, filled-numbers, slots-filled, one_written, written-entries, written-document, written-numbers, written-slots}
use Rattle.doc_tables.proofs.ChangeLists.{map-change}
use Rattle.doc_tables.proofs.CountLemmas.{slots-counted, sum_by-map, sum_by-same}
use Rattle.doc_tables.proofs.Finding.{find-map, find-same, lookup-find, placed-key, same_text-sym}
use Rattle.doc_tables.proofs.HeldBy.{document-shown, document-of, entries-shown, labelled_by, labels-shown, names-shown, number_by, slots_by, slots-shown, still-held}
use Rattle.doc_tables.proofs.HeldLemmas.{KeyAt, Named, Owned, Owns, key-at, key-place, object-found, one_slot, owner-looked, owns-held, slot_named, used-read, entry-held}
use Rattle.doc_tables.proofs.TableLemmas.{apart, at_number-map, grown-into, grown-kept, grown-new, pushed-into, pushed-new, room-more, table-count, table-more, used-within}
use Rattle.document_model.proofs.FormLemmas.{IsObject-new_object, IsProperty-new_property, IsWellFormed-with_object, IsWellFormed-with_property}
use Rattle.document_model.proofs.Members.{IsIn-left}
use Rattle.document_model.proofs.TypedContents.{IsWellFormed-with_typed_content}

-- no object of a name
none-found : (es : List Owned) (name : List ℕ) → find (λ (o : Owned). same_text o.0 name) es ≡ None → list_any (pointwise nat_eq name) (map (λ (o : Shown). o.0) (map shown es)) ≡ false
none-found [] name h = refl
none-found (e ∷ es) name h =
    elim (same_text e.0 name) as (λ b. same_text e.0 name ≡ b → cond b (Some e) (find (λ (o : Owned). same_text o.0 name) es) ≡ None → list_any (pointwise nat_eq name) (e.0 ∷ map (λ (o : Shown). o.0) (map shown es)) ≡ false) [
      | true ↦ λ g k. absurd (cc)
      | false ↦ λ g k. (λ j. (same_text-sym name e.0 ∙ g) j || none-found es name k j)
    ] refl h

unnamed : (o : Option Owned) → option_map object_held o ≡ None → o ≡ None
unnamed None h = refl
unnamed (Some o) h = absurd (cc)

-- no property of a name
pub any-name : (es : List Named) (name : List ℕ) → list_any (λ (p : Property). same_text p.name name) (map property_held es) ≡ list_any (pointwise nat_eq name) (keys_of es)
any-name [] name = refl
any-name (e ∷ es) name = λ j. same_text-sym e.0 name j || any-name es name j

pub not-true : (b : Bool) → not b ≡ true → b ≡ false
not-true true h = absurd (false≢true h)
not-true false h = refl

none-lookup : {K X : Type 0} (p : K → Bool) (es : List (K × X)) → list_any p (keys_of es) ≡ false → lookup p es ≡ None
none-lookup p [] h = refl
none-lookup {K} {X} p (e ∷ es) h =
    elim (p e.0) as (λ b. (b || list_any p (keys_of es)) ≡ false → cond b (Some e.1) (lookup p es) ≡ None) [
      | true ↦ λ g. absurd (false≢true (sym g))
      | false ↦ λ g. none-lookup p es g
    ] h

-- a property with zero in it is new
pub fresh : (name : List ℕ) (entry : PropertyEntry) → entry.prop ≢ prop.Placement → entry.content ≡ Own (zero_value entry.prop) → property_held (name, entry) ≡ new_property name entry.prop
fresh name entry one zero = λ j. record (new_property name entry.prop) {
  contents = (ap (λ (c : Content). c ∷ []) zero ∙ sym (ap (map (λ slot. Own (zero_value slot.1))) (one_slot name entry.prop one))) j;
}

-- an object without properties behind the others
pub shown-added : (es us : List Owned) (name : List ℕ) (entry : ObjectEntry) → us ≡ es ++ (name, entry) ∷ [] → entry.properties.entries ≡ [] → map shown us ≡ map shown es ++ (name, entry.label, [], entry.number.0) ∷ []
shown-added es us name entry added empty =
    ap (map shown) added ∙ map-append shown es ((name, entry) ∷ []) ∙ ap (λ (l : List Named). map shown es ++ (name, entry.label, l, entry.number.0) ∷ []) empty

-- ---- numbers that are free
module _ (v : Numbered) (t : Inside) (held : IsHeld t) (is : numbered_held t ≡ v) where
  pub names-are : (n : ℕ) → at_number t.object_names.items n ≡ name_at v n
  names-are n = ap (λ (w : Numbered). name_at w n) is

  keys-are : (n : ℕ) → option_map slot_of_key (at_number t.slot_keys.items n) ≡ slot_at v n
  keys-are n = sym (at_number-map slot_of_key t.slot_keys.items n) ∙ ap (λ (w : Numbered). slot_at w n) is

  pub name-free : (n : ℕ) → at_number t.object_names.items n ≡ None → name_at v n ≡ None
  name-free n free = sym (names-are n) ∙ free

  pub name-seen : (n : ℕ) → IsSome (at_number t.object_names.items n) → IsSome (name_at v n)
  name-seen n used = ap is_some (sym (names-are n)) ∙ used

  -- where a key is free, or in use, its slot is
  pub key-free : (n : ℕ) → at_number t.slot_keys.items n ≡ None → slot_at v n ≡ None
  key-free n free = sym (keys-are n) ∙ ap (option_map slot_of_key) free

  pub slot-used : (n : ℕ) → IsSome (at_number t.slot_keys.items n) → IsSome (slot_at v n)
  slot-used n used = sym (used-read v t held is n) ∙ used

  pub keys-used : (n : ℕ) → n < t.free_slot → IsSome (at_number t.slot_keys.items n)
  keys-used n below = used-read (numbered_held t) t held refl n ∙ held.slot_room.used n below

  pub names-within : (n : ℕ) → ((m : ℕ) → m < n → IsSome (name_at v m)) → n ≤ length t.object_names.items
  names-within n used = used-within t.object_names.items n (λ m k. ap is_some (names-are m) ∙ used m k)

  pub keys-within : (n : ℕ) → ((m : ℕ) → m < n → IsSome (slot_at v m)) → n ≤ length t.slot_keys.items
  keys-within n used = used-within t.slot_keys.items n (λ m k. used-read v t held is m ∙ used m k)

  pub keys-few : length t.slot_keys.items < 2 ^ 32
  keys-few = let map-key : Option SlotKey → Option Slot = option_map slot_of_key in subst (λ (n : ℕ). n < 2 ^ 32) (length-map t.slot_keys.items map-key) held.slot_room.few

  pub few-names : length v.document.objects + 1 < 2 ^ 32 → (n : ℕ) → ((m : ℕ) → m < n → IsSome (at_number t.object_names.items m)) → n + 1 < 2 ^ 32
  few-names few n used =
      let most : n ≤ length (map object_numbered t.objects.entries) = table-count t.object_names.items (map object_numbered t.objects.entries) held.object_numbers n used in
      let count : length (map object_held t.objects.entries) ≡ length v.document.objects = ap (λ (w : Numbered). length w.document.objects) is in
      omega (arith, length-map t.objects.entries object_numbered, length-map t.objects.entries object_held)

  pub few-keys : length (slots v.document) + 1 < 2 ^ 32 → (n : ℕ) → ((m : ℕ) → m < n → IsSome (slot_at v m)) → n + 1 < 2 ^ 32
  few-keys few n used =
      let os = map shown t.objects.entries in
      let most : n ≤ length (flat_map slots_by os) =
      table-count (slots_of_keys t.slot_keys.items) (flat_map slots_by os) (slots-shown t held) n (λ m k. ap (λ (w : Numbered). is_some (slot_at w m)) is ∙ used m k)
      in
      omega (arith, length-slots os, sum_by-map (λ (o : Shown). length o.2) shown t.objects.entries, slots-counted v t held is)
    where
      length-slots : (os : List Shown) → length (flat_map slots_by os) ≡ sum_by (λ (o : Shown). length o.2) os
      length-slots os = length-flat_map slots_by os ∙ sum_by-same (λ (o : Shown). length (slots_by o)) (λ (o : Shown). length o.2) os (λ o. let f : Named → ℕ × Slot = λ e. (e.1.slot.0, record { object = o.0; name = Plain e.0 }) in length-map o.2 f)

-- the document that is shown is one of the product
pub form-seen : (v : Numbered) (t : Inside) → IsHeld t → numbered_held t ≡ v → IsWellFormed v.document
form-seen v t held is = subst IsWellFormed (ap (λ (w : Numbered). w.document) is) held.form

-- ---- one more object
module _ (v : Numbered) (t : Inside) (held : IsHeld t) (is : numbered_held t ≡ v) where
  not-found : (name : List ℕ) → object_named v.document name ≡ None → find (λ (o : Owned). same_text o.0 name) t.objects.entries ≡ None
  not-found name h =
      unnamed (find (λ (o : Owned). same_text o.0 name) t.objects.entries)
      (sym (find-map object_held (λ q. same_text q.name name) t.objects.entries) ∙ ap (λ (w : Numbered). object_named w.document name) is ∙ h)

  pub not-got : (name : List ℕ) → object_named v.document name ≡ None → get (pointwise nat_eq) t.objects name ≡ None
  not-got name h =
      lookup-find (pointwise nat_eq name) t.objects.entries
      ∙ ap (option_map (λ (o : Owned). o.1)) (find-same (λ (o : Owned). pointwise nat_eq name o.0) (λ (o : Owned). same_text o.0 name) t.objects.entries (λ o. same_text-sym name o.0) ∙ not-found name h)

  -- the same document with the same numbers
  module _ (u : Inside) (objects : map shown u.objects.entries ≡ map shown t.objects.entries) (names : u.object_names.items ≡ t.object_names.items) (keys : u.slot_keys.items ≡ t.slot_keys.items)
      (next_object : u.free_object ≡ t.free_object) (next_slot : u.free_slot ≡ t.free_slot) (numbers : u.by_label.items ≡ t.by_label.items) where
    pub kept-held : HoldsReached u → IsHeld u
    kept-held reached =
        let os = map shown t.objects.entries in
        still-held u os objects (entries-shown t held)
        (subst (λ (l : List (Option (List ℕ))). IsTable l (map number_by os)) (sym names) (names-shown t held))
        (subst (λ (l : List (Option SlotKey)). IsTable (slots_of_keys l) (flat_map slots_by os)) (sym keys) (slots-shown t held))
        (subst (λ (ids : List ObjectId). AreByLabel ids (map labelled_by os)) (sym numbers) (labels-shown t held))
        (subst (HasRoom u.object_names.items) (sym next_object) (subst (λ (l : List (Option (List ℕ))). HasRoom l t.free_object) (sym names) held.object_room))
        (subst (HasRoom (slots_of_keys u.slot_keys.items)) (sym next_slot) (subst (λ (l : List (Option SlotKey)). HasRoom (slots_of_keys l) t.free_slot) (sym keys) held.slot_room))
        (subst IsWellFormed (sym (document-of u os objects ∙ sym (document-shown t.objects.entries))) held.form)
        reached

    pub kept-view : numbered_held u ≡ v
    kept-view =
        (λ j. record { document = (document-of u (map shown t.objects.entries) objects ∙ sym (document-shown t.objects.entries)) j; objects = names j; slots = slots_of_keys (keys j) })
        ∙ is

  module _ (u : Inside) (name label : List ℕ) (n : ℕ) (objects : map shown u.objects.entries ≡ one_more (map shown t.objects.entries) name label n) (new : object_named v.document name ≡ None)
      (free : name_at v n ≡ None) (used : (m : ℕ) → m < n → IsSome (name_at v m)) (here : at_number u.object_names.items n ≡ Some name)
      (others : (m : ℕ) → m ≢ n → at_number u.object_names.items m ≡ at_number t.object_names.items m) (keys : u.slot_keys.items ≡ t.slot_keys.items) where
    free-name : at_number t.object_names.items n ≡ None
    free-name = names-are v t held is n ∙ free

    pub added-leads : LeadsTo v (numbered_held u) (with_object v.document (new_object name label VarSet))
    added-leads =
        let os = map shown t.objects.entries in
        record {
          document =
              document-of u (one_more os name label n) objects ∙ more-document os name label n
              ∙ ap (λ (d : Document). with_object d (new_object name label VarSet)) (sym (document-shown t.objects.entries) ∙ ap (λ (w : Numbered). w.document) is);
          numbers = record {
            objects = λ m other h k.
                let was : at_number t.object_names.items m ≡ Some other = names-are v t held is m ∙ h in
                others m (apart t.object_names.items m n other was free-name) ∙ was;
            slots = λ m s h k. ap (λ (l : List (Option SlotKey)). at_number (slots_of_keys l) m) keys ∙ ap (λ (w : Numbered). slot_at w m) is ∙ h;
          };
        }

    pub added-held : length v.document.objects + 1 < 2 ^ 32 → length u.object_names.items < 2 ^ 32 → u.free_object ≡ n + 1 → u.free_slot ≡ t.free_slot
        → IsTrue (is_name name) → IsTrue (is_label label) → AreByLabel u.by_label.items (map labelled_by (one_more (map shown t.objects.entries) name label n)) → HoldsReached u → IsHeld u
    added-held few small next_object next_slot named labelled labels reached =
        let os = map shown t.objects.entries in
        let count : length (map object_held t.objects.entries) ≡ length v.document.objects = ap (λ (w : Numbered). length w.document.objects) is in
        still-held u (one_more os name label n) objects
        (more-entries os name label n (entries-shown t held) (none-found t.objects.entries name (not-found name new)) (omega (arith, length-map t.objects.entries object_held, length-map t.objects.entries shown)))
        (subst (IsTable u.object_names.items) (sym (more-numbers os name label n))
        (table-more t.object_names.items (map number_by os) (names-shown t held) u.object_names.items (map number_by os ++ (n, name) ∷ []) n name free-name here others
        (λ x i. pushed-into (map number_by os) (n, name) x i) (λ x i. IsIn-left (map number_by os) ((n, name) ∷ []) x i) (pushed-new (map number_by os) (n, name))))
        (subst (IsTable (slots_of_keys u.slot_keys.items)) (sym (more-slots os name label n))
        (subst (λ (l : List (Option SlotKey)). IsTable (slots_of_keys l) (flat_map slots_by os)) (sym keys) (slots-shown t held)))
        labels
        (subst (HasRoom u.object_names.items) (sym next_object)
        (room-more t.object_names.items u.object_names.items n name (λ m k. ap is_some (names-are v t held is m) ∙ used m k) here others small))
        (subst (HasRoom (slots_of_keys u.slot_keys.items)) (sym next_slot) (subst (λ (l : List (Option SlotKey)). HasRoom (slots_of_keys l) t.free_slot) (sym keys) held.slot_room))
        (subst IsWellFormed (sym added-leads.document)
        (IsWellFormed-with_object v.document (new_object name label VarSet) (form-seen v t held is) (IsObject-new_object name label VarSet named labelled tt) new))
        reached

-- ---- one more property
module _ (v : Numbered) (t : Inside) (held : IsHeld t) (is : numbered_held t ≡ v) (number : ℕ) (owner : List ℕ) (live : Some owner ≡ name_at v number) where
  owned : Owns t.objects.entries number owner
  owned = owns-held t held number owner (names-are v t held is number ∙ sym live)

  -- the object of the number is there
  pub object-there : IsSome (lookup (pointwise nat_eq owner) t.objects.entries)
  object-there = ap is_some (owner-looked t held number owner owned)

  module _ (i : ℕ) (placed : position (pointwise nat_eq owner) (keys_of t.objects.entries) ≡ Some i) where
    pub found : (o : Owned) × (slice_get t.objects.entries i ≡ Some o) × (o.0 ≡ owner)
    found = placed-key t.objects.entries owner i placed

    abbrev pub o : Owned
    o = found.0

    pub found-object : object_at v number ≡ Some (object_held o)
    found-object =
        subst (λ (w : Numbered). object_at w number ≡ Some (object_held o)) is
        (ap (option_and_then (object_named (document_held t.objects.entries))) (names-are v t held is number ∙ sym live ∙ ap Some (sym found.2))
        ∙ object-found t held i o found.1)

    pub shown-at : slice_get (map shown t.objects.entries) i ≡ Some (shown o)
    shown-at = slice_get-map shown t.objects.entries i ∙ ap (option_map shown) found.1

    module _ (name : List ℕ) (lacks : IsTrue (lacks_property v number name)) where
      no-name : list_any (pointwise nat_eq name) (keys_of o.1.properties.entries) ≡ false
      no-name =
          sym (any-name o.1.properties.entries name)
          ∙ not-true (list_any (λ (p : Property). same_text p.name name) (map property_held o.1.properties.entries))
          (sym (ap (λ (q : Option Object). option_map_or (λ (x : Object). not (list_any (λ (p : Property). same_text p.name name) x.dynamics)) q true) found-object) ∙ lacks)

      pub name-lacks : IfSome (slice_get t.objects.entries i) (λ (x : Owned). get (pointwise nat_eq) x.1.properties name ≡ None)
      name-lacks =
          subst (λ (r : Option Owned). IfSome r (λ (x : Owned). get (pointwise nat_eq) x.1.properties name ≡ None)) (sym found.1)
          (none-lookup (pointwise nat_eq name) o.1.properties.entries no-name)

      module _ (u : Inside) (entry : PropertyEntry) (objects : map shown u.objects.entries ≡ one_filled (map shown t.objects.entries) i (shown o) name entry)
          (one : entry.prop ≢ prop.Placement) (zero : entry.content ≡ Own (zero_value entry.prop)) (names : u.object_names.items ≡ t.object_names.items)
          (free : slot_at v entry.slot.0 ≡ None) (here : at_number u.slot_keys.items entry.slot.0 ≡ Some (record { object = owner; property = name }))
          (others : (m : ℕ) → m ≢ entry.slot.0 → at_number u.slot_keys.items m ≡ at_number t.slot_keys.items m) where
        abbrev os : List Shown
        os = map shown t.objects.entries

        abbrev slot : Slot
        slot = record { object = o.0; name = Plain name }

        abbrev before : List (Option Slot)
        before = slots_of_keys t.slot_keys.items

        abbrev after : List (Option Slot)
        after = slots_of_keys u.slot_keys.items

        free-slot : at_number before entry.slot.0 ≡ None
        free-slot = ap (λ (w : Numbered). slot_at w entry.slot.0) is ∙ free

        slot-here : at_number after entry.slot.0 ≡ Some slot
        slot-here =
            at_number-map slot_of_key u.slot_keys.items entry.slot.0 ∙ ap (option_map slot_of_key) here
            ∙ (λ j. Some (record { object = sym found.2 j; name = Plain name }))

        other-slots : (m : ℕ) → m ≢ entry.slot.0 → at_number after m ≡ at_number before m
        other-slots m other =
            at_number-map slot_of_key u.slot_keys.items m ∙ ap (option_map slot_of_key) (others m other) ∙ sym (at_number-map slot_of_key t.slot_keys.items m)

        slots-more : IsTable after (flat_map slots_by (one_filled os i (shown o) name entry))
        slots-more =
            let grown = slots-filled os i (shown o) name entry in
            table-more before (flat_map slots_by os) (slots-shown t held) after (flat_map slots_by (one_filled os i (shown o) name entry)) entry.slot.0 slot free-slot slot-here other-slots
            (grown-into slots_by (with_entry (name, entry)) (entry.slot.0, slot) i os (shown o) shown-at grown)
            (grown-kept slots_by (with_entry (name, entry)) (entry.slot.0, slot) i os (shown o) shown-at grown)
            (grown-new slots_by (with_entry (name, entry)) (entry.slot.0, slot) i os (shown o) shown-at grown)

        few-references : HasFewReferences entry.content
        few-references = subst HasFewReferences (sym zero) tt

        pub filled-leads : (q : List ℕ) → name_at v number ≡ Some q → LeadsTo v (numbered_held u) (with_property v.document q (new_property name entry.prop))
        filled-leads q named =
            let own : o.0 ≡ q = found.2 ∙ (let both : Some owner ≡ Some q = live ∙ named in cc) in
            record {
              document =
                  document-of u (one_filled os i (shown o) name entry) objects
                  ∙ filled-document os i (shown o) name entry shown-at (entries-shown t held) (fresh name entry one zero)
                  ∙ (λ j. with_property ((sym (document-shown t.objects.entries) ∙ ap (λ (w : Numbered). w.document) is) j) (own j) (new_property name entry.prop));
              numbers = record {
                objects = λ m other h k. ap (λ (l : List (Option (List ℕ))). at_number l m) names ∙ names-are v t held is m ∙ h;
                slots = λ m s h k.
                    let was : at_number before m ≡ Some s = ap (λ (w : Numbered). slot_at w m) is ∙ h in
                    other-slots m (apart before m entry.slot.0 s was free-slot) ∙ was;
              };
            }

        pub filled-held : ((m : ℕ) → m < entry.slot.0 → IsSome (slot_at v m)) → length (slots v.document) + 1 < 2 ^ 32 → length u.slot_keys.items < 2 ^ 32 → u.free_object ≡ t.free_object → u.free_slot ≡ entry.slot.0 + 1
            → IsTrue (is_dynamic_name VarSet name) → IsTrue (is_added_type entry.prop) → u.by_label.items ≡ t.by_label.items → HoldsReached u → IsHeld u
        filled-held used few small next_object next_slot named added numbers reached =
            still-held u (one_filled os i (shown o) name entry) objects
            (filled-entries os i (shown o) name entry shown-at (entries-shown t held) (record { one_slot = one; references = few-references }) no-name
            (omega (arith, slots-counted v t held is, sum_by-map (λ (x : Shown). length x.2) shown t.objects.entries)))
            (subst (IsTable u.object_names.items) (sym (filled-numbers os i (shown o) name entry))
            (subst (λ (l : List (Option (List ℕ))). IsTable l (map number_by os)) (sym names) (names-shown t held)))
            slots-more
            (subst (AreByLabel u.by_label.items) (sym (map-change labelled_by (with_entry (name, entry)) (λ x. refl) i os))
            (subst (λ (ids : List ObjectId). AreByLabel ids (map labelled_by os)) (sym numbers) (labels-shown t held)))
            (subst (HasRoom u.object_names.items) (sym next_object) (subst (λ (l : List (Option (List ℕ))). HasRoom l t.free_object) (sym names) held.object_room))
            (subst (HasRoom after) (sym next_slot)
            (room-more before after entry.slot.0 slot (λ m k. ap (λ (w : Numbered). is_some (slot_at w m)) is ∙ used m k) slot-here other-slots
            (let map-key : Option SlotKey → Option Slot = option_map slot_of_key in omega (arith, length-map u.slot_keys.items map-key))))
            (subst IsWellFormed (sym (filled-leads owner (sym live)).document)
            (IsWellFormed-with_property v.document owner (object_held o) (new_property name entry.prop) (form-seen v t held is) (ap (option_and_then (object_named v.document)) live ∙ found-object) refl
            (IsProperty-new_property VarSet name entry.prop named added)
            (ap (list_any (pointwise nat_eq name)) (map-map (λ (p : Property). p.name) property_held o.1.properties.entries) ∙ no-name)))
            reached

-- ---- another content
module _ (v : Numbered) (t : Inside) (held : IsHeld t) (is : numbered_held t ≡ v) (n : ℕ) (key : SlotKey) (h : Some key ≡ at_number t.slot_keys.items n) where
  k : KeyAt t held n key
  k = key-at t held n key (sym h)

  -- the place of a key in use is there
  pub place-there : IsSome (place_of_key t.objects.entries key)
  place-there = ap is_some (key-place t held n key k)

  module _ (p : SlotPlace) (placed : Some p ≡ place_of_key t.objects.entries key) where
    own-place : p ≡ k.at.place
    own-place = let both : Some p ≡ Some k.at.place = placed ∙ key-place t held n key k in cc

    at : slice_get t.objects.entries p.object ≡ Some k.at.owner
    at = ap (λ (q : SlotPlace). slice_get t.objects.entries q.object) own-place ∙ k.at.stands.object

    there : slice_get k.at.owner.1.properties.entries p.property ≡ Some k.at.entry
    there = ap (λ (q : SlotPlace). slice_get k.at.owner.1.properties.entries q.property) own-place ∙ k.at.stands.property

    -- and an entry stands at it
    pub entry-placed : IsSome (entry_at t.objects.entries p)
    entry-placed =
        ap is_some
        (ap (option_and_then (λ (o : Owned). option_map (λ (e : Named). (o.0, e)) (slice_get o.1.properties.entries p.property))) at
        ∙ ap (option_map (λ (e : Named). (k.at.owner.0, e))) there)

    module _ (new : Content) (u : Inside) (objects : map shown u.objects.entries ≡ change_at (object_with new p.property) p.object (map shown t.objects.entries))
        (names : u.object_names.items ≡ t.object_names.items) (keys : u.slot_keys.items ≡ t.slot_keys.items) where
      pub written-leads : (s : Slot) → slot_at v n ≡ Some s → LeadsTo v (numbered_held u) (with_content v.document s new)
      written-leads s found =
          let os : List Shown = map shown t.objects.entries in
          let o : Shown = shown k.at.owner in
          let e : Named = k.at.entry in
          let own : slot_named k.at.owner k.at.entry ≡ s = let both : Some (slot_named k.at.owner k.at.entry) ≡ Some s = sym k.at.found ∙ ap (λ (w : Numbered). slot_at w n) is ∙ found in cc in
          record {
            document =
                document-of u (one_written os p.object p.property o e new) objects
                ∙ written-document os p.object p.property o e new (slice_get-map shown t.objects.entries p.object ∙ ap (option_map shown) at) there (entries-shown t held)
                ∙ (λ j. with_content ((sym (document-shown t.objects.entries) ∙ ap (λ (w : Numbered). w.document) is) j) (own j) new);
            numbers = record {
              objects = λ m other a b. ap (λ (l : List (Option (List ℕ))). at_number l m) names ∙ names-are v t held is m ∙ a;
              slots = λ m q a b. ap (λ (l : List (Option SlotKey)). at_number (slots_of_keys l) m) keys ∙ ap (λ (w : Numbered). slot_at w m) is ∙ a;
            };
          }

      -- the slot of the number, and its type
      abbrev own-slot : Slot
      own-slot = slot_named k.at.owner k.at.entry

      own-found : slot_at v n ≡ Some own-slot
      own-found = sym (ap (λ (w : Numbered). slot_at w n) is) ∙ k.at.found

      own-type : option_and_then (type_of v.document) (slot_at v n) ≡ Some k.at.entry.1.prop
      own-type = subst (λ (w : Numbered). option_and_then (type_of w.document) (slot_at w n) ≡ Some k.at.entry.1.prop) is (entry-held t held n k.at).type

      pub written-held : HasFewReferences new → u.free_object ≡ t.free_object → u.free_slot ≡ t.free_slot → IsContentAt v n new → u.by_label.items ≡ t.by_label.items → HoldsReached u → IsHeld u
      written-held few next_object next_slot fits numbers reached =
          let os : List Shown = map shown t.objects.entries in
          let o : Shown = shown k.at.owner in
          let e : Named = k.at.entry in
          still-held u (one_written os p.object p.property o e new) objects
          (written-entries os p.object p.property o e new (entries-shown t held) few)
          (subst (IsTable u.object_names.items) (sym (written-numbers os p.object p.property o e new))
          (subst (λ (l : List (Option (List ℕ))). IsTable l (map number_by os)) (sym names) (names-shown t held)))
          (subst (IsTable (slots_of_keys u.slot_keys.items)) (sym (written-slots os p.object p.property o e new))
          (subst (λ (l : List (Option SlotKey)). IsTable (slots_of_keys l) (flat_map slots_by os)) (sym keys) (slots-shown t held)))
          (subst (AreByLabel u.by_label.items) (sym (map-change labelled_by (object_with new p.property) (λ x. refl) p.object os))
          (subst (λ (ids : List ObjectId). AreByLabel ids (map labelled_by os)) (sym numbers) (labels-shown t held)))
          (subst (HasRoom u.object_names.items) (sym next_object) (subst (λ (l : List (Option (List ℕ))). HasRoom l t.free_object) (sym names) held.object_room))
          (subst (HasRoom (slots_of_keys u.slot_keys.items)) (sym next_slot) (subst (λ (l : List (Option SlotKey)). HasRoom (slots_of_keys l) t.free_slot) (sym keys) held.slot_room))
          (subst IsWellFormed (sym (written-leads own-slot own-found).document)
          (IsWellFormed-with_typed_content v.document own-slot k.at.entry.1.prop new (form-seen v t held is)
          (sym (ap (option_and_then (type_of v.document)) own-found) ∙ own-type) (fits k.at.entry.1.prop own-type)))
          reached
