-- What is held is the document: its rows are the properties, and its slots are found by name.
use Rattle.std.proofs.Common.{◌≡◌, ◌≢◌, ◌<◌, ℕ, zero, suc, nat_eq, List, [], ◌∷◌, ◌++◌, map, length, position, Option, Some, None, IsSome, is_some, slice_get, inl, inr, refl, sym, ap, subst, ◌∙◌, arith}
use Rattle.std.specs.Cmp.Lexicographic.{pointwise}
use Rattle.std.specs.List.{flat_map, AllByRecursion}
use Rattle.std.specs.Map.{keys_of, lookup}
use Rattle.std.specs.Option.{option_and_then, option_map}
use Rattle.std.proofs.lemmas.List.{map-append}
use Rattle.fc_base.specs.Graph.{IsIn}
use Rattle.fc_base.specs.declared.ids.SlotId.{SlotId}
use Rattle.object_paths.specs.declared.slot_name.SlotName.TheVariants.{Plain}
use Rattle.object_paths.specs.Slots.{Slot, same_text, same_slot_name}
use Rattle.property_types.specs.declared.prop_type.PropType.{PropType}
use Rattle.property_types.specs.declared.prop_type.PropType.TheVariants as prop
use Rattle.document_model.specs.Document.{Document, Object, object_named}
use Rattle.document_model.specs.Slots.{Row, rule_of_content, rows_in_order, row_with, rows, row_in, row_of, rule_of, type_of, slot_of, slots}
use Rattle.document_model.specs.TypedSlots.{property_slots}
use Rattle.document_model.proofs.Members.{from_flat_map, from_map, IsIn-flat_map, IsIn-map}
use Rattle.doc_tables.specs.declared.entry.ObjectEntry.{ObjectEntry}
use Rattle.doc_tables.specs.declared.entry.PropertyEntry.{PropertyEntry}
use Rattle.doc_tables.specs.declared.entry.SlotKey.{SlotKey}
use Rattle.doc_tables.specs.declared.entry.SlotPlace.{SlotPlace}
use Rattle.doc_tables.specs.declared.tables.Tables.TheInside.{Inside}
use Rattle.doc_tables.specs.Accessors.{AreNumbersOf}
use Rattle.doc_tables.specs.Entries.{IsEntryOf, numbers_in}
use Rattle.doc_tables.specs.Held.{property_held, object_held, object_numbered, slots_numbered, slot_of_key, document_held, place_of_key, numbered_held, IsPropertyHeld, IsObjectHeld, IsHeld}
use Rattle.doc_tables.specs.Numbered.{Numbered, at_number, name_at, slot_at}
use Rattle.doc_tables.proofs.Finding.{find-map, find-at, lookup-at, position-at}
use Rattle.doc_tables.proofs.TableLemmas.{at_number-map, some_of}

-- a property with its name, and an object with its name
abbrev pub Named : Type 0
Named = List ℕ × PropertyEntry

abbrev pub Owned : Type 0
Owned = List ℕ × ObjectEntry

-- the row of a property
abbrev pub row_held : Named → Row
row_held e = row_with (Some e.1.content) (Plain e.0, e.1.prop)

-- all types but one have one slot
pub one_slot : (name : List ℕ) (type : PropType) → type ≢ prop.Placement → property_slots name type ≡ (Plain name, type) ∷ []
one_slot name prop.Float h = refl
one_slot name prop.Integer h = refl
one_slot name prop.Percent h = refl
one_slot name prop.Bool h = refl
one_slot name prop.String h = refl
one_slot name prop.Length h = refl
one_slot name prop.Distance h = refl
one_slot name prop.Angle h = refl
one_slot name prop.Area h = refl
one_slot name prop.Volume h = refl
one_slot name prop.Mass h = refl
one_slot name prop.Time h = refl
one_slot name prop.Speed h = refl
one_slot name prop.Force h = refl
one_slot name prop.Pressure h = refl
one_slot name prop.Density h = refl
one_slot name prop.Placement h = absurd (h refl)
one_slot name prop.Turn h = refl

-- the rows of properties are one for each
pub rows_of_properties : (es : List Named) → AllByRecursion IsPropertyHeld es → flat_map (λ p. rows_in_order (property_slots p.name p.prop) p.contents) (map property_held es) ≡ map row_held es
rows_of_properties [] h = refl
rows_of_properties (e ∷ es) h = λ j. rows_in_order (one_slot e.0 e.1.prop h.0.one_slot j) (e.1.content ∷ []) ++ rows_of_properties es h.1 j

pub rows-held : (d : Document) (o : Owned) → IsObjectHeld o → rows d (object_held o) ≡ map row_held o.1.properties.entries
rows-held d o h = rows_of_properties o.1.properties.entries h.properties

-- what holds of each member holds of the one at a place
pub all_at : {A : Type 0} (P : A → Type 0) (xs : List A) (i : ℕ) (x : A) → AllByRecursion P xs → slice_get xs i ≡ Some x → P x
all_at P [] i x h at = absurd (cc)
all_at {A} P (y ∷ ys) zero x h at = subst (λ (z : A). P z) (let e : y ≡ x = cc in e) h.0
all_at P (y ∷ ys) (suc i) x h at = all_at P ys i x h.1 at

-- This property of this object stands at a place.
pub record Stands (objects : List Owned) (p : SlotPlace) (o : Owned) (e : Named) : Type 0 where
  pub object : slice_get objects p.object ≡ Some o
  pub property : slice_get o.1.properties.entries p.property ≡ Some e

-- the slot of a property of an object
abbrev pub slot_named : Owned → Named → Slot
slot_named o e = record { object = o.0; name = Plain e.0 }

-- what stands in a list stands at a place
pub place-in : {A : Type 0} (xs : List A) (x : A) → IsIn x xs → (i : ℕ) × (slice_get xs i ≡ Some x)
place-in [] x i = absurd i
place-in (y ∷ ys) x (inl e) = (0, ap Some (sym e))
place-in (y ∷ ys) x (inr i) = let m = place-in ys x i in (suc m.0, m.1)

-- what stands at a place stands in the list
pub in-at : {A : Type 0} (xs : List A) (i : ℕ) (x : A) → slice_get xs i ≡ Some x → IsIn x xs
in-at [] i x h = absurd (cc)
in-at (y ∷ ys) zero x h = inl (let same : y ≡ x = cc in sym same)
in-at (y ∷ ys) (suc i) x h = inr (in-at ys i x h)

-- This object has the number and the name.
pub record Owns (objects : List Owned) (n : ℕ) (name : List ℕ) : Type 0 where
  pub place : ℕ
  pub owner : Owned
  pub stands : slice_get objects place ≡ Some owner
  pub number : owner.1.number.0 ≡ n
  pub name_is : owner.0 ≡ name

module _ (t : Inside) (held : IsHeld t) where
  -- the object at a place is the first of its name
  pub object-found : (i : ℕ) (o : Owned) → slice_get t.objects.entries i ≡ Some o → object_named (document_held t.objects.entries) o.0 ≡ Some (object_held o)
  object-found i o at =
      find-map object_held (λ q. same_text q.name o.0) t.objects.entries
      ∙ ap (option_map object_held) (find-at (λ (x : Owned). x.0) t.objects.entries i o held.distinct at)

  module _ (p : SlotPlace) (o : Owned) (e : Named) (stands : Stands t.objects.entries p o e) where
    pub slot_at-stands : slot_at (numbered_held t) e.1.slot.0 ≡ Some (slot_named o e)
    slot_at-stands =
        held.slot_numbers.there e.1.slot.0 (slot_named o e)
        (IsIn-flat_map slots_numbered t.objects.entries o (e.1.slot.0, slot_named o e) (in-at t.objects.entries p.object o stands.object)
        (IsIn-map (λ (x : Named). (x.1.slot.0, slot_named o x)) o.1.properties.entries e (in-at o.1.properties.entries p.property e stands.property)))

    pub object-held : IsObjectHeld o
    object-held = all_at IsObjectHeld t.objects.entries p.object o held.objects stands.object

    pub property-held : IsPropertyHeld e
    property-held = all_at IsPropertyHeld o.1.properties.entries p.property e object-held.properties stands.property

    pub row-stands : row_of (document_held t.objects.entries) (slot_named o e) ≡ Some (row_held e)
    row-stands =
        ap (option_and_then (λ (q : Object). row_in (rows (document_held t.objects.entries) q) (Plain e.0))) (object-found p.object o stands.object)
        ∙ ap (λ (all : List Row). row_in all (Plain e.0)) (rows-held (document_held t.objects.entries) o object-held)
        ∙ find-map row_held (λ r. same_slot_name r.name (Plain e.0)) o.1.properties.entries
        ∙ ap (option_map row_held) (find-at (λ (x : Named). x.0) o.1.properties.entries p.property e object-held.distinct stands.property)

    pub rule-stands : rule_of (document_held t.objects.entries) (slot_named o e) ≡ Some (rule_of_content e.1.content)
    rule-stands = ap (option_map (λ (r : Row). r.rule)) row-stands

    pub type-stands : type_of (document_held t.objects.entries) (slot_named o e) ≡ Some e.1.prop
    type-stands = ap (option_and_then (λ (r : Row). r.prop)) row-stands

-- This property of this object has the number.
pub record At (t : Inside) (n : ℕ) : Type 0 where
  pub place : SlotPlace
  pub owner : Owned
  pub entry : Named
  pub stands : Stands t.objects.entries place owner entry
  pub number : entry.1.slot.0 ≡ n
  pub found : slot_at (numbered_held t) n ≡ Some (slot_named owner entry)

module _ (t : Inside) (held : IsHeld t) where
  -- a number in use has a property
  pub at_number-held : (n : ℕ) → IsSome (slot_at (numbered_held t) n) → At t n
  at_number-held n used =
      let s = some_of (slot_at (numbered_held t) n) used in
      let f = from_flat_map slots_numbered t.objects.entries (n, s.0) (held.slot_numbers.back n s.0 s.1) in
      let o : Owned = f.0 in
      let g = from_map (λ (x : Named). (x.1.slot.0, slot_named o x)) o.1.properties.entries (n, s.0) f.2 in
      let e : Named = g.0 in
      let i = place-in t.objects.entries o f.1 in
      let j = place-in o.1.properties.entries e g.1 in
      record {
        place = record { object = i.0; property = j.0 };
        owner = o;
        entry = e;
        stands = record { object = i.1; property = j.1 };
        number = sym (ap (λ (p : ℕ × Slot). p.0) g.2);
        found = s.1 ∙ ap (λ (p : ℕ × Slot). Some p.1) g.2;
      }

  -- and so has a number of an object an object
  pub owns-held : (n : ℕ) (name : List ℕ) → name_at (numbered_held t) n ≡ Some name → Owns t.objects.entries n name
  owns-held n name h =
      let f = from_map object_numbered t.objects.entries (n, name) (held.object_numbers.back n name h) in
      let o : Owned = f.0 in
      let i = place-in t.objects.entries o f.1 in
      record {
        place = i.0;
        owner = o;
        stands = i.1;
        number = sym (ap (λ (p : ℕ × List ℕ). p.0) f.2);
        name_is = sym (ap (λ (p : ℕ × List ℕ). p.1) f.2);
      }

  -- the name of the number of an object
  pub name_at-held : (i : ℕ) (o : Owned) → slice_get t.objects.entries i ≡ Some o → name_at (numbered_held t) o.1.number.0 ≡ Some o.0
  name_at-held i o at = held.object_numbers.there o.1.number.0 o.0 (IsIn-map object_numbered t.objects.entries o (in-at t.objects.entries i o at))

  -- the object of a name is found by it
  pub owner-looked : (n : ℕ) (name : List ℕ) (w : Owns t.objects.entries n name) → lookup (pointwise nat_eq name) t.objects.entries ≡ Some w.owner.1
  owner-looked n name w =
      subst (λ (k : List ℕ). lookup (pointwise nat_eq k) t.objects.entries ≡ Some w.owner.1) w.name_is
      (lookup-at t.objects.entries w.place w.owner held.distinct w.stands)

  -- This property of this object has the number and the names of the key.
  pub record KeyAt (n : ℕ) (key : SlotKey) : Type 0 where
    pub at : At t n
    pub object : key.object ≡ at.owner.0
    pub property : key.property ≡ at.entry.0

  pub key-at : (n : ℕ) (key : SlotKey) → at_number t.slot_keys.items n ≡ Some key → KeyAt n key
  key-at n key h =
      let slot : slot_at (numbered_held t) n ≡ Some (slot_of_key key) = at_number-map slot_of_key t.slot_keys.items n ∙ ap (option_map slot_of_key) h in
      let a : At t n = at_number-held n (ap is_some slot) in
      let same : slot_of_key key ≡ slot_named a.owner a.entry = cc (a.found, slot) in
      record {
        at = a;
        object = ap (λ (q : Slot). q.object) same;
        property = let plain : Plain key.property ≡ Plain a.entry.0 = ap (λ (q : Slot). q.name) same in cc;
      }

  module _ (n : ℕ) (key : SlotKey) (k : KeyAt n key) where
    pub key-owner : lookup (pointwise nat_eq key.object) t.objects.entries ≡ Some k.at.owner.1
    key-owner =
        ap (λ (name : List ℕ). lookup (pointwise nat_eq name) t.objects.entries) k.object
        ∙ lookup-at t.objects.entries (k.at.place).object k.at.owner held.distinct k.at.stands.object

    pub key-entry : lookup (pointwise nat_eq key.property) k.at.owner.1.properties.entries ≡ Some k.at.entry.1
    key-entry =
        ap (λ (name : List ℕ). lookup (pointwise nat_eq name) k.at.owner.1.properties.entries) k.property
        ∙ lookup-at k.at.owner.1.properties.entries (k.at.place).property k.at.entry
        (object-held t held k.at.place k.at.owner k.at.entry k.at.stands).distinct k.at.stands.property

    -- the place of a key in use
    pub key-place : place_of_key t.objects.entries key ≡ Some k.at.place
    key-place =
        let o = k.at.owner in
        let e = k.at.entry in
        let es = t.objects.entries in
        (λ j. place_of_key es (record { object = k.object j; property = k.property j }))
        ∙ ap (option_and_then (λ i. option_and_then (λ (x : Owned). option_map (λ m. record { object = i; property = m }) (position (pointwise nat_eq e.0) (keys_of x.1.properties.entries))) (slice_get es i)))
        (position-at es (k.at.place).object o held.distinct k.at.stands.object)
        ∙ ap (option_and_then (λ (x : Owned). option_map (λ m. record { object = (k.at.place).object; property = m }) (position (pointwise nat_eq e.0) (keys_of x.1.properties.entries)))) k.at.stands.object
        ∙ ap (option_map (λ m. record { object = (k.at.place).object; property = m }))
        (position-at o.1.properties.entries (k.at.place).property e (object-held t held k.at.place o e k.at.stands).distinct k.at.stands.property)

  pub entry-held : (n : ℕ) (a : At t n) → IsEntryOf (numbered_held t) n a.entry.1
  entry-held n a =
      let d = document_held t.objects.entries in
      record {
        type = ap (option_and_then (type_of d)) a.found ∙ type-stands t held a.place a.owner a.entry a.stands;
        rule = ap (option_and_then (rule_of d)) a.found ∙ rule-stands t held a.place a.owner a.entry a.stands;
        references = (property-held t held a.place a.owner a.entry a.stands).references;
        owner =
            ap (λ (x : Option Slot). is_some (option_and_then (λ (q : Slot). object_named d q.object) x)) a.found
            ∙ ap is_some (object-found t held (a.place).object a.owner a.stands.object);
      }

-- what tables show of numbers
module _ (v : Numbered) (t : Inside) (held : IsHeld t) (is : numbered_held t ≡ v) where
  -- a number in use is one of a key in use
  pub used-read : (n : ℕ) → is_some (at_number t.slot_keys.items n) ≡ is_some (slot_at v n)
  used-read n = of (at_number t.slot_keys.items n) ∙ ap is_some (sym (at_number-map slot_of_key t.slot_keys.items n) ∙ ap (λ (w : Numbered). slot_at w n) is)
    where
      of : (x : Option SlotKey) → is_some x ≡ is_some (option_map slot_of_key x)
      of None = refl
      of (Some k) = refl

  pub key-used : (n : ℕ) → IsSome (slot_at v n) → IsSome (at_number t.slot_keys.items n)
  key-used n used = used-read n ∙ used

  pub key-read : (n : ℕ) (key : SlotKey) → Some key ≡ at_number t.slot_keys.items n → Some (slot_of_key key) ≡ slot_at v n
  key-read n key h = ap (option_map slot_of_key) h ∙ sym (at_number-map slot_of_key t.slot_keys.items n) ∙ ap (λ (w : Numbered). slot_at w n) is

  pub name-used : (n : ℕ) → IsSome (name_at v n) → IsSome (at_number t.object_names.items n)
  name-used n used = ap (λ (w : Numbered). is_some (name_at w n)) is ∙ used

  pub name-read : (n : ℕ) (name : List ℕ) → Some name ≡ at_number t.object_names.items n → Some name ≡ name_at v n
  name-read n name h = h ∙ ap (λ (w : Numbered). name_at w n) is

  -- the object of a number in use is there
  pub owner-named : (n : ℕ) (name : List ℕ) → Some name ≡ at_number t.object_names.items n → IsSome (lookup (pointwise nat_eq name) t.objects.entries)
  owner-named n name h = ap is_some (owner-looked t held n name (owns-held t held n name (sym h)))

  module _ (n : ℕ) (key : SlotKey) (h : Some key ≡ at_number t.slot_keys.items n) where
    k : KeyAt t held n key
    k = key-at t held n key (sym h)

    -- the object of a key in use is there
    pub owner-there : IsSome (lookup (pointwise nat_eq key.object) t.objects.entries)
    owner-there = ap is_some (key-owner t held n key k)

    module _ (object : ObjectEntry) (own : Some object ≡ lookup (pointwise nat_eq key.object) t.objects.entries) where
      owner : object ≡ k.at.owner.1
      owner = let both : Some object ≡ Some k.at.owner.1 = own ∙ key-owner t held n key k in cc

      pub owner-read : name_at v object.number.0 ≡ option_map (λ (s : Slot). s.object) (slot_at v n)
      owner-read =
          subst (λ (w : Numbered). name_at w object.number.0 ≡ option_map (λ (s : Slot). s.object) (slot_at w n)) is
          (ap (λ (x : ObjectEntry). name_at (numbered_held t) x.number.0) owner
          ∙ name_at-held t held (k.at.place).object k.at.owner k.at.stands.object
          ∙ sym (ap (option_map (λ (s : Slot). s.object)) k.at.found))

      looked : lookup (pointwise nat_eq key.property) object.properties.entries ≡ Some k.at.entry.1
      looked = ap (λ (x : ObjectEntry). lookup (pointwise nat_eq key.property) x.properties.entries) owner ∙ key-entry t held n key k

      pub entry-there : IsSome (lookup (pointwise nat_eq key.property) object.properties.entries)
      entry-there = ap is_some looked

      pub entry-read : (entry : PropertyEntry) → Some entry ≡ lookup (pointwise nat_eq key.property) object.properties.entries → IsEntryOf v n entry
      entry-read entry there =
          let both : Some entry ≡ Some k.at.entry.1 = there ∙ looked in
          let same : entry ≡ k.at.entry.1 = cc in
          subst (λ (w : Numbered). IsEntryOf w n entry) is
          (subst (λ (x : PropertyEntry). IsEntryOf (numbered_held t) n x) (sym same) (entry-held t held n k.at))

-- the slots of an object
abbrev pub slots_in : Owned → List Slot
slots_in o = map (slot_named o) o.1.properties.entries

slots-of_rows : (o : Owned) (es : List Named) → map (λ (r : Row). slot_of (object_held o) r.name) (map row_held es) ≡ map (slot_named o) es
slots-of_rows o [] = refl
slots-of_rows o (e ∷ es) = ap (λ (l : List Slot). slot_named o e ∷ l) (slots-of_rows o es)

slots-from : (d : Document) (os : List Owned) → AllByRecursion IsObjectHeld os → flat_map (λ q. map (λ (r : Row). slot_of q r.name) (rows d q)) (map object_held os) ≡ flat_map slots_in os
slots-from d [] h = refl
slots-from d (o ∷ os) h = λ j. (ap (map (λ (r : Row). slot_of (object_held o) r.name)) (rows-held d o h.0) ∙ slots-of_rows o o.1.properties.entries) j ++ slots-from d os h.1 j

-- the slots of the object at a place
pub slots-of_object : (t : Inside) → IsHeld t → (i : ℕ) (o : Owned) → slice_get t.objects.entries i ≡ Some o → map (λ (r : Row). slot_of (object_held o) r.name) (rows (document_held t.objects.entries) (object_held o)) ≡ map (slot_named o) o.1.properties.entries
slots-of_object t held i o at =
    ap (map (λ (r : Row). slot_of (object_held o) r.name)) (rows-held (document_held t.objects.entries) o (all_at IsObjectHeld t.objects.entries i o held.objects at))
    ∙ slots-of_rows o o.1.properties.entries

-- the slots of the document, object by object
pub slots-held : (t : Inside) → IsHeld t → slots (document_held t.objects.entries) ≡ flat_map slots_in t.objects.entries
slots-held t held = slots-from (document_held t.objects.entries) t.objects.entries held.objects

-- what holds at each place holds of each member
pub all_from_places : {A : Type 0} (P : A → Type 0) (xs : List A) → ((i : ℕ) (x : A) → slice_get xs i ≡ Some x → P x) → AllByRecursion P xs
all_from_places P [] h = tt
all_from_places P (x ∷ xs) h = (h 0 x refl, all_from_places P xs (λ i y at. h (suc i) y at))

-- each property's number is that of its slot
abbrev pub IsNumberedIn : Numbered → Owned → Type 0
IsNumberedIn v o = AllByRecursion (λ (e : Named). slot_at v e.1.slot.0 ≡ Some (slot_named o e)) o.1.properties.entries

pub numbered-in : (t : Inside) → IsHeld t → AllByRecursion (IsNumberedIn (numbered_held t)) t.objects.entries
numbered-in t held =
    all_from_places (IsNumberedIn (numbered_held t)) t.objects.entries (λ i o at.
    all_from_places (λ (e : Named). slot_at (numbered_held t) e.1.slot.0 ≡ Some (slot_named o e)) o.1.properties.entries (λ j e there.
    slot_at-stands t held (record { object = i; property = j }) o e (record { object = at; property = there })))

numbers-of_object : (v : Numbered) (o : Owned) (es : List Named) → AllByRecursion (λ (e : Named). slot_at v e.1.slot.0 ≡ Some (slot_named o e)) es → map (λ (id : SlotId). slot_at v id.0) (map (λ (e : Named). e.1.slot) es) ≡ map Some (map (slot_named o) es)
numbers-of_object v o [] h = refl
numbers-of_object v o (e ∷ es) h = λ j. h.0 j ∷ numbers-of_object v o es h.1 j

numbers-from : (v : Numbered) (os : List Owned) → AllByRecursion (IsNumberedIn v) os → map (λ (id : SlotId). slot_at v id.0) (flat_map numbers_in os) ≡ map Some (flat_map slots_in os)
numbers-from v [] h = refl
numbers-from v (o ∷ os) h =
    map-append (λ (id : SlotId). slot_at v id.0) (numbers_in o) (flat_map numbers_in os)
    ∙ (λ j. numbers-of_object v o o.1.properties.entries h.0 j ++ numbers-from v os h.1 j)
    ∙ sym (map-append Some (slots_in o) (flat_map slots_in os))

-- the numbers in the order of the document are those of its slots
pub numbers-held : (v : Numbered) (t : Inside) → IsHeld t → numbered_held t ≡ v → AreNumbersOf v (flat_map numbers_in t.objects.entries) (slots v.document)
numbers-held v t held is =
    subst (λ (w : Numbered). AreNumbersOf w (flat_map numbers_in t.objects.entries) (slots w.document)) is
    (numbers-from (numbered_held t) t.objects.entries (numbered-in t held) ∙ ap (map Some) (sym (slots-held t held)))

-- below the length there is a member
pub member_below : {A : Type 0} (xs : List A) (n : ℕ) → n < length xs → (x : A) × (slice_get xs n ≡ Some x)
member_below [] n h = absurd (omega arith)
member_below (x ∷ xs) zero h = (x, refl)
member_below (x ∷ xs) (suc n) h = member_below xs n (omega arith)
