-- One more object, one more property, and another content.
use Rattle.std.proofs.Common.{◌≡◌, ◌+◌, ◌^◌, ◌<◌, ℕ, true, false, cond, nat_eq, List, [], ◌∷◌, ◌++◌, map, length, sum_by, slice_get, Some, refl, sym, ap, subst, ◌∙◌, arith}
use Rattle.std.specs.Cmp.Lexicographic.{pointwise, nat_list_eq_equiv}
use Rattle.std.specs.List.{flat_map, list_any, AllByRecursion, IsDistinct}
use Rattle.std.specs.Map.{keys_of}
use Rattle.std.proofs.lemmas.List.{map-append, length_push}
use Rattle.std.proofs.lemmas.List.Sums.{sum_by_push}
use Rattle.std.proofs.lemmas.Map.Keys.{IsDistinct-push}
use Rattle.object_paths.specs.declared.slot_name.SlotName.TheVariants.{Plain}
use Rattle.object_paths.specs.Slots.{same_text}
use Rattle.document_model.specs.declared.content.Content.{Content}
use Rattle.document_model.specs.declared.kind.ObjectKind.TheVariants.{VarSet}
use Rattle.document_model.specs.Document.{Object, Property}
use Rattle.document_model.specs.Edited.{contents_with, input_with, new_object, new_property, property_with, with_content, with_object, with_property}
use Rattle.doc_tables.specs.declared.entry.PropertyEntry.{PropertyEntry}
use Rattle.doc_tables.specs.Entries.{HasFewReferences}
use Rattle.doc_tables.specs.Held.{property_held, IsPropertyHeld}
use Rattle.doc_tables.specs.Shown.{Shown, change_at, with_entry, entry_with, object_with}
use Rattle.doc_tables.proofs.ChangeLists.{map-change, length-change, sum_by-change, all-change, all-push, change-only}
use Rattle.doc_tables.proofs.CountLemmas.{sum_by-map}
use Rattle.doc_tables.proofs.Finding.{same-place, same_text-told}
use Rattle.doc_tables.proofs.HeldBy.{object_by, document_by, number_by, slots_by, IsObjectBy, AreEntries}
use Rattle.doc_tables.proofs.HeldLemmas.{Named, all_at, all_from_places, one_slot}
use Rattle.doc_tables.proofs.TableLemmas.{flat-change, flat-empty}

none : IsDistinct (pointwise nat_eq) (keys_of {K = List ℕ} {X = PropertyEntry} [])
unfolding IsDistinct
none = tt

-- ---- one more object
module _ (objects : List Shown) (name label : List ℕ) (number : ℕ) where
  abbrev pub one_more : List Shown
  one_more = objects ++ (name, label, [], number) ∷ []

  pub more-entries : AreEntries objects → list_any (pointwise nat_eq name) (map (λ (o : Shown). o.0) objects) ≡ false → length objects + 1 < 2 ^ 32 → AreEntries one_more
  more-entries h new few = record {
    distinct = subst (IsDistinct (pointwise nat_eq)) (sym (map-append (λ (o : Shown). o.0) objects ((name, label, [], number) ∷ []))) (IsDistinct-push nat_list_eq_equiv (map (λ (o : Shown). o.0) objects) name h.distinct new);
    objects_held = all-push IsObjectBy objects (name, label, [], number) h.objects_held (record { distinct = none; properties = tt });
    few_objects = omega (arith, length_push objects (name, label, [], number));
    few_slots = omega (arith, h.few_slots, sum_by_push (λ (o : Shown). length o.2) objects (name, label, [], number));
  }

  pub more-document : document_by one_more ≡ with_object (document_by objects) (new_object name label VarSet)
  more-document = λ j. record { objects = map-append object_by objects ((name, label, [], number) ∷ []) j; attributes = []; before = []; between = []; after = [] }

  pub more-numbers : map number_by one_more ≡ map number_by objects ++ (number, name) ∷ []
  more-numbers = map-append number_by objects ((name, label, [], number) ∷ [])

  pub more-slots : flat_map slots_by one_more ≡ flat_map slots_by objects
  more-slots = flat-empty slots_by objects (name, label, [], number) refl

-- ---- one more property
module _ (objects : List Shown) (i : ℕ) (o : Shown) (name : List ℕ) (entry : PropertyEntry) where
  abbrev pub one_filled : List Shown
  one_filled = change_at (with_entry (name, entry)) i objects

  pub filled-numbers : map number_by one_filled ≡ map number_by objects
  filled-numbers = map-change number_by (with_entry (name, entry)) (λ x. refl) i objects

  pub slots-filled : slots_by (with_entry (name, entry) o) ≡ slots_by o ++ (entry.slot.0, record { object = o.0; name = Plain name }) ∷ []
  slots-filled = map-append (λ (e : Named). (e.1.slot.0, record { object = o.0; name = Plain e.0 })) o.2 ((name, entry) ∷ [])

  module _ (at : slice_get objects i ≡ Some o) (h : AreEntries objects) where
    pub filled-entries : IsPropertyHeld (name, entry) → list_any (pointwise nat_eq name) (keys_of o.2) ≡ false → sum_by (λ (x : Shown). length x.2) objects + 1 < 2 ^ 32 → AreEntries one_filled
    filled-entries property new few = record {
      distinct = subst (IsDistinct (pointwise nat_eq)) (sym (map-change (λ (x : Shown). x.0) (with_entry (name, entry)) (λ x. refl) i objects)) h.distinct;
      objects_held =
          all-change IsObjectBy (with_entry (name, entry)) i objects
          (λ x there held.
          let same : o ≡ x = cc (at, there) in
          record {
            distinct = subst (IsDistinct (pointwise nat_eq)) (sym (map-append (λ (e : Named). e.0) x.2 ((name, entry) ∷ []))) (IsDistinct-push nat_list_eq_equiv (keys_of x.2) name held.distinct (subst (λ (y : Shown). list_any (pointwise nat_eq name) (keys_of y.2) ≡ false) same new));
            properties = all-push IsPropertyHeld x.2 (name, entry) held.properties property;
          })
          h.objects_held;
      few_objects = subst (λ (n : ℕ). n < 2 ^ 32) (sym (length-change (with_entry (name, entry)) i objects)) h.few_objects;
      few_slots = omega (arith, few, sum_by-change (λ (x : Shown). length x.2) (with_entry (name, entry)) i objects o 1 at (length_push o.2 (name, entry)));
    }

    pub filled-document : property_held (name, entry) ≡ new_property name entry.prop → document_by one_filled ≡ with_property (document_by objects) o.0 (new_property name entry.prop)
    filled-document fresh = λ j. record {
      objects =
          change-only (λ (x : Shown). x.0) (with_entry (name, entry)) object_by
          (λ (q : Object). cond (same_text q.name o.0) (record q { dynamics = q.dynamics ++ new_property name entry.prop ∷ [] }) q) o.0 (λ x. Unit {0})
          (λ x u. ap (λ (q : Object). cond (same_text x.0 o.0) q (object_by x)) (λ k. record (object_by x) { dynamics = (sym (map-append property_held x.2 ((name, entry) ∷ []) ∙ ap (λ (p : Property). map property_held x.2 ++ p ∷ []) fresh)) k }))
          objects i o (any-all objects) h.distinct at refl j;
      attributes = [];
      before = [];
      between = [];
      after = [];
    }
      where
        any-all : (xs : List Shown) → AllByRecursion (λ x. Unit {0}) xs
        any-all [] = tt
        any-all (x ∷ xs) = (tt, any-all xs)

-- ---- another content
-- a property with another content in the slot of a name
property-written : (new : Content) (name : List ℕ) (e : Named) → IsPropertyHeld e → property_with (Plain name) new (property_held e) ≡ cond (same_text e.0 name) (property_held (entry_with new e)) (property_held e)
property-written new name e h =
    (λ j. record (property_held e) { contents = contents_with (Plain name) new (one_slot e.0 e.1.prop h.one_slot j) (e.1.content ∷ []) })
    ∙ (elim (same_text e.0 name) as (λ b. record (property_held e) { contents = cond b new e.1.content ∷ [] } ≡ cond b (property_held (entry_with new e)) (property_held e)) [
      | true ↦ refl
      | false ↦ refl
    ])

module _ (objects : List Shown) (i j : ℕ) (o : Shown) (e : Named) (new : Content) where
  abbrev pub one_written : List Shown
  one_written = change_at (object_with new j) i objects

  pub written-numbers : map number_by one_written ≡ map number_by objects
  written-numbers = map-change number_by (object_with new j) (λ x. refl) i objects

  pub written-slots : flat_map slots_by one_written ≡ flat_map slots_by objects
  written-slots =
      flat-change slots_by (object_with new j)
      (λ x. map-change (λ (d : Named). (d.1.slot.0, record { object = x.0; name = Plain d.0 })) (entry_with new) (λ d. refl) j x.2) i objects

  pub written-entries : AreEntries objects → HasFewReferences new → AreEntries one_written
  written-entries h few = record {
    distinct = subst (IsDistinct (pointwise nat_eq)) (sym (map-change (λ (x : Shown). x.0) (object_with new j) (λ x. refl) i objects)) h.distinct;
    objects_held =
        all-change IsObjectBy (object_with new j) i objects
        (λ x there held. record {
          distinct = subst (IsDistinct (pointwise nat_eq)) (sym (map-change (λ (d : Named). d.0) (entry_with new) (λ d. refl) j x.2)) held.distinct;
          properties = all-change IsPropertyHeld (entry_with new) j x.2 (λ d at own. record { one_slot = own.one_slot; references = few }) held.properties;
        })
        h.objects_held;
    few_objects = subst (λ (n : ℕ). n < 2 ^ 32) (sym (length-change (object_with new j) i objects)) h.few_objects;
    few_slots = subst (λ (n : ℕ). n < 2 ^ 32) (sym same-sum) h.few_slots;
  }
    where
      same-sum : sum_by (λ (x : Shown). length x.2) one_written ≡ sum_by (λ (x : Shown). length x.2) objects
      same-sum =
          sym (sum_by-map (λ n. n) (λ (x : Shown). length x.2) one_written)
          ∙ ap (sum_by (λ n. n)) (map-change (λ (x : Shown). length x.2) (object_with new j) (λ x. length-change (entry_with new) j x.2) i objects)
          ∙ sum_by-map (λ n. n) (λ (x : Shown). length x.2) objects

  module _ (at : slice_get objects i ≡ Some o) (there : slice_get o.2 j ≡ Some e) (h : AreEntries objects) where
    own-held : IsObjectBy o
    own-held = all_at IsObjectBy objects i o h.objects_held at

    properties-written : map property_held (change_at (entry_with new) j o.2) ≡ map (property_with (Plain e.0) new) (map property_held o.2)
    properties-written =
        change-only (λ (d : Named). d.0) (entry_with new) property_held (property_with (Plain e.0) new) e.0 IsPropertyHeld (property-written new e.0)
        o.2 j e own-held.properties own-held.distinct there refl

    -- another object has another name
    only-one : AllByRecursion (λ (x : Shown). same_text x.0 o.0 ≡ true → x ≡ o) objects
    only-one =
        all_from_places (λ (x : Shown). same_text x.0 o.0 ≡ true → x ≡ o) objects (λ k x here same.
        let place : k ≡ i = same-place (λ (y : Shown). y.0) objects k i x o h.distinct here at (same_text-told x.0 o.0 same) in
        cc (here, at, place))

    object-written : (x : Shown) → x ≡ o → record (object_by x) { inputs = []; dynamics = map (property_with (Plain e.0) new) (map property_held x.2) } ≡ object_by (object_with new j x)
    object-written x same =
        subst (λ (y : Shown). record (object_by y) { inputs = []; dynamics = map (property_with (Plain e.0) new) (map property_held y.2) } ≡ object_by (object_with new j y)) (sym same)
        (λ k. record (object_by o) { inputs = []; dynamics = sym properties-written k })

    written-object : (x : Shown) → (same_text x.0 o.0 ≡ true → x ≡ o)
        → cond (same_text x.0 o.0) (record (object_by x) { inputs = []; dynamics = map (property_with (Plain e.0) new) (map property_held x.2) }) (object_by x) ≡ cond (same_text x.0 o.0) (object_by (object_with new j x)) (object_by x)
    written-object x only =
        elim (same_text x.0 o.0) as (λ b. same_text x.0 o.0 ≡ b → cond b (record (object_by x) { inputs = []; dynamics = map (property_with (Plain e.0) new) (map property_held x.2) }) (object_by x) ≡ cond b (object_by (object_with new j x)) (object_by x)) [
          | true ↦ λ g. object-written x (only g)
          | false ↦ λ g. refl
        ] refl

    pub written-document : document_by one_written ≡ with_content (document_by objects) (record { object = o.0; name = Plain e.0 }) new
    written-document = λ k. record {
      objects =
          change-only (λ (x : Shown). x.0) (object_with new j) object_by
          (λ (q : Object). cond (same_text q.name o.0) (record q { inputs = map (input_with (Plain e.0) new) q.inputs; dynamics = map (property_with (Plain e.0) new) q.dynamics }) q) o.0
          (λ (x : Shown). same_text x.0 o.0 ≡ true → x ≡ o) written-object
          objects i o only-one h.distinct at refl k;
      attributes = [];
      before = [];
      between = [];
      after = [];
    }
