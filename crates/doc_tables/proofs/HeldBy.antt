-- The document that shown entries stand for, and how they hold it.
use Rattle.std.proofs.Common.{◌≡◌, ◌^◌, ◌<◌, ℕ, nat_eq, List, [], ◌∷◌, ◌++◌, map, length, sum_by, refl, sym, ap, subst, ◌∙◌}
use Rattle.std.specs.Cmp.Lexicographic.{pointwise}
use Rattle.std.specs.List.{flat_map, AllByRecursion, IsDistinct}
use Rattle.std.specs.Map.{keys_of}
use Rattle.std.proofs.lemmas.List.{length-map}
use Rattle.std.proofs.lemmas.Simd.{map-map}
use Rattle.object_paths.specs.declared.slot_name.SlotName.TheVariants.{Plain}
use Rattle.object_paths.specs.Slots.{Slot}
use Rattle.document_model.specs.declared.kind.ObjectKind.TheVariants.{VarSet}
use Rattle.document_model.specs.Document.{Document, Object}
use Rattle.document_model.specs.WellFormed.{IsWellFormed}
use Rattle.document_model.specs.Edited.{new_object}
use Rattle.doc_tables.specs.declared.tables.Tables.TheInside.{Inside}
use Rattle.doc_tables.specs.Held.{property_held, slots_numbered, slots_of_keys, document_held, IsPropertyHeld, IsObjectHeld, HoldsReached, IsHeld}
use Rattle.doc_tables.specs.Labels.{AreByLabel, Labelled}
use Rattle.doc_tables.specs.Shown.{Shown, shown}
use Rattle.doc_tables.specs.Table.{HasRoom, IsTable}
use Rattle.doc_tables.proofs.CountLemmas.{sum_by-map}
use Rattle.doc_tables.proofs.HeldLemmas.{Named, Owned}

abbrev pub object_by : Shown → Object
object_by o = record (new_object o.0 o.1 VarSet) { dynamics = map property_held o.2 }

abbrev pub document_by : List Shown → Document
document_by objects = record { objects = map object_by objects; attributes = []; before = []; between = []; after = [] }

-- the number and the name of an object
abbrev pub number_by : Shown → ℕ × List ℕ
number_by o = (o.3, o.0)

-- the numbers and the slots of its properties
abbrev pub slots_by : Shown → List (ℕ × Slot)
slots_by o = map (λ (e : Named). (e.1.slot.0, record { object = o.0; name = Plain e.0 })) o.2

-- the label and the number of an object
abbrev pub labelled_by : Shown → Labelled
labelled_by o = (o.1, record { 0 = o.3 })

pub record IsObjectBy (o : Shown) : Type 0 where
  pub distinct : IsDistinct (pointwise nat_eq) (keys_of o.2)
  pub properties : AllByRecursion IsPropertyHeld o.2

pub record AreEntries (objects : List Shown) : Type 0 where
  pub distinct : IsDistinct (pointwise nat_eq) (map (λ (o : Shown). o.0) objects)
  pub objects_held : AllByRecursion IsObjectBy objects
  pub few_objects : length objects < 2 ^ 32
  pub few_slots : sum_by (λ (o : Shown). length o.2) objects < 2 ^ 32

-- what the document is hangs on what is shown alone
pub document-shown : (es : List Owned) → document_held es ≡ document_by (map shown es)
document-shown es = λ j. record { objects = sym (map-map object_by shown es) j; attributes = []; before = []; between = []; after = [] }

objects-shown : (es : List Owned) → AllByRecursion IsObjectHeld es → AllByRecursion IsObjectBy (map shown es)
objects-shown [] h = tt
objects-shown (o ∷ es) h = (record { distinct = h.0.distinct; properties = h.0.properties }, objects-shown es h.1)

shown-objects : (es : List Owned) → AllByRecursion IsObjectBy (map shown es) → AllByRecursion IsObjectHeld es
shown-objects [] h = tt
shown-objects (o ∷ es) h = (record { distinct = h.0.distinct; properties = h.0.properties }, shown-objects es h.1)

flat-shown : (es : List Owned) → flat_map slots_numbered es ≡ flat_map slots_by (map shown es)
flat-shown [] = refl
flat-shown (o ∷ es) = ap (λ (l : List (ℕ × Slot)). slots_numbered o ++ l) (flat-shown es)

module _ (t : Inside) where
  pub entries-shown : IsHeld t → AreEntries (map shown t.objects.entries)
  entries-shown h =
      let es = t.objects.entries in
      record {
        distinct = subst (IsDistinct (pointwise nat_eq)) (sym (map-map (λ (o : Shown). o.0) shown es)) h.distinct;
        objects_held = objects-shown es h.objects;
        few_objects = subst (λ (n : ℕ). n < 2 ^ 32) (sym (length-map es shown)) h.few_objects;
        few_slots = subst (λ (n : ℕ). n < 2 ^ 32) (sym (sum_by-map (λ (o : Shown). length o.2) shown es)) h.few_slots;
      }

  pub names-shown : IsHeld t → IsTable t.object_names.items (map number_by (map shown t.objects.entries))
  names-shown h = subst (IsTable t.object_names.items) (sym (map-map number_by shown t.objects.entries)) h.object_numbers

  pub slots-shown : IsHeld t → IsTable (slots_of_keys t.slot_keys.items) (flat_map slots_by (map shown t.objects.entries))
  slots-shown h = subst (IsTable (slots_of_keys t.slot_keys.items)) (flat-shown t.objects.entries) h.slot_numbers

  pub labels-shown : IsHeld t → AreByLabel t.by_label.items (map labelled_by (map shown t.objects.entries))
  labels-shown h = subst (AreByLabel t.by_label.items) (sym (map-map labelled_by shown t.objects.entries)) h.labels

  -- tables that show these entries hold them
  module _ (objects : List Shown) (same : map shown t.objects.entries ≡ objects) where
    pub still-held :
        AreEntries objects → IsTable t.object_names.items (map number_by objects) → IsTable (slots_of_keys t.slot_keys.items) (flat_map slots_by objects)
        → AreByLabel t.by_label.items (map labelled_by objects)
        → HasRoom t.object_names.items t.free_object → HasRoom (slots_of_keys t.slot_keys.items) t.free_slot → IsWellFormed (document_held t.objects.entries) → HoldsReached t → IsHeld t
    still-held h names slots labels object_room slot_room form reached =
        let es = t.objects.entries in
        let own : AreEntries (map shown es) = subst AreEntries (sym same) h in
        record {
          distinct = subst (IsDistinct (pointwise nat_eq)) (map-map (λ (o : Shown). o.0) shown es) own.distinct;
          objects = shown-objects es own.objects_held;
          few_objects = subst (λ (n : ℕ). n < 2 ^ 32) (length-map es shown) own.few_objects;
          few_slots = subst (λ (n : ℕ). n < 2 ^ 32) (sum_by-map (λ (o : Shown). length o.2) shown es) own.few_slots;
          object_numbers =
              subst (IsTable t.object_names.items) (map-map number_by shown es)
              (subst (λ (l : List Shown). IsTable t.object_names.items (map number_by l)) (sym same) names);
          slot_numbers =
              subst (IsTable (slots_of_keys t.slot_keys.items)) (sym (flat-shown es))
              (subst (λ (l : List Shown). IsTable (slots_of_keys t.slot_keys.items) (flat_map slots_by l)) (sym same) slots);
          labels =
              subst (AreByLabel t.by_label.items) (map-map labelled_by shown es)
              (subst (λ (l : List Shown). AreByLabel t.by_label.items (map labelled_by l)) (sym same) labels);
          object_room = object_room;
          slot_room = slot_room;
          form = form;
          reached = reached;
        }

    pub document-of : document_held t.objects.entries ≡ document_by objects
    document-of = document-shown t.objects.entries ∙ ap document_by same
