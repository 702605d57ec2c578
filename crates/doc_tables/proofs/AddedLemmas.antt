-- What is there behind one more property.
use Rattle.std.proofs.Common.{◌≡◌, ◌≢◌, ℕ, Bool, true, false, not, cond, ◌||◌, List, [], ◌∷◌, ◌++◌, map, Option, Some, None, IsSome, IsTrue, is_some, refl, sym, ap, ◌∙◌}
use Rattle.std.specs.List.{find, flat_map, list_any, AllByRecursion}
use Rattle.std.specs.Option.{option_and_then, option_map, option_map_or}
use Rattle.fc_base.specs.declared.ids.SlotId.{SlotId}
use Rattle.object_paths.specs.declared.slot_name.SlotName.{SlotName}
use Rattle.object_paths.specs.declared.slot_name.SlotName.TheVariants.{Plain}
use Rattle.object_paths.specs.Slots.{Slot, same_slot_name, same_text}
use Rattle.property_types.specs.declared.prop_type.PropType.{PropType}
use Rattle.property_types.specs.declared.prop_type.PropType.TheVariants as prop
use Rattle.property_types.specs.Types.{zero_value}
use Rattle.document_model.specs.declared.content.Content.{Content}
use Rattle.document_model.specs.declared.content.Content.TheVariants.{Own}
use Rattle.document_model.specs.declared.kind.ObjectKind.TheVariants.{VarSet}
use Rattle.document_model.specs.Document.{Document, Object, Property, object_named}
use Rattle.document_model.specs.Edited.{input_with, new_property, property_with, with_content, with_property}
use Rattle.document_model.specs.Resolution.{slot_in}
use Rattle.document_model.specs.Slots.{Row, dynamic_rows, row_in, row_with, rows, rows_by, rows_in_order, slot_of, type_of}
use Rattle.document_model.specs.TypedSlots.{property_slots}
use Rattle.document_model.proofs.Members.{from_find}
use Rattle.doc_tables.specs.Accessors.{IsNumberOf}
use Rattle.doc_tables.specs.Numbered.{Numbered, IsNumbered, LeadsTo, name_at, object_at, slot_at}
use Rattle.doc_tables.specs.Primitives.{lacks_property}
use Rattle.doc_tables.specs.VarSets.{HasOneSlot, IsVarSet, HoldsVarSets}
use Rattle.doc_tables.proofs.Finding.{find-passes, same_text-refl, same_text-told}
use Rattle.doc_tables.proofs.HeldLemmas.{one_slot}
use Rattle.doc_tables.proofs.TableLemmas.{some_of}
use Rattle.doc_tables.proofs.VarSetLemmas.{of_all}

-- the object of a name is found when it was changed
module _ (name : List ℕ) (f : Object → Object) (kept : (q : Object) → (f q).name ≡ q.name) where
  abbrev is : Object → Bool
  is q = same_text q.name name

  abbrev changed : List Object → List Object
  changed os = map (λ (q : Object). cond (is q) (f q) q) os

  pub named-changed : (os : List Object) → find is (changed os) ≡ option_map f (find is os)
  named-changed [] = refl
  named-changed (o ∷ os) =
      elim (is o) as (λ b. is o ≡ b → cond (is (cond b (f o) o)) (Some (cond b (f o) o)) (find is (changed os)) ≡ option_map f (cond b (Some o) (find is os))) [
        | true ↦ λ e. ap (λ b. cond b (Some (f o)) (find is (changed os))) (ap (λ (n : List ℕ). same_text n name) (kept o) ∙ e)
        | false ↦ λ e. ap (λ b. cond b (Some o) (find is (changed os))) e ∙ named-changed os
      ] refl

abbrev rows_of : Property → List Row
rows_of p = rows_in_order (property_slots p.name p.prop) p.contents

rows-one : (p : Property) (h : HasOneSlot p) → rows_of p ≡ row_with (Some h.content) (Plain p.name, p.prop) ∷ []
rows-one p h = λ j. rows_in_order (one_slot p.name p.prop h.type j) (ap (λ (q : Property). q.contents) h.property j)

module _ (name : List ℕ) (type : PropType) (one : type ≢ prop.Placement) where
  abbrev is_it : Row → Bool
  is_it r = same_slot_name r.name (Plain name)

  -- the row of a property that is the last
  last-row : (ps : List Property) → AllByRecursion HasOneSlot ps → list_any (λ (p : Property). same_text p.name name) ps ≡ false
      → option_map (λ (r : Row). r.name) (find is_it (flat_map rows_of (ps ++ new_property name type ∷ []))) ≡ Some (Plain name)
  last-row [] all none =
      ap (λ (l : List (SlotName × PropType)). option_map (λ (r : Row). r.name) (find is_it (rows_in_order l (map (λ (slot : SlotName × PropType). Own (zero_value slot.1)) l) ++ []))) (one_slot name type one)
      ∙ ap (λ b. option_map (λ (r : Row). r.name) (cond b (Some (row_with (Some (Own (zero_value type))) (Plain name, type))) None)) (same_text-refl name)
  last-row (p ∷ ps) all none =
      ap (λ (l : List Row). option_map (λ (r : Row). r.name) (find is_it (l ++ flat_map rows_of (ps ++ new_property name type ∷ [])))) (rows-one p all.0)
      ∙ (elim (same_text p.name name) as (λ b. (b || list_any (λ (q : Property). same_text q.name name) ps) ≡ false
      → option_map (λ (r : Row). r.name) (cond b (Some (row_with (Some (all.0).content) (Plain p.name, p.prop))) (find is_it (flat_map rows_of (ps ++ new_property name type ∷ [])))) ≡ Some (Plain name)) [
        | true ↦ λ e. absurd (cc)
        | false ↦ λ e. last-row ps all.1 e
      ] none)

  -- and its type
  last-type : (ps : List Property) → AllByRecursion HasOneSlot ps → list_any (λ (p : Property). same_text p.name name) ps ≡ false
      → option_and_then (λ (r : Row). r.prop) (find is_it (flat_map rows_of (ps ++ new_property name type ∷ []))) ≡ Some type
  last-type [] all none =
      ap (λ (l : List (SlotName × PropType)). option_and_then (λ (r : Row). r.prop) (find is_it (rows_in_order l (map (λ (slot : SlotName × PropType). Own (zero_value slot.1)) l) ++ []))) (one_slot name type one)
      ∙ ap (λ b. option_and_then (λ (r : Row). r.prop) (cond b (Some (row_with (Some (Own (zero_value type))) (Plain name, type))) None)) (same_text-refl name)
  last-type (p ∷ ps) all none =
      ap (λ (l : List Row). option_and_then (λ (r : Row). r.prop) (find is_it (l ++ flat_map rows_of (ps ++ new_property name type ∷ [])))) (rows-one p all.0)
      ∙ (elim (same_text p.name name) as (λ b. (b || list_any (λ (q : Property). same_text q.name name) ps) ≡ false
      → option_and_then (λ (r : Row). r.prop) (cond b (Some (row_with (Some (all.0).content) (Plain p.name, p.prop))) (find is_it (flat_map rows_of (ps ++ new_property name type ∷ [])))) ≡ Some type) [
        | true ↦ λ e. absurd (cc)
        | false ↦ λ e. last-type ps all.1 e
      ] none)

  abbrev longer : Object → Object
  longer q = record q { dynamics = q.dynamics ++ new_property name type ∷ [] }

  by-name : (q : Object) (x : Option Row) (n : SlotName) → option_map (λ (r : Row). r.name) x ≡ Some n → option_map (λ (r : Row). slot_of q r.name) x ≡ Some (slot_of q n)
  by-name q None n h = absurd (cc)
  by-name q (Some r) n h = let same : r.name ≡ n = cc in ap (λ (k : SlotName). Some (slot_of q k)) same

  slot-in_longer : (d : Document) (q : Object) → q.kind ≡ VarSet → AllByRecursion HasOneSlot q.dynamics → list_any (λ (p : Property). same_text p.name name) q.dynamics ≡ false
      → slot_in d (longer q) (Plain name) ≡ Some (record { object = q.name; name = Plain name })
  slot-in_longer d q kind all none =
      ap (λ (rs : List Row). option_map (λ (r : Row). slot_of (longer q) r.name) (row_in rs (Plain name))) (ap (rows_by d (longer q)) kind)
      ∙ by-name (longer q) (row_in (dynamic_rows (longer q)) (Plain name)) (Plain name) (last-row q.dynamics all none)

not-true : (b : Bool) → not b ≡ true → b ≡ false
not-true true h = sym h
not-true false h = refl

-- the object of a number is there
pub named-there : (v : Numbered) → IsNumbered v → (number : ℕ) (owner : List ℕ) → name_at v number ≡ Some owner → (q : Object) × (object_named v.document owner ≡ Some q)
named-there v numbered number owner at =
    some_of (object_named v.document owner) ((numbered.all_objects owner).1 (ap is_some ((numbered.object_numbers number owner).0 at)))

module _ (v w : Numbered) (number : ℕ) (owner name : List ℕ) (type : PropType) (numbered : IsNumbered v) (holds : HoldsVarSets v.document) (one : type ≢ prop.Placement) (at : name_at v number ≡ Some owner)
    (lacks : IsTrue (lacks_property v number name)) (leads : LeadsTo v w (with_property v.document owner (new_property name type))) where
  there : (q : Object) × (object_named v.document owner ≡ Some q)
  there = named-there v numbered number owner at

  abbrev q : Object
  q = there.0

  named-after : object_named w.document owner ≡ Some (longer name type one q)
  named-after =
      ap (λ (d : Document). object_named d owner) leads.document
      ∙ named-changed owner (longer name type one) (λ x. refl) v.document.objects
      ∙ ap (option_map (longer name type one)) there.1

  -- the object keeps its number
  pub number-kept : name_at w number ≡ Some owner
  number-kept = leads.numbers.objects number owner at (ap is_some named-after)

  own-name : q.name ≡ owner
  own-name = same_text-told q.name owner (find-passes (λ (x : Object). same_text x.name owner) v.document.objects q there.1)

  set : IsVarSet q
  set = of_all IsVarSet v.document.objects q holds.objects (from_find (λ (x : Object). same_text x.name owner) v.document.objects q there.1)

  none : list_any (λ (p : Property). same_text p.name name) q.dynamics ≡ false
  none =
      not-true (list_any (λ (p : Property). same_text p.name name) q.dynamics)
      (sym (ap (λ (x : Option Object). option_map_or (λ (o : Object). not (list_any (λ (p : Property). same_text p.name name) o.dynamics)) x true) (ap (option_and_then (object_named v.document)) at ∙ there.1)) ∙ lacks)

  slot-there : option_and_then (λ (o : Object). slot_in w.document o (Plain name)) (object_at w number) ≡ Some (record { object = owner; name = Plain name })
  slot-there =
      ap (option_and_then (λ (o : Object). slot_in w.document o (Plain name))) (ap (option_and_then (object_named w.document)) number-kept ∙ named-after)
      ∙ slot-in_longer name type one w.document q (ap (λ (o : Object). o.kind) set.object) set.properties none
      ∙ (λ j. Some (record { object = own-name j; name = Plain name }))

  -- the new slot has the type of the property
  pub new-typed : type_of w.document (record { object = owner; name = Plain name }) ≡ Some type
  new-typed =
      ap (λ (x : Option Object). option_and_then (λ (r : Row). r.prop) (option_and_then (λ (o : Object). row_in (rows w.document o) (Plain name)) x)) named-after
      ∙ ap (λ (rs : List Row). option_and_then (λ (r : Row). r.prop) (row_in rs (Plain name))) (ap (rows_by w.document (longer name type one q)) (ap (λ (o : Object). o.kind) set.object))
      ∙ last-type name type one q.dynamics set.properties none

  -- and its new slot has one
  pub slot-some : (id : Option SlotId) → IsNumberOf w id (option_and_then (λ (o : Object). slot_in w.document o (Plain name)) (object_at w number)) → IsSome id
  slot-some None h = absurd (cc (ap (option_map (λ (s : Slot). Some s)) slot-there))
  slot-some (Some i) h = refl

  pub slot-numbered : (i : SlotId) → IsNumberOf w (Some i) (option_and_then (λ (o : Object). slot_in w.document o (Plain name)) (object_at w number)) → slot_at w i.0 ≡ Some (record { object = owner; name = Plain name })
  slot-numbered i h =
      let both : Some (slot_at w i.0) ≡ Some (Some (record { object = owner; name = Plain name })) = h ∙ ap (option_map (λ (s : Slot). Some s)) slot-there in
      cc

-- another content leaves an object its number
pub number-stays : (v w : Numbered) → IsNumbered v → (number : ℕ) (owner : List ℕ) (name : SlotName) (new : Content) → name_at v number ≡ Some owner
    → LeadsTo v w (with_content v.document (record { object = owner; name = name }) new) → name_at w number ≡ Some owner
number-stays v w numbered number owner name new at leads =
    let change : Object → Object = λ o. record o { inputs = map (input_with name new) o.inputs; dynamics = map (property_with name new) o.dynamics } in
    let there = named-there v numbered number owner at in
    let named : object_named w.document owner ≡ Some (change there.0) =
    ap (λ (d : Document). object_named d owner) leads.document ∙ named-changed owner change (λ x. refl) v.document.objects ∙ ap (option_map change) there.1
    in
    leads.numbers.objects number owner at (ap is_some named)
