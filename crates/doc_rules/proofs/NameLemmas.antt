-- Which names stand at a VarSet, and which of its properties a name is.
use Rattle.std.proofs.Common.{◌≡◌, ℕ, Bool, true, false, ◌||◌, ◌&&◌, cond, List, [], ◌∷◌, ◌++◌, Option, Some, None, find, is_some, not, Result, Ok, Err, refl, sym, ap, subst, ◌∙◌, codes, IsTrue}
use Rattle.std.specs.Prelude.{IsSome}
use Rattle.std.specs.List.{AllByRecursion, list_any, flat_map, filter_map}
use Rattle.std.specs.Option.{option_map, option_and_then, option_map_or}
use Rattle.fc_base.specs.Graph.{IsIn}
use Rattle.fc_base.specs.Places.{Place}
use Rattle.fc_base.specs.Texts.{is_name}
use Rattle.fc_base.specs.declared.ids.ObjectId.{ObjectId}
use Rattle.fc_base.specs.declared.ids.SlotId.{SlotId}
use Rattle.object_paths.specs.declared.path.Path.{Path}
use Rattle.object_paths.specs.declared.slot_name.SlotName.{SlotName}
use Rattle.object_paths.specs.declared.slot_name.SlotName.TheVariants.{Plain}
use Rattle.object_paths.specs.Slots.{Slot, same_slot_name, same_text}
use Rattle.property_types.specs.declared.prop_type.PropType.{PropType}
use Rattle.property_types.specs.Reserved.{is_among, is_reserved}
use Rattle.property_types.specs.SoundPlans.{is_property_name}
use Rattle.expr_eval.specs.Firsts.{on_one}
use Rattle.document_model.specs.declared.content.Content.{Content}
use Rattle.document_model.specs.declared.kind.ObjectKind.{ObjectKind}
use Rattle.document_model.specs.declared.kind.ObjectKind.TheVariants.{VarSet}
use Rattle.document_model.specs.Document.{Cell, Document, Object, Pieces, Property, object_named}
use Rattle.document_model.specs.Kinds.{has_dynamics, is_dynamic_name, known_names}
use Rattle.document_model.specs.Resolution.{has_dynamic, slot_in, spelled_slot}
use Rattle.document_model.specs.Slots.{Row, row_in, row_with, rows, rows_by, rows_in_order, slot_of}
use Rattle.document_model.specs.TypedSlots.{property_slots}
use Rattle.document_model.specs.WellFormed.{IsObject, IsProperty, IsWellFormed, aliases}
use Rattle.document_model.proofs.DistinctNames.{all-in, found-passes, same-told}
use Rattle.document_model.proofs.Members.{and_then_some, from_find}
use Rattle.document_outcomes.proofs.SearchLemmas.{any-false, false-any}
use Rattle.document_outcomes.specs.RefusalNumbers.{bad_name, name_taken, no_object, no_property, not_dynamic}
use Rattle.doc_rules.specs.declared.edit_fault.EditFault.{EditFault}
use Rattle.doc_rules.specs.declared.edit_fault.EditFault.TheVariants.{Refused}
use Rattle.doc_rules.specs.Accepted.{unless_any}
use Rattle.doc_rules.specs.Edits.{Answers}
use Rattle.doc_rules.specs.PropertyEdits.{tests_of_added}
use Rattle.doc_rules.proofs.EditLemmas.{by-true, by-false}
use Rattle.doc_tables.specs.Accessors.{IsNumberOf, IsNumberOfObject}
use Rattle.doc_tables.specs.FindsAll.{FindsAll}
use Rattle.doc_tables.specs.Numbered.{Numbered, name_at, object_at, slot_at}
use Rattle.doc_tables.specs.Primitives.{lacks_property}
use Rattle.doc_tables.specs.VarSets.{HasOneSlot, HoldsVarSets, IsVarSet}
use Rattle.doc_tables.proofs.HeldLemmas.{one_slot}
use Rattle.doc_rules.specs.declared.refusal.Refusal.{Refusal}
use Rattle.doc_rules.specs.Commanded.{IsObjectOf, IsPropertyOf, object_commanded, object_of, object_there, property_commanded, property_in, property_there, refused}
use Rattle.doc_rules.proofs.SlotLemmas.{commanded-in, number-commanded}
use Rattle.doc_rules.specs.ObjectNames.{dynamic_named, foreign_names, is_known, is_of_kind, is_slot_of, is_taken}

-- ---- what is found

some-mapped : {A B : Type 0} (f : A → B) (found : Option A) → is_some (option_map f found) ≡ is_some found
some-mapped f None = refl
some-mapped f (Some x) = refl

found-any : {A : Type 0} (p : A → Bool) (xs : List A) → is_some (find p xs) ≡ list_any p xs
found-any p [] = refl
found-any {A} p (x ∷ xs) =
    elim (p x) as (λ b. is_some (cond b (Some x) (find p xs)) ≡ (b || list_any p xs)) [ true ↦ refl | false ↦ found-any p xs ]

pub is-there : {A : Type 0} (found : Option A) → is_some found ≡ true → (x : A) × (found ≡ Some x)
is-there None h = absurd (cc)
is-there (Some x) h = (x, refl)

pub is-nowhere : {A : Type 0} (found : Option A) → is_some found ≡ false → found ≡ None
is-nowhere None h = refl
is-nowhere (Some x) h = absurd (cc)

or-nothing : (a : Bool) → (a || false) ≡ a
or-nothing true = refl
or-nothing false = refl

-- ---- a VarSet

-- the slots of a property
abbrev property_rows : Property → List Row
property_rows p = rows_in_order (property_slots p.name p.prop) p.contents

one-row : (p : Property) (one : HasOneSlot p) → property_rows p ≡ row_with (Some one.content) (Plain p.name, p.prop) ∷ []
one-row p one =
    let contents : p.contents ≡ one.content ∷ [] = ap (λ (q : Property). q.contents) one.property in
    λ i. rows_in_order (one_slot p.name p.prop one.type i) (contents i)

-- of the slots of properties one has the name where a property has it
any-rows :
    (name : List ℕ) (test : SlotName → Bool) → ((other : List ℕ) → test (Plain other) ≡ same_text other name) → (ps : List Property) → AllByRecursion HasOneSlot ps
    → list_any (λ (r : Row). test r.name) (flat_map property_rows ps) ≡ list_any (λ (p : Property). same_text p.name name) ps
any-rows name test is [] all = refl
any-rows name test is (p ∷ ps) all =
    ap (λ (rs : List Row). list_any (λ (r : Row). test r.name) (rs ++ flat_map property_rows ps)) (one-row p all.0)
    ∙ (λ i. is p.name i || any-rows name test is ps all.1 i)

module _ (d : Document) (o : Object) (set : IsVarSet o) where
  pub set-kind : o.kind ≡ VarSet
  set-kind = ap (λ (q : Object). q.kind) set.object

  set-rows : rows d o ≡ flat_map property_rows o.dynamics
  set-rows = ap (rows_by d o) set-kind

  module _ (name : List ℕ) where
    any-slot : (test : SlotName → Bool) → ((other : List ℕ) → test (Plain other) ≡ same_text other name) → list_any (λ (r : Row). test r.name) (rows d o) ≡ has_dynamic o name
    any-slot test is = ap (list_any (λ (r : Row). test r.name)) set-rows ∙ any-rows name test is o.dynamics set.properties

    -- it has a slot of the name where it has a property of it
    pub has-slot : is_some (slot_in d o (Plain name)) ≡ has_dynamic o name
    has-slot =
        some-mapped (λ (r : Row). slot_of o r.name) (row_in (rows d o) (Plain name))
        ∙ found-any (λ (r : Row). same_slot_name r.name (Plain name)) (rows d o)
        ∙ any-slot (λ (n : SlotName). same_slot_name n (Plain name)) (λ other. refl)

    no-foreign : foreign_names o ≡ []
    no-foreign = ap foreign_names set.object

    no-aliases : aliases o.cells ≡ []
    no-aliases = ap (λ (q : Object). aliases q.cells) set.object

    -- a name is taken where a property has it
    pub taken-dynamic : is_taken o name ≡ has_dynamic o name
    taken-dynamic =
        let kind : is_of_kind o.kind name ≡ false = ap (λ (k : ObjectKind). is_of_kind k name) set-kind in
        (λ i. kind i || has_dynamic o name || is_among name (no-foreign i) || is_among name (no-aliases i))
        ∙ or-nothing (has_dynamic o name || false) ∙ or-nothing (has_dynamic o name)

    -- beside its properties it has two names
    pub known-name : has_dynamic o name ≡ false → is_known d o name ≡ is_among name (known_names VarSet)
    known-name none =
        let spelled : is_some (spelled_slot d o o.kind (Plain name)) ≡ false = ap (λ (k : ObjectKind). is_some (spelled_slot d o k (Plain name))) set-kind ∙ has-slot ∙ none in
        let slots : list_any (λ (r : Row). is_slot_of name r.name) (rows d o) ≡ false = any-slot (is_slot_of name) (λ other. refl) ∙ none in
        let own : Bool = is_among name (known_names VarSet) in
        (λ i. is_among name (known_names (set-kind i)) || slots i || spelled i || is_among name (no-foreign i))
        ∙ or-nothing (own || false || false) ∙ or-nothing (own || false) ∙ or-nothing own

-- the property of a name is there where one has the name
pub dynamic-there : (o : Object) (name : List ℕ) → has_dynamic o name ≡ true → (p : Property) × (dynamic_named o name ≡ Some p) × (p.name ≡ name)
dynamic-there o name h =
    let there = is-there (dynamic_named o name) (found-any (λ (p : Property). same_text p.name name) o.dynamics ∙ h) in
    (there.0, there.1, same-told (there.0).name name (found-passes (λ (p : Property). same_text p.name name) o.dynamics there.0 there.1))

pub dynamic-nowhere : (o : Object) (name : List ℕ) → has_dynamic o name ≡ false → dynamic_named o name ≡ None
dynamic-nowhere o name h = is-nowhere (dynamic_named o name) (found-any (λ (p : Property). same_text p.name name) o.dynamics ∙ h)

pub dynamic-has : (o : Object) (name : List ℕ) (p : Property) → dynamic_named o name ≡ Some p → has_dynamic o name ≡ true
dynamic-has o name p h = sym (found-any (λ (q : Property). same_text q.name name) o.dynamics) ∙ ap is_some h

-- ---- numbers

module _ (t : Numbered) (id : ObjectId) (o : Object) (at : object_at t id.0 ≡ Some o) where
  pub object-in : IsIn o t.document.objects
  object-in =
      let m = and_then_some (object_named t.document) (name_at t id.0) o at in
      from_find (λ (q : Object). same_text q.name m.0) t.document.objects o m.2

  pub object-name : name_at t id.0 ≡ Some o.name
  object-name =
      let m = and_then_some (object_named t.document) (name_at t id.0) o at in
      m.1 ∙ ap Some (sym (same-told o.name m.0 (found-passes (λ (q : Object). same_text q.name m.0) t.document.objects o m.2)))

  -- a number of a slot is found where there is one
  pub number-there : (name : SlotName) (slot : Option SlotId) → IsNumberOf t slot (option_and_then (λ (q : Object). slot_in t.document q name) (object_at t id.0))
      → is_some slot ≡ is_some (slot_in t.document o name)
  number-there name slot h =
      sym (some-mapped (λ (s : SlotId). slot_at t s.0) slot) ∙ ap is_some h
      ∙ some-mapped Some (option_and_then (λ (q : Object). slot_in t.document q name) (object_at t id.0))
      ∙ ap (λ (found : Option Object). is_some (option_and_then (λ (q : Object). slot_in t.document q name) found)) at

  -- the object lacks the properties of which it has none of the name
  pub lacks-none : (name : List ℕ) → lacks_property t id.0 name ≡ not (has_dynamic o name)
  lacks-none name = ap (λ (found : Option Object). option_map_or (λ (q : Object). not (has_dynamic q name)) found true) at

  module _ (holds : HoldsVarSets t.document) where
    pub set-at : IsVarSet o
    set-at = all-in IsVarSet t.document.objects o holds.objects object-in

    -- the number of a slot tells whether there is a property of the name
    pub number-tells : (name : List ℕ) (slot : Option SlotId) → IsNumberOf t slot (option_and_then (λ (q : Object). slot_in t.document q (Plain name)) (object_at t id.0))
        → is_some slot ≡ has_dynamic o name
    number-tells name slot h = number-there (Plain name) slot h ∙ has-slot t.document o set-at name

-- what is no name is the name of no property
pub no_name-dynamic : (d : Document) (o : Object) (name : List ℕ) → IsWellFormed d → IsIn o d.objects → is_name name ≡ false → has_dynamic o name ≡ false
no_name-dynamic d o name is i none =
    false-any (λ (p : Property). same_text p.name name) o.dynamics (λ p j.
    let form = all-in IsObject d.objects o is.objects i in
    let one = all-in (IsProperty o.kind) o.dynamics p form.dynamics j in
    different p.name name (and-left (is_name p.name) _ (and-left (is_property_name p.name) _ one.name)) none) where
      and-left : (a b : Bool) → (a && b) ≡ true → a ≡ true
      and-left true b h = refl
      and-left false b h = absurd (cc)

      different : (a b : List ℕ) → is_name a ≡ true → is_name b ≡ false → same_text a b ≡ false
      different a b named not_named =
          elim (same_text a b) as (λ c. same_text a b ≡ c → c ≡ false) [
            | true ↦ λ e. let same : a ≡ b = same-told a b e in absurd (cc (ap is_name same, named, not_named))
            | false ↦ λ e. refl
          ] refl

-- ---- what commands name

-- the object of a name by its number
pub object-told : (t : Numbered) (name : List ℕ) (found : Option ObjectId) (id : ObjectId) → IsNumberOfObject t found (object_named t.document name) → found ≡ Some id
    → IsObjectOf t (object_of t.document name) (Ok id)
object-told t name found id h is =
    elim (object_named t.document name)
    as (λ (q : Option Object). object_named t.document name ≡ q → IsNumberOfObject t found q → IsObjectOf t (object_there q) (Ok id)) [
      | None ↦ λ e k. absurd (cc)
      | Some o ↦ λ e k.
          let at : name_at t id.0 ≡ Some o.name = cc in
          let same : o.name ≡ name = same-told o.name name (found-passes (λ (q : Object). same_text q.name name) t.document.objects o e) in
          (at, ap (option_and_then (object_named t.document)) at ∙ ap (object_named t.document) same ∙ e)
    ] refl h

-- or the refusal where there is none
pub object-lacking : (t : Numbered) (name : List ℕ) (found : Option ObjectId) → IsNumberOfObject t found (object_named t.document name) → found ≡ None
    → object_of t.document name ≡ Err (refused no_object)
object-lacking t name found h is =
    elim (object_named t.document name) as (λ (q : Option Object). IsNumberOfObject t found q → object_there q ≡ Err (refused no_object)) [
      | None ↦ λ k. refl
      | Some o ↦ λ k. absurd (cc)
    ] h

module _ (t : Numbered) (id : ObjectId) (o : Object) (at : object_at t id.0 ≡ Some o) (holds : HoldsVarSets t.document) (name : List ℕ) (slot : Option SlotId)
    (h : IsNumberOf t slot (option_and_then (λ (q : Object). slot_in t.document q (Plain name)) (object_at t id.0))) where
  -- the property of a slot that is found
  pub property-told : is_some slot ≡ true → (p : Path) → p.slot ≡ Plain name → IsPropertyOf t p (property_in t.document (Plain name) o) (Ok id)
  property-told some p same =
      let q = dynamic-there o name (sym (number-tells t id o at holds name slot h) ∙ some) in
      subst (λ (found : Option Property). IsPropertyOf t p (property_there o (is_known t.document o name) found) (Ok id)) (sym q.1)
      (object-name t id o at, same ∙ ap Plain (sym q.2))

  -- or why there is none
  pub property-lacking : is_some slot ≡ false → (known : Bool) → known ≡ is_among name (known_names VarSet)
      → property_in t.document (Plain name) o ≡ Err (refused (cond known not_dynamic no_property))
  property-lacking none known is =
      let has : has_dynamic o name ≡ false = sym (number-tells t id o at holds name slot h) ∙ none in
      λ i. property_there o ((known-name t.document o (set-at t id o at holds) name has ∙ sym is) i) (dynamic-nowhere o name has i)

-- the property of a path is that of the object that its owner names
pub property-behind :
    (t : Numbered) → FindsAll t.document → (p : Path) (id : ObjectId) (result : Result ObjectId Refusal) → IsNumberOfObject t (Some id) (object_commanded t.document p.owner)
    → ((o : Object) (q : Path) → object_at t id.0 ≡ Some o → q.slot ≡ p.slot → IsPropertyOf t q (property_in t.document p.slot o) result)
    → IsPropertyOf t p (property_commanded t.document p) result
property-behind t finds p id result h each =
    elim (object_commanded t.document p.owner)
    as (λ (q : Option Object). object_commanded t.document p.owner ≡ q → IsNumberOfObject t (Some id) q → IsPropertyOf t p (on_one (property_in t.document p.slot) (object_there q)) result) [
      | None ↦ λ e k. absurd (cc)
      | Some o ↦ λ e k. each o p (number-commanded t finds p.owner id h ∙ e) refl
    ] refl h

-- the object of a property that is named has it
pub property-has :
    (t : Numbered) → FindsAll t.document → (p : Path) (id : ObjectId) (name : List ℕ) → IsPropertyOf t p (property_commanded t.document p) (Ok id) → p.slot ≡ Plain name
    → IsTrue (not (lacks_property t id.0 name))
property-has t finds p id name h same =
    elim (object_commanded t.document p.owner)
    as (λ (q : Option Object). object_commanded t.document p.owner ≡ q → IsPropertyOf t p (on_one (property_in t.document p.slot) (object_there q)) (Ok id) → IsTrue (not (lacks_property t id.0 name))) [
      | None ↦ λ e k. absurd k
      | Some o ↦ λ e k. of_object o e (subst (λ (n : SlotName). IsPropertyOf t p (property_in t.document n o) (Ok id)) same k)
    ] refl h where
      of_property : (o : Object) → IsIn o t.document.objects → (found : Option Property) → dynamic_named o name ≡ found
          → IsPropertyOf t p (property_there o (is_known t.document o name) found) (Ok id) → IsTrue (not (lacks_property t id.0 name))
      of_property o i None e k = absurd k
      of_property o i (Some q) e k =
          let at : object_at t id.0 ≡ Some o = ap (option_and_then (object_named t.document)) k.0 ∙ finds.objects o i in
          ap not (lacks-none t id o at name ∙ ap not (dynamic-has o name q e))

      of_object : (o : Object) → object_commanded t.document p.owner ≡ Some o → IsPropertyOf t p (property_in t.document (Plain name) o) (Ok id) → IsTrue (not (lacks_property t id.0 name))
      of_object o e k = of_property o (commanded-in t.document p.owner o e) (dynamic_named o name) refl k

-- ---- names of new properties

and-true : (a : Bool) → (a && true) ≡ a
and-true true = refl
and-true false = refl

module _ (o : Object) (set : IsVarSet o) (d : Document) (name : List ℕ) where
  may-have : not (has_dynamics o.kind) ≡ false
  may-have = ap (λ (k : ObjectKind). not (has_dynamics k)) (set-kind d o set)

  dynamic-name : is_dynamic_name o.kind name ≡ is_property_name name
  dynamic-name = ap (λ (k : ObjectKind). is_dynamic_name k name) (set-kind d o set) ∙ and-true (is_property_name name)

  pub added-taken : has_dynamic o name ≡ true → (told : EditFault) → told ≡ Refused (refused name_taken)
      → Answers {A = List ℕ} (unless_any (tests_of_added o name) (Ok name)) (Err told)
  added-taken has told is =
      subst (λ (f : EditFault). Answers {A = List ℕ} (unless_any (tests_of_added o name) (Ok name)) (Err f)) (sym is)
      (by-false (not (has_dynamics o.kind)) _ _ (Err (Refused (refused name_taken))) may-have
      (by-true (is_taken o name) _ _ (Err (Refused (refused name_taken))) (taken-dynamic d o set name ∙ has) refl))

  pub added-bad : has_dynamic o name ≡ false → is_property_name name ≡ false → (told : EditFault) → told ≡ Refused (refused bad_name)
      → Answers {A = List ℕ} (unless_any (tests_of_added o name) (Ok name)) (Err told)
  added-bad has bad told is =
      subst (λ (f : EditFault). Answers {A = List ℕ} (unless_any (tests_of_added o name) (Ok name)) (Err f)) (sym is)
      (by-false (not (has_dynamics o.kind)) _ _ (Err (Refused (refused bad_name))) may-have
      (by-false (is_taken o name) _ _ (Err (Refused (refused bad_name))) (taken-dynamic d o set name ∙ has)
      (by-true (not (is_dynamic_name o.kind name)) _ _ (Err (Refused (refused bad_name))) (ap not (dynamic-name ∙ bad)) refl)))

  pub added-free : has_dynamic o name ≡ false → is_property_name name ≡ true → (given : List ℕ) → given ≡ name
      → Answers {A = List ℕ} (unless_any (tests_of_added o name) (Ok name)) (Ok given)
  added-free has good given is =
      by-false (not (has_dynamics o.kind)) _ _ (Ok given) may-have
      (by-false (is_taken o name) _ _ (Ok given) (taken-dynamic d o set name ∙ has)
      (by-false (not (is_dynamic_name o.kind name)) _ _ (Ok given) (ap not (dynamic-name ∙ good)) is))
