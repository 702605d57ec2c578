-- Documents that are filled object by object, and property by property.
use Rattle.std.proofs.Common.{◌≡◌, ◌+◌, ◌≤◌, ◌<◌, ◌^◌, ◌&&◌, ◌||◌, ℕ, zero, suc, Bool, true, false, not, cond, leb, List, [], ◌∷◌, ◌++◌, map, length, take, drop, get_or, sum_by, Option, Some, None, refl, sym, ap, subst, ◌∙◌, append-nil, length-append, arith}
use Rattle.std.specs.List.{find, flat_map, list_any, list_all, AllByRecursion}
use Rattle.std.specs.Option.{option_and_then, option_map_or}
use Rattle.std.proofs.lemmas.Bool.{and_parts, leb-true}
use Rattle.std.proofs.lemmas.Grind.{flat_map-append}
use Rattle.std.proofs.lemmas.List.{map-append, length-map, take-append-drop, take_more}
use Rattle.std.proofs.lemmas.List.Folds.{list_all-map}
use Rattle.std.proofs.lemmas.List.Sums.{sum_by-cons}
use Rattle.object_paths.specs.declared.slot_name.SlotName.TheVariants.{Plain}
use Rattle.object_paths.specs.Slots.{Slot, same_text}
use Rattle.property_types.specs.declared.prop_type.PropType.TheVariants.{Float}
use Rattle.property_types.specs.Types.{zero_value}
use Rattle.property_types.specs.Reserved.{is_among, are_distinct}
use Rattle.property_types.specs.SoundPlans.{is_property_name}
use Rattle.document_model.specs.declared.content.Content.TheVariants.{Own}
use Rattle.document_model.specs.declared.content.Content.{Content}
use Rattle.document_model.specs.declared.kind.ObjectKind.TheVariants as kind
use Rattle.document_model.specs.Document.{Document, Object, Property, object_named}
use Rattle.document_model.specs.Edited.{input_with, new_property, property_with}
use Rattle.document_model.specs.Slots.{Row, rows, rows_by, rows_in_order, slot_of, slots}
use Rattle.document_model.specs.TypedSlots.{property_slots}
use Rattle.doc_tables.specs.Numbered.{Numbered, name_at, object_at}
use Rattle.doc_tables.specs.Primitives.{lacks_property}
use Rattle.doc_tables.specs.VarSets.{HoldsVarSets, IsVarSet}
use Rattle.doc_tables.proofs.Finding.{same_text-refl}
use Rattle.fcdoc_file.specs.Filled.{with_first, with_float}
use Rattle.fcdoc_file.specs.FirstDocument.{first_document, float_property, pure_number, var_set_object}
use Rattle.fcdoc_file.specs.FirstForm.{FirstObject, FirstProperty, has_own_names, is_within_limits, stands_together}
use Rattle.fcdoc_file.specs.Rows.{object_of, property_of}
use Rattle.fcdoc_file.specs.declared.var_set.FloatProperty.{FloatProperty}
use Rattle.fcdoc_file.specs.declared.var_set.VarSet.{VarSet}
use Rattle.fcdoc_file.proofs.ReadingLemmas.{keys_left}
use Rattle.fcdoc_file.proofs.StandingLemmas.{property_names}

-- ---- what stands last, with a name that nothing before it has
last-found : (os : List Object) (q : Object) (name : List ℕ) → same_text q.name name ≡ true → find (λ (o : Object). same_text o.name name) os ≡ None
    → find (λ (o : Object). same_text o.name name) (os ++ q ∷ []) ≡ Some q
last-found [] q name own none = ap (λ b. cond b (Some q) None) own
last-found (o ∷ os) q name own none =
    elim (same_text o.name name) as (λ b. cond b (Some o) (find (λ (x : Object). same_text x.name name) os) ≡ None → cond b (Some o) (find (λ (x : Object). same_text x.name name) (os ++ q ∷ [])) ≡ Some q) [
      | true ↦ λ e. absurd (cc)
      | false ↦ λ e. last-found os q name own e
    ] none

-- a change of the object of that name changes the last alone
last-changed : (os : List Object) (q : Object) (name : List ℕ) (change : Object → Object) → same_text q.name name ≡ true → find (λ (o : Object). same_text o.name name) os ≡ None
    → map (λ (o : Object). cond (same_text o.name name) (change o) o) (os ++ q ∷ []) ≡ os ++ change q ∷ []
last-changed [] q name change own none = ap (λ b. cond b (change q) q ∷ []) own
last-changed (o ∷ os) q name change own none =
    elim (same_text o.name name) as (λ b. cond b (Some o) (find (λ (x : Object). same_text x.name name) os) ≡ None → cond b (change o) o ∷ map (λ (x : Object). cond (same_text x.name name) (change x) x) (os ++ q ∷ []) ≡ o ∷ (os ++ change q ∷ [])) [
      | true ↦ λ e. absurd (cc)
      | false ↦ λ e. ap (λ (rest : List Object). o ∷ rest) (last-changed os q name change own e)
    ] none

-- another content in the slot of that name is one in the last property alone
last-written : (ps : List FirstProperty) (p : FirstProperty) → list_any (λ (q : FirstProperty). same_text q.name p.name) ps ≡ false
    → map (property_with (Plain p.name) (Own (pure_number p.value))) (map float_property ps ++ new_property p.name Float ∷ []) ≡ map float_property (ps ++ p ∷ [])
last-written [] p none =
    ap (λ b. record (float_property p) { contents = cond b (Own (pure_number p.value)) (Own (zero_value Float)) ∷ [] } ∷ []) (same_text-refl p.name)
last-written (q ∷ qs) p none =
    elim (same_text q.name p.name) as (λ b. (b || list_any (λ (r : FirstProperty). same_text r.name p.name) qs) ≡ false
    → record (float_property q) { contents = cond b (Own (pure_number p.value)) (Own (pure_number q.value)) ∷ [] }
    ∷ map (property_with (Plain p.name) (Own (pure_number p.value))) (map float_property qs ++ new_property p.name Float ∷ []) ≡ float_property q ∷ map float_property (qs ++ p ∷ [])) [
      | true ↦ λ e. absurd (cc)
      | false ↦ λ e. ap (λ (rest : List Property). float_property q ∷ rest) (last-written qs p e)
    ] none

floats-any : (name : List ℕ) (ps : List FirstProperty) → list_any (λ (q : Property). same_text q.name name) (map float_property ps) ≡ list_any (λ (q : FirstProperty). same_text q.name name) ps
floats-any name [] = refl
floats-any name (p ∷ ps) = ap (λ b. same_text p.name name || b) (floats-any name ps)

-- ---- a document with one more object
-- what each passes, the one at a place passes
pub all-item : {A : Type 0} (p : A → Bool) (xs : List A) (k : ℕ) (x : A) → k < length xs → x ≡ get_or xs k x → list_all p xs ≡ true → p x ≡ true
all-item p [] k x below is all = absurd (omega arith)
all-item p (y ∷ ys) zero x below is all = ap p is ∙ (and_parts (p y) (list_all p ys) all).0
all-item p (y ∷ ys) (suc k) x below is all = all-item p ys k x (omega arith) is (and_parts (p y) (list_all p ys) all).1

module _ (d : Document) (o : FirstObject) (new : object_named d o.name ≡ None) where
  pub lacks-last : (t : Numbered) (number : ℕ) → t.document ≡ with_first d o → name_at t number ≡ Some o.name → (name : List ℕ) → list_any (λ (q : FirstProperty). same_text q.name name) o.properties ≡ false → lacks_property t number name ≡ true
  lacks-last t number is at name none =
      let found : object_at t number ≡ Some (var_set_object o) =
      (λ j. option_and_then (object_named (is j)) (at j)) ∙ last-found d.objects (var_set_object o) o.name (same_text-refl o.name) new
      in
      ap (λ (x : Option Object). option_map_or (λ (q : Object). not (list_any (λ (p : Property). same_text p.name name) q.dynamics)) x true) found
      ∙ ap not (floats-any name o.properties ∙ none)

  module _ (p : FirstProperty) (none : list_any (λ (q : FirstProperty). same_text q.name p.name) o.properties ≡ false) where
    abbrev value : Content
    value = Own (pure_number p.value)

    abbrev longer : FirstObject
    longer = record { name = o.name; properties = o.properties ++ p ∷ [] }

    abbrev added : Object → Object
    added q = record q { dynamics = q.dynamics ++ new_property p.name Float ∷ [] }

    abbrev written : Object → Object
    written q = record q { inputs = map (input_with (Plain p.name) value) q.inputs; dynamics = map (property_with (Plain p.name) value) q.dynamics }

    objects-grown : map (λ (q : Object). cond (same_text q.name o.name) (written q) q) (map (λ (q : Object). cond (same_text q.name o.name) (added q) q) (d.objects ++ var_set_object o ∷ []))
        ≡ d.objects ++ var_set_object longer ∷ []
    objects-grown =
        ap (map (λ (q : Object). cond (same_text q.name o.name) (written q) q)) (last-changed d.objects (var_set_object o) o.name added (same_text-refl o.name) new)
        ∙ last-changed d.objects (added (var_set_object o)) o.name written (same_text-refl o.name) new
        ∙ ap (λ (ps : List Property). d.objects ++ record (var_set_object o) { dynamics = ps } ∷ []) (last-written o.properties p none)

    -- one more property of the object that stands last
    pub float-last : with_float (with_first d o) o.name p ≡ with_first d longer
    float-last = λ j. record d { objects = objects-grown j }

-- ---- slots of documents of VarSets
abbrev slots_by : Document → Object → List Slot
slots_by d o = map (λ (r : Row). slot_of o r.name) (rows d o)

-- they hang on the object alone
rows-own : (d e : Document) (os : List Object) → AllByRecursion IsVarSet os → flat_map (slots_by d) os ≡ flat_map (slots_by e) os
rows-own d e [] h = refl
rows-own d e (o ∷ os) h =
    let kind_is : o.kind ≡ kind.VarSet = ap (λ (q : Object). q.kind) h.0.object in
    λ j. map (λ (r : Row). slot_of o r.name) ((ap (rows_by d o) kind_is ∙ sym (ap (rows_by e o) kind_is)) j) ++ rows-own d e os h.1 j

floats-rows : (ps : List FirstProperty) → length (flat_map (λ (p : Property). rows_in_order (property_slots p.name p.prop) p.contents) (map float_property ps)) ≡ length ps
floats-rows [] = refl
floats-rows (p ∷ ps) = ap suc (floats-rows ps)

length-first : (d : Document) (o : FirstObject) → length (slots_by d (var_set_object o)) ≡ length o.properties
length-first d o =
    let named : Row → Slot = λ r. slot_of (var_set_object o) r.name in
    length-map (rows d (var_set_object o)) named ∙ floats-rows o.properties

pub slots-more : (d : Document) (o : FirstObject) → HoldsVarSets d → length (slots (with_first d o)) ≡ length (slots d) + length o.properties
slots-more d o holds =
    let e = with_first d o in
    let q = var_set_object o in
    let parts : slots e ≡ flat_map (slots_by d) d.objects ++ (slots_by e q ++ []) =
    flat_map-append (slots_by e) d.objects (q ∷ []) ∙ ap (λ (l : List Slot). l ++ (slots_by e q ++ [])) (rows-own e d d.objects holds.objects)
    in
    omega (
      arith,
      ap length parts,
      length-append (flat_map (slots_by d) d.objects) (slots_by e q ++ []),
      ap length (append-nil (slots_by e q)),
      length-first e o,
    )

slots-all : (d : Document) (os : List FirstObject) → length (flat_map (slots_by d) (map var_set_object os)) ≡ sum_by (λ (q : FirstObject). length q.properties) os
slots-all d [] = refl
slots-all d (o ∷ os) =
    omega (
      arith,
      length-append (slots_by d (var_set_object o)) (flat_map (slots_by d) (map var_set_object os)),
      length-first d o,
      slots-all d os,
      sum_by-cons (λ (q : FirstObject). length q.properties) o os,
    )

-- ---- names that no earlier one is
first_false : (a b : Bool) → (a || b) ≡ false → a ≡ false
first_false true b e = e
first_false false b e = refl

second_false : (a b : Bool) → (a || b) ≡ false → b ≡ false
second_false true b e = absurd (cc)
second_false false b e = e

not_true : (b : Bool) → not b ≡ true → b ≡ false
not_true true e = sym e
not_true false e = refl

module _ {A : Type 0} (key : A → List ℕ) where
  apart-behind : (a : List ℕ) (front : List A) (x : A) (back : List A) → is_among a (map key (front ++ x ∷ back)) ≡ false → same_text a (key x) ≡ false
  apart-behind a [] x back e = first_false (same_text a (key x)) (is_among a (map key back)) e
  apart-behind a (y ∷ front) x back e = apart-behind a front x back (second_false (same_text a (key y)) (is_among a (map key (front ++ x ∷ back))) e)

  new-before : (front : List A) (x : A) (back : List A) → are_distinct (map key (front ++ x ∷ back)) ≡ true → list_any (λ (y : A). same_text (key y) (key x)) front ≡ false
  new-before [] x back e = refl
  new-before (y ∷ front) x back e =
      let parts = and_parts (not (is_among (key y) (map key (front ++ x ∷ back)))) (are_distinct (map key (front ++ x ∷ back))) e in
      let other : same_text (key y) (key x) ≡ false = apart-behind (key y) front x back (not_true (is_among (key y) (map key (front ++ x ∷ back))) parts.0) in
      ap (λ b. b || list_any (λ (z : A). same_text (key z) (key x)) front) other ∙ new-before front x back parts.1

none-named : (front : List FirstObject) (name : List ℕ) → list_any (λ (o : FirstObject). same_text o.name name) front ≡ false → object_named (first_document front) name ≡ None
none-named [] name e = refl
none-named (o ∷ os) name e =
    ap (λ b. cond b (Some (var_set_object o)) (object_named (first_document os) name)) (first_false (same_text o.name name) (list_any (λ (q : FirstObject). same_text q.name name) os) e)
    ∙ none-named os name (second_false (same_text o.name name) (list_any (λ (q : FirstObject). same_text q.name name) os) e)

-- ---- a member of a list that is gone through
split-at : {A : Type 0} (xs : List A) (i : ℕ) (x : A) → i < length xs → x ≡ get_or xs i x → xs ≡ take i xs ++ x ∷ drop (i + 1) xs
split-at {A} xs i x below is = sym (take-append-drop i xs) ∙ ap (λ (l : List A). take i xs ++ l) (keys_left xs i x x below is refl)

one-taken : {A : Type 0} (xs : List A) (i : ℕ) (x : A) → i < length xs → x ≡ get_or xs i x → take (i + 1) xs ≡ take i xs ++ x ∷ []
one-taken {A} xs i x below is = take_more xs i x below ∙ ap (λ (y : A). take i xs ++ y ∷ []) (sym is)

module _ (ps : List FloatProperty) (i : ℕ) (x : FloatProperty) (below : i < length ps) (is : x ≡ get_or ps i x) where
  pub properties-more : map property_of (take i ps) ++ property_of x ∷ [] ≡ map property_of (take (i + 1) ps)
  properties-more = sym (map-append property_of (take i ps) (x ∷ [])) ∙ ap (map property_of) (sym (one-taken ps i x below is))

  pub property-new : are_distinct (map (λ (p : FloatProperty). p.name) ps) ≡ true → list_any (λ (q : FirstProperty). same_text q.name x.name) (map property_of (take i ps)) ≡ false
  property-new distinct =
      new-before (λ (p : FirstProperty). p.name) (map property_of (take i ps)) (property_of x) (map property_of (drop (i + 1) ps))
      (subst (λ (l : List FirstProperty). are_distinct (map (λ (p : FirstProperty). p.name) l) ≡ true)
      (ap (map property_of) (split-at ps i x below is) ∙ map-append property_of (take i ps) (x ∷ drop (i + 1) ps))
      (ap are_distinct (property_names ps) ∙ distinct))

-- ---- all objects
document-more : (os : List FirstObject) (o : FirstObject) → with_first (first_document os) o ≡ first_document (os ++ o ∷ [])
document-more os o = λ j. record { objects = sym (map-append var_set_object os (o ∷ [])) j; attributes = []; before = []; between = []; after = [] }

properties-before : (front : List FirstObject) (o : FirstObject) (back : List FirstObject) → sum_by (λ (q : FirstObject). length q.properties) front + length o.properties ≤ sum_by (λ (q : FirstObject). length q.properties) (front ++ o ∷ back)
properties-before [] o back = omega (arith, sum_by-cons (λ (q : FirstObject). length q.properties) o back)
properties-before (q ∷ qs) o back =
    omega (
      arith,
      properties-before qs o back,
      sum_by-cons (λ (x : FirstObject). length x.properties) q (qs ++ o ∷ back),
      sum_by-cons (λ (x : FirstObject). length x.properties) q qs,
    )

all-at : {A : Type 0} (test : A → Bool) (front : List A) (x : A) (back : List A) → list_all test (front ++ x ∷ back) ≡ true → test x ≡ true
all-at test [] x back e = (and_parts (test x) (list_all test back) e).0
all-at test (y ∷ front) x back e = all-at test front x back (and_parts (test y) (list_all test (front ++ x ∷ back)) e).1

module _ (os : List VarSet) (i : ℕ) (x : VarSet) (below : i < length os) (is : x ≡ get_or os i x) where
  abbrev front : List FirstObject
  front = map object_of (take i os)

  abbrev back : List FirstObject
  back = map object_of (drop (i + 1) os)

  pub objects-more : with_first (first_document front) (object_of x) ≡ first_document (map object_of (take (i + 1) os))
  objects-more =
      document-more front (object_of x)
      ∙ ap first_document (sym (map-append object_of (take i os) (x ∷ [])) ∙ ap (map object_of) (sym (one-taken os i x below is)))

  split-objects : map object_of os ≡ front ++ object_of x ∷ back
  split-objects = ap (map object_of) (split-at os i x below is) ∙ map-append object_of (take i os) (x ∷ drop (i + 1) os)

  module _ (together : stands_together (map object_of os) ≡ true) where
    split-together : stands_together (front ++ object_of x ∷ back) ≡ true
    split-together = ap stands_together (sym split-objects) ∙ together

    names-and-own : (are_distinct (map (λ (o : FirstObject). o.name) (front ++ object_of x ∷ back)) && list_all has_own_names (front ++ object_of x ∷ back)) ≡ true
    names-and-own =
        (and_parts (are_distinct (map (λ (o : FirstObject). o.name) (front ++ object_of x ∷ back)) && list_all has_own_names (front ++ object_of x ∷ back)) (is_within_limits (front ++ object_of x ∷ back)) split-together).0

    pub object-new : object_named (first_document front) x.name ≡ None
    object-new =
        none-named front x.name (new-before (λ (o : FirstObject). o.name) front (object_of x) back
        (and_parts (are_distinct (map (λ (o : FirstObject). o.name) (front ++ object_of x ∷ back))) (list_all has_own_names (front ++ object_of x ∷ back)) names-and-own).0)

    pub properties-distinct : are_distinct (map (λ (p : FloatProperty). p.name) x.properties.items) ≡ true
    properties-distinct =
        let own = all-at has_own_names front (object_of x) back (and_parts (are_distinct (map (λ (o : FirstObject). o.name) (front ++ object_of x ∷ back))) (list_all has_own_names (front ++ object_of x ∷ back)) names-and-own).1 in
        ap are_distinct (sym (property_names x.properties.items))
        ∙ (and_parts (are_distinct (map (λ (p : FirstProperty). p.name) (map property_of x.properties.items))) (list_all (λ (p : FirstProperty). is_property_name p.name) (map property_of x.properties.items)) own).0

    pub properties-named : list_all (λ (p : FloatProperty). is_property_name p.name) x.properties.items ≡ true
    properties-named =
        let own = all-at has_own_names front (object_of x) back (and_parts (are_distinct (map (λ (o : FirstObject). o.name) (front ++ object_of x ∷ back))) (list_all has_own_names (front ++ object_of x ∷ back)) names-and-own).1 in
        sym (list_all-map (λ (p : FirstProperty). is_property_name p.name) property_of x.properties.items)
        ∙ (and_parts (are_distinct (map (λ (p : FirstProperty). p.name) (map property_of x.properties.items))) (list_all (λ (p : FirstProperty). is_property_name p.name) (map property_of x.properties.items)) own).1

    limits : (leb (length (front ++ object_of x ∷ back)) 4096 ≡ true) × (leb (sum_by (λ (o : FirstObject). length o.properties) (front ++ object_of x ∷ back)) 65536 ≡ true)
    limits =
        and_parts (leb (length (front ++ object_of x ∷ back)) 4096) (leb (sum_by (λ (o : FirstObject). length o.properties) (front ++ object_of x ∷ back)) 65536)
        (and_parts (are_distinct (map (λ (o : FirstObject). o.name) (front ++ object_of x ∷ back)) && list_all has_own_names (front ++ object_of x ∷ back)) (is_within_limits (front ++ object_of x ∷ back)) split-together).1

    pub few-objects : length (map var_set_object front) + 1 < 2 ^ 32
    few-objects =
        let within : length (front ++ object_of x ∷ back) ≤ 4096 = leb-true (length (front ++ object_of x ∷ back)) 4096 limits.0 in
        omega (arith, length-append front (object_of x ∷ back), length-map front var_set_object)

    pub few-slots : length (slots (first_document front)) + length x.properties.items < 2 ^ 32
    few-slots =
        let within : sum_by (λ (o : FirstObject). length o.properties) (front ++ object_of x ∷ back) ≤ 65536 = leb-true (sum_by (λ (o : FirstObject). length o.properties) (front ++ object_of x ∷ back)) 65536 limits.1 in
        omega (arith, properties-before front (object_of x) back, slots-all (first_document front) front, length-map x.properties.items property_of)
