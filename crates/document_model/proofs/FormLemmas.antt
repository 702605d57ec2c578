-- New objects and properties are well-formed, and changed documents stay so.
use Rattle.std.proofs.Common.{◌≡◌, inl, inr, ℕ, Bool, true, false, cond, not, List, [], ◌∷◌, ◌++◌, map, Some, None, refl, sym, ap, subst, ◌∙◌, lit≤, append-nil, append_assoc, codes}
use Rattle.std.specs.Prelude.{IsTrue}
use Rattle.std.specs.List.{filter, AllByRecursion}
use Rattle.std.specs.Str.{is_utf8, chars}
use Rattle.std.proofs.lemmas.Bool.{or_right}
use Rattle.std.proofs.lemmas.List.{map_push}
use lib.Utf8.{encode}
use Rattle.fc_base.specs.Graph.{IsIn}
use Rattle.fc_base.specs.Places.{Place}
use Rattle.fc_base.specs.Texts.{is_name, is_label}
use Rattle.object_paths.specs.declared.slot_name.SlotName.{SlotName}
use Rattle.object_paths.specs.Slots.{Slot, same_text, same_slot_name}
use Rattle.property_types.specs.declared.plan.InputPlan.{InputPlan}
use Rattle.property_types.specs.declared.prop_type.PropType.{PropType}
use Rattle.property_types.specs.declared.prop_type.PropType.TheVariants as prop
use Rattle.property_types.specs.Plans.{Slots}
use Rattle.property_types.specs.Reserved.{is_among, are_distinct}
use Rattle.property_types.specs.Types.{zero_value}
use Rattle.document_model.specs.declared.content.Content.{Content}
use Rattle.document_model.specs.declared.content.Content.TheVariants.{Own}
use Rattle.document_model.specs.declared.kind.ObjectKind.{ObjectKind}
use Rattle.document_model.specs.declared.kind.ObjectKind.TheVariants.{VarSet, Sheet, Link, Feature, Foreign}
use Rattle.document_model.specs.Contents.{IsContentOf, AreContents, AreInputs}
use Rattle.document_model.specs.Document.{Document, Object, Property, Cell, object_named}
use Rattle.document_model.specs.Edited.{zeroed, at_default, first_inputs, new_object, with_object, with_changed, new_property, with_property, contents_with, property_with, input_with, with_content, without_object, without_dynamic, without_property}
use Rattle.document_model.specs.Kinds.{FollowsPlans, HasKindOfType, has_dynamics, has_members, is_dynamic_name, is_link, is_sheet, kind_of_type, names_of_kind, type_of_kind}
use Rattle.document_model.specs.TypedSlots.{property_slots, placement_slots, link_slots, unplaced_slots, plan_slots, input_slots, dynamic_slots}
use Rattle.document_model.specs.WellFormed.{IsKind, IsPlan, IsProperty, IsObject, IsWellFormed, Only, is_added_type}
use Rattle.document_model.proofs.DistinctNames.{distinct-end, distinct-fewer, distinct-fewer_behind, only-found, not-among, all-in, all-end, all-fewer, all-changed, names-kept}
use Rattle.document_model.proofs.Members.{IsIn-left, IsIn-right, IsIn-flat_map}

-- ---- what is new

-- the zero of each type is a value of it
pub IsContentOf-zero_value : (type : PropType) → IsContentOf type (Own (zero_value type))
unfolding is_utf8 chars encode
IsContentOf-zero_value prop.Float = ((lit≤ tt, record { eight = refl; each = refl }), refl)
IsContentOf-zero_value prop.Integer = ((lit≤ tt, record { eight = refl; each = refl }), refl)
IsContentOf-zero_value prop.Percent = ((lit≤ tt, record { eight = refl; each = refl }), refl)
IsContentOf-zero_value prop.Bool = (tt, refl)
IsContentOf-zero_value prop.String = (refl, refl)
IsContentOf-zero_value prop.Length = ((lit≤ tt, record { eight = refl; each = refl }), refl)
IsContentOf-zero_value prop.Distance = ((lit≤ tt, record { eight = refl; each = refl }), refl)
IsContentOf-zero_value prop.Angle = ((lit≤ tt, record { eight = refl; each = refl }), refl)
IsContentOf-zero_value prop.Area = ((lit≤ tt, record { eight = refl; each = refl }), refl)
IsContentOf-zero_value prop.Volume = ((lit≤ tt, record { eight = refl; each = refl }), refl)
IsContentOf-zero_value prop.Mass = ((lit≤ tt, record { eight = refl; each = refl }), refl)
IsContentOf-zero_value prop.Time = ((lit≤ tt, record { eight = refl; each = refl }), refl)
IsContentOf-zero_value prop.Speed = ((lit≤ tt, record { eight = refl; each = refl }), refl)
IsContentOf-zero_value prop.Force = ((lit≤ tt, record { eight = refl; each = refl }), refl)
IsContentOf-zero_value prop.Pressure = ((lit≤ tt, record { eight = refl; each = refl }), refl)
IsContentOf-zero_value prop.Density = ((lit≤ tt, record { eight = refl; each = refl }), refl)
IsContentOf-zero_value prop.Placement = ((lit≤ tt, record { eight = refl; each = refl }), refl)
IsContentOf-zero_value prop.Turn = ((lit≤ tt, record { eight = refl; each = refl }), refl)

zeroed-inputs : (slots : List (SlotName × PropType)) → AreInputs slots (map zeroed slots)
zeroed-inputs [] = tt
zeroed-inputs (slot ∷ slots) = (refl, IsContentOf-zero_value slot.1, zeroed-inputs slots)

zeroed-contents : (slots : List (SlotName × PropType)) → AreContents slots (map (λ (slot : SlotName × PropType). Own (zero_value slot.1)) slots)
zeroed-contents [] = tt
zeroed-contents (slot ∷ slots) = (IsContentOf-zero_value slot.1, zeroed-contents slots)

default-inputs : (inputs : List InputPlan) → AllByRecursion (λ (i : InputPlan). IsContentOf i.prop (Own i.default)) inputs → AreInputs (unplaced_slots inputs) (map at_default inputs)
default-inputs [] all = tt
default-inputs (i ∷ inputs) all = (refl, all.0, default-inputs inputs all.1)

inputs-joined :
    (ss : List (SlotName × PropType)) (is : List (SlotName × Content)) (ss' : List (SlotName × PropType)) (is' : List (SlotName × Content))
    → AreInputs ss is → AreInputs ss' is' → AreInputs (ss ++ ss') (is ++ is')
inputs-joined [] [] ss' is' h g = g
inputs-joined [] (i ∷ is) ss' is' h g = absurd h
inputs-joined (s ∷ ss) [] ss' is' h g = absurd h
inputs-joined (s ∷ ss) (i ∷ is) ss' is' h g = (h.0, h.1, inputs-joined ss is ss' is' h.2 g)

placed-inputs : (placed : Bool) (slots : List (SlotName × PropType)) → AreInputs (cond placed slots []) (cond placed (map zeroed slots) [])
placed-inputs true slots = zeroed-inputs slots
placed-inputs false slots = tt

plan-inputs : (plan : Slots) → IsPlan plan → AreInputs (plan_slots plan) (first_inputs (Feature plan))
plan-inputs plan is =
    inputs-joined (unplaced_slots plan.inputs) (map at_default plan.inputs)
    (cond plan.placed (placement_slots (codes "Placement")) []) (cond plan.placed (map zeroed (placement_slots (codes "Placement"))) [])
    (default-inputs plan.inputs is.defaults) (placed-inputs plan.placed (placement_slots (codes "Placement")))

first-inputs : (kind : ObjectKind) → IsKind kind → AreInputs (input_slots kind) (first_inputs kind)
first-inputs VarSet is = tt
first-inputs Sheet is = tt
first-inputs Link is = zeroed-inputs link_slots
first-inputs (Feature plan) is = plan-inputs plan is
first-inputs (Foreign type) is = tt

first-names : (kind : ObjectKind) → IsKind kind → IsTrue (are_distinct (names_of_kind kind ++ []))
first-names VarSet is = refl
first-names Sheet is = refl
first-names Link is = refl
first-names (Feature plan) is = ap are_distinct (append-nil (names_of_kind (Feature plan))) ∙ is.sound.distinct
first-names (Foreign type) is = refl

only-nothing : (A : Type 0) (may : Bool) → Only {A = A} may []
only-nothing A true = tt
only-nothing A false = refl

-- a new object of any kind is well-formed
pub IsObject-new_object : (name label : List ℕ) (kind : ObjectKind) → IsTrue (is_name name) → IsTrue (is_label label) → IsKind kind → IsObject (new_object name label kind)
IsObject-new_object name label kind named labelled is = record {
  name = named;
  label = labelled;
  kind = is;
  inputs = first-inputs kind is;
  only_dynamics = only-nothing Property (has_dynamics kind);
  dynamics = tt;
  distinct = first-names kind is;
  only_cells = only-nothing (Place × Cell) (is_sheet kind);
  cells = tt;
  cells_in_order = refl;
  aliases = refl;
  target = record { only_links = or_right (is_link kind) true refl; name = tt };
  only_overrides = only-nothing (SlotName × Content) (is_link kind);
  overrides = tt;
  overrides_in_order = refl;
  only_members = only-nothing (List ℕ) (has_members kind);
  members = refl;
  kept = refl;
  attributes = refl;
  pieces = record { in_object = refl; in_properties = refl; only_in_cells = only-nothing (List ℕ) (is_sheet kind); in_cells = refl };
}

-- a new property of a type that may be added is well-formed
pub IsProperty-new_property : (kind : ObjectKind) (name : List ℕ) (type : PropType) → IsTrue (is_dynamic_name kind name) → IsTrue (is_added_type type) → IsProperty kind (new_property name type)
unfolding is_utf8 chars encode
IsProperty-new_property kind name type named added = record {
  name = named;
  type = added;
  group = refl;
  doc = refl;
  attributes = refl;
  contents = zeroed-contents (property_slots name type);
}

-- ---- objects that are added, changed and removed

pub IsWellFormed-with_object : (d : Document) (o : Object) → IsWellFormed d → IsObject o → object_named d o.name ≡ None → IsWellFormed (with_object d o)
IsWellFormed-with_object d o is one new = record {
  objects = all-end IsObject d.objects o is.objects one;
  distinct =
      ap are_distinct (map_push (λ (q : Object). q.name) d.objects o)
      ∙ distinct-end o.name (map (λ (q : Object). q.name) d.objects) is.distinct (not-among (λ (q : Object). q.name) o.name d.objects new);
  attributes = is.attributes;
  before = is.before;
  between = is.between;
  after = is.after;
}

pub IsWellFormed-without_object : (d : Document) (name : List ℕ) → IsWellFormed d → IsWellFormed (without_object d name)
IsWellFormed-without_object d name is = record {
  objects = all-fewer IsObject (λ (o : Object). not (same_text o.name name)) d.objects is.objects;
  distinct = distinct-fewer (λ (o : Object). o.name) (λ (o : Object). not (same_text o.name name)) d.objects is.distinct;
  attributes = is.attributes;
  before = is.before;
  between = is.between;
  after = is.after;
}

-- the change of the objects of a name
abbrev pub changed_if : List ℕ → (Object → Object) → Object → Object
changed_if name change o = cond (same_text o.name name) (change o) o

-- an object that a change keeps well-formed, and whose name it keeps
abbrev pub IsKept : (Object → Object) → Object → Type 0
IsKept change o = IsObject (change o) × ((change o).name ≡ o.name)

kept-if : (name : List ℕ) (change : Object → Object) (o : Object) → (IsTrue (same_text o.name name) → IsKept change o) → IsObject o → IsKept (changed_if name change) o
kept-if name change o kept is =
    elim (same_text o.name name) as (λ b. same_text o.name name ≡ b → IsObject (cond b (change o) o) × ((cond b (change o) o).name ≡ o.name)) [
      | true ↦ λ e. kept e
      | false ↦ λ e. (is, refl)
    ] refl

-- a change that keeps the name and the form of the objects of a name keeps the form of the document
pub IsWellFormed-with_changed :
    (d : Document) (name : List ℕ) (change : Object → Object) → IsWellFormed d
    → ((o : Object) → IsIn o d.objects → IsTrue (same_text o.name name) → IsObject o → IsObject (change o) × ((change o).name ≡ o.name))
    → IsWellFormed (with_changed d name change)
IsWellFormed-with_changed d name change is kept = record {
  objects = all-changed IsObject (changed_if name change) d.objects (λ o i one. (kept-if name change o (λ e. kept o i e one) one).0) is.objects;
  distinct =
      ap are_distinct
      (names-kept (λ (o : Object). o.name) (changed_if name change) d.objects
      (λ o i. let one = all-in IsObject d.objects o is.objects i in (kept-if name change o (λ e. kept o i e one) one).1))
      ∙ is.distinct;
  attributes = is.attributes;
  before = is.before;
  between = is.between;
  after = is.after;
}

-- ---- the kinds of objects

pub FollowsPlans-with_object : (plans : List Slots) (d : Document) (o : Object) → FollowsPlans plans d → HasKindOfType plans o → FollowsPlans plans (with_object d o)
FollowsPlans-with_object plans d o follow one = all-end (HasKindOfType plans) d.objects o follow one

pub FollowsPlans-without_object : (plans : List Slots) (d : Document) (name : List ℕ) → FollowsPlans plans d → FollowsPlans plans (without_object d name)
FollowsPlans-without_object plans d name follow = all-fewer (HasKindOfType plans) (λ (o : Object). not (same_text o.name name)) d.objects follow

-- a change that keeps the kinds of objects
pub FollowsPlans-with_changed :
    (plans : List Slots) (d : Document) (name : List ℕ) (change : Object → Object) → FollowsPlans plans d
    → ((o : Object) → IsIn o d.objects → (change o).kind ≡ o.kind) → FollowsPlans plans (with_changed d name change)
FollowsPlans-with_changed plans d name change follow kept =
    all-changed (HasKindOfType plans) (changed_if name change) d.objects
    (λ o i one.
    elim (same_text o.name name) as (λ b. HasKindOfType plans (cond b (change o) o)) [
      | true ↦ subst (λ (kind : ObjectKind). kind ≡ kind_of_type plans (type_of_kind kind)) (sym (kept o i)) one
      | false ↦ one
    ])
    follow

-- ---- properties that are added and removed

-- an object with other inputs and dynamic properties that its kind may have
pub IsObject-with_slots :
    (o : Object) (inputs : List (SlotName × Content)) (dynamics : List Property) → IsObject o
    → AreInputs (input_slots o.kind) inputs → Only (has_dynamics o.kind) dynamics → AllByRecursion (IsProperty o.kind) dynamics
    → IsTrue (are_distinct (names_of_kind o.kind ++ map (λ (p : Property). p.name) dynamics))
    → IsObject (record o { inputs = inputs; dynamics = dynamics })
IsObject-with_slots o inputs dynamics is of_inputs only each distinct = record {
  name = is.name;
  label = is.label;
  kind = is.kind;
  inputs = of_inputs;
  only_dynamics = only;
  dynamics = each;
  distinct = distinct;
  only_cells = is.only_cells;
  cells = is.cells;
  cells_in_order = is.cells_in_order;
  aliases = is.aliases;
  target = is.target;
  only_overrides = is.only_overrides;
  overrides = is.overrides;
  overrides_in_order = is.overrides_in_order;
  only_members = is.only_members;
  members = is.members;
  kept = is.kept;
  attributes = is.attributes;
  pieces = is.pieces;
}

only-allowed : {A : Type 0} (may : Bool) (things : List A) → may ≡ true → Only may things
only-allowed true things e = tt
only-allowed false things e = absurd (cc)

only-through : {A B : Type 0} (may : Bool) (f : List A → List B) (things : List A) → f [] ≡ [] → Only may things → Only may (f things)
only-through true f things e h = tt
only-through false f things e h = ap f h ∙ e

one-more : (o : Object) (p : Property) → IsObject o → IsTrue (has_dynamics o.kind) → IsProperty o.kind p
    → is_among p.name (names_of_kind o.kind ++ map (λ (q : Property). q.name) o.dynamics) ≡ false
    → IsObject (record o { dynamics = o.dynamics ++ p ∷ [] })
one-more o p is may one new =
    IsObject-with_slots o o.inputs (o.dynamics ++ p ∷ []) is is.inputs (only-allowed (has_dynamics o.kind) (o.dynamics ++ p ∷ []) may)
    (all-end (IsProperty o.kind) o.dynamics p is.dynamics one)
    (ap are_distinct
    (ap (λ (names : List (List ℕ)). names_of_kind o.kind ++ names) (map_push (λ (q : Property). q.name) o.dynamics p)
    ∙ sym (append_assoc (names_of_kind o.kind) (map (λ (q : Property). q.name) o.dynamics) (p.name ∷ [])))
    ∙ distinct-end p.name (names_of_kind o.kind ++ map (λ (q : Property). q.name) o.dynamics) is.distinct new)

pub IsWellFormed-with_property :
    (d : Document) (object : List ℕ) (o : Object) (p : Property) → IsWellFormed d → object_named d object ≡ Some o → IsTrue (has_dynamics o.kind) → IsProperty o.kind p
    → is_among p.name (names_of_kind o.kind ++ map (λ (q : Property). q.name) o.dynamics) ≡ false
    → IsWellFormed (with_property d object p)
IsWellFormed-with_property d object o p is found may one new =
    IsWellFormed-with_changed d object (λ (q : Object). record q { dynamics = q.dynamics ++ p ∷ [] }) is
    (λ q i e form.
    let same : q ≡ o = only-found (λ (r : Object). r.name) d.objects object q o is.distinct i e found in
    (subst (λ (r : Object). IsObject (record r { dynamics = r.dynamics ++ p ∷ [] })) (sym same) (one-more o p (subst IsObject same form) may one new), refl))

one-fewer : (o : Object) (name : List ℕ) → IsObject o → IsObject (without_dynamic name o)
one-fewer o name is =
    IsObject-with_slots o o.inputs (filter (λ (p : Property). not (same_text p.name name)) o.dynamics) is is.inputs
    (only-through (has_dynamics o.kind) (filter (λ (p : Property). not (same_text p.name name))) o.dynamics refl is.only_dynamics)
    (all-fewer (IsProperty o.kind) (λ (p : Property). not (same_text p.name name)) o.dynamics is.dynamics)
    (distinct-fewer_behind (λ (p : Property). p.name) (λ (p : Property). not (same_text p.name name)) (names_of_kind o.kind) o.dynamics is.distinct)

pub IsWellFormed-without_property : (d : Document) (object name : List ℕ) → IsWellFormed d → IsWellFormed (without_property d object name)
IsWellFormed-without_property d object name is = IsWellFormed-with_changed d object (without_dynamic name) is (λ o i e form. (one-fewer o name form, refl))

-- ---- contents that are changed
module _ (name : SlotName) (new : Content) where
  -- where a slot has the name, the content is one of its type
  abbrev pub FitsSlots : List (SlotName × PropType) → Type 0
  FitsSlots slots = (slot : SlotName × PropType) → IsIn slot slots → IsTrue (same_slot_name slot.0 name) → IsContentOf slot.1 new

  content-of : (slot : SlotName × PropType) (content : Content) → (IsTrue (same_slot_name slot.0 name) → IsContentOf slot.1 new) → IsContentOf slot.1 content → IsContentOf slot.1 (cond (same_slot_name slot.0 name) new content)
  content-of slot content fits is =
      elim (same_slot_name slot.0 name) as (λ b. same_slot_name slot.0 name ≡ b → IsContentOf slot.1 (cond b new content)) [ true ↦ λ e. fits e | false ↦ λ e. is ] refl

  inputs-changed : (slots : List (SlotName × PropType)) (inputs : List (SlotName × Content)) → FitsSlots slots → AreInputs slots inputs → AreInputs slots (map (input_with name new) inputs)
  inputs-changed [] [] fits h = tt
  inputs-changed [] (input ∷ inputs) fits h = absurd h
  inputs-changed (slot ∷ slots) [] fits h = absurd h
  inputs-changed (slot ∷ slots) (input ∷ inputs) fits h =
      let later : AreInputs slots (map (input_with name new) inputs) = inputs-changed slots inputs (λ s i. fits s (inr i)) h.2 in
      elim (same_slot_name input.0 name)
      as (λ b. same_slot_name input.0 name ≡ b → AreInputs (slot ∷ slots) (cond b (input.0, new) input ∷ map (input_with name new) inputs)) [
        | true ↦ λ e. (h.0, fits slot (inl refl) (ap (λ (n : SlotName). same_slot_name n name) (sym h.0) ∙ e), later)
        | false ↦ λ e. (h.0, h.1, later)
      ] refl

  contents-changed : (slots : List (SlotName × PropType)) (contents : List Content) → FitsSlots slots → AreContents slots contents → AreContents slots (contents_with name new slots contents)
  contents-changed [] [] fits h = tt
  contents-changed [] (content ∷ contents) fits h = absurd h
  contents-changed (slot ∷ slots) [] fits h = absurd h
  contents-changed (slot ∷ slots) (content ∷ contents) fits h =
      (content-of slot content (λ e. fits slot (inl refl) e) h.0, contents-changed slots contents (λ s i. fits s (inr i)) h.1)

  property-changed : (kind : ObjectKind) (p : Property) → FitsSlots (property_slots p.name p.prop) → IsProperty kind p → IsProperty kind (property_with name new p)
  property-changed kind p fits is = record {
    name = is.name;
    type = is.type;
    group = is.group;
    doc = is.doc;
    attributes = is.attributes;
    contents = contents-changed (property_slots p.name p.prop) p.contents fits is.contents;
  }

  slots-of_one : (ps : List Property) (p : Property) → IsIn p ps → FitsSlots (dynamic_slots ps) → FitsSlots (property_slots p.name p.prop)
  slots-of_one ps p i fits slot j e = fits slot (IsIn-flat_map (λ (q : Property). property_slots q.name q.prop) ps p slot i j) e

  pub IsObject-with_content :
      (o : Object) → FitsSlots (input_slots o.kind ++ dynamic_slots o.dynamics) → IsObject o
      → IsObject (record o { inputs = map (input_with name new) o.inputs; dynamics = map (property_with name new) o.dynamics })
  IsObject-with_content o fits is =
      IsObject-with_slots o (map (input_with name new) o.inputs) (map (property_with name new) o.dynamics) is
      (inputs-changed (input_slots o.kind) o.inputs (λ slot i. fits slot (IsIn-left (input_slots o.kind) (dynamic_slots o.dynamics) slot i)) is.inputs)
      (only-through (has_dynamics o.kind) (map (property_with name new)) o.dynamics refl is.only_dynamics)
      (all-changed (IsProperty o.kind) (property_with name new) o.dynamics
      (λ p i one. property-changed o.kind p
      (slots-of_one o.dynamics p i (λ slot j. fits slot (IsIn-right (input_slots o.kind) (dynamic_slots o.dynamics) slot j))) one)
      is.dynamics)
      (ap (λ (names : List (List ℕ)). are_distinct (names_of_kind o.kind ++ names)) (names-kept (λ (p : Property). p.name) (property_with name new) o.dynamics (λ p i. refl)) ∙ is.distinct)

-- a content that fits each slot of the name among inputs and dynamic properties
pub IsWellFormed-with_content :
    (d : Document) (s : Slot) (new : Content) → IsWellFormed d
    → ((o : Object) → IsIn o d.objects → IsTrue (same_text o.name s.object) → FitsSlots s.name new (input_slots o.kind ++ dynamic_slots o.dynamics))
    → IsWellFormed (with_content d s new)
IsWellFormed-with_content d s new is fits =
    IsWellFormed-with_changed d s.object (λ (o : Object). record o { inputs = map (input_with s.name new) o.inputs; dynamics = map (property_with s.name new) o.dynamics }) is
    (λ o i e form. (IsObject-with_content s.name new o (fits o i e) form, refl))
