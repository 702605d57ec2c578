-- In a valid document each outcome that is a value has the sort of its slot.
use Rattle.std.proofs.Common.{◌≡◌, Bool, true, false, cond, List, [], ◌∷◌, ◌++◌, Some, None, Ok, refl, ◌∙◌, ap, codes}
use Rattle.std.specs.Prelude.{Option, Result, Err, slice_get, drop}
use Rattle.std.specs.Option.{option_map_or}
use Rattle.object_paths.specs.declared.slot_name.Component as c
use Rattle.object_paths.specs.declared.slot_name.Component.TheVariants.{X, Y, Z, Turn}
use Rattle.object_paths.specs.declared.slot_name.SlotName.{SlotName}
use Rattle.object_paths.specs.declared.slot_name.SlotName.TheVariants.{Component}
use Rattle.object_paths.specs.Slots.{Slot, same_slot_name}
use Rattle.property_types.specs.declared.plan.InputPlan.{InputPlan}
use Rattle.property_types.specs.declared.prop_type.PropType.{PropType}
use Rattle.property_types.specs.declared.prop_type.Sort.{Sort}
use Rattle.property_types.specs.declared.value.Value.{Value}
use Rattle.property_types.specs.declared.value.ValueFault.{ValueFault}
use Rattle.property_types.specs.Plans.{Slots}
use Rattle.property_types.specs.Sorts.{sort_of_value}
use Rattle.property_types.specs.Types.{sort_of_type}
use Rattle.property_types.specs.Values.{Outcome}
use Rattle.expr_eval.specs.declared.sort_cause.SortCause.TheVariants.{KindMismatch}
use Rattle.expr_eval.specs.Firsts.{on_one, all_of, with_item}
use Rattle.expr_eval.specs.Kinds.{IsOfSort}
use Rattle.expr_eval.specs.SortRows.{SortOutcome}
use Rattle.expr_eval.specs.Sorts.{sort_of}
use Rattle.document_model.specs.declared.kind.ObjectKind.{ObjectKind}
use Rattle.document_model.specs.declared.kind.ObjectKind.TheVariants.{VarSet, Sheet, Link, Feature, Foreign}
use Rattle.document_model.specs.Document.{Document, Object, object_named}
use Rattle.document_model.specs.Ends.{end_of, plan_behind}
use Rattle.document_model.specs.Slots.{Rule, own, bound, inherit, global, output, rows_by, rows_with, rows_behind, dynamic_rows, outcome_rows, rule_of, type_of}
use Rattle.document_model.specs.TypedSlots.{type_of_component, placement_slots, unplaced_slots, plan_slots, link_slots}
use Rattle.document_outcomes.specs.Full.{Meanings, is_set, part_of, global_part}
use Rattle.document_outcomes.specs.Sorts.{own_sort, bound_sort, type_sort, sort_reading, sort_by_rule, local_sort}
use Rattle.document_outcomes.specs.Typed.{GivesSorts}
use Rattle.document_outcomes.proofs.GivenLemmas.{one_sort-is, given_sort-is}
use Rattle.document_outcomes.proofs.LookupLemmas.{find-append, slot_named, Found, typed-found, rows_with-typed, found-left}
use Rattle.document_outcomes.proofs.TargetLemmas.{part_slots}

-- a fault, or a value of the type's sort
abbrev pub HasType : PropType → Outcome → Type 0
HasType type (Ok v) = sort_of_value v ≡ sort_of_type type
HasType type (Err f) = Unit {0}

of_type : (type : PropType) (r : Outcome) → HasType type r → IsOfSort (Ok (sort_of_type type)) r
of_type type (Ok v) h = λ k e. h ∙ (let same : sort_of_type type ≡ k = cc in same)
of_type type (Err f) h = tt

-- what is given to a slot of that type, and what has none
pub of_slot_type : (type : Option PropType) (r : Outcome) → ((t : PropType) → type ≡ Some t → HasType t r) → IsOfSort (type_sort type) r
of_slot_type (Some type) r h = of_type type r (h type refl)
of_slot_type None (Ok v) h = λ k e. absurd (cc)
of_slot_type None (Err f) h = tt

-- the sort of a typed slot is that of the type
own_sort-typed : (t : Option PropType) (type : PropType) (v : Value) (k : Sort) → t ≡ Some type → own_sort t v ≡ Ok k → k ≡ sort_of_type type
own_sort-typed None type v k h e = absurd (cc)
own_sort-typed (Some u) type v k h e = let same : u ≡ type = cc in (one_sort-is (sort_of_type u) (sort_of_value v) k e).0 ∙ ap sort_of_type same

pub bound_sort-typed : (t : Option PropType) (type : PropType) (found : SortOutcome) (k : Sort) → t ≡ Some type → bound_sort t found ≡ Ok k → k ≡ sort_of_type type
bound_sort-typed None type found k h e = absurd (cc)
bound_sort-typed (Some u) type (Err cause) k h e = absurd (cc)
bound_sort-typed (Some u) type (Ok f) k h e = let same : u ≡ type = cc in given_sort-is (sort_of_type u) f k e ∙ ap sort_of_type same

type_sort-typed : (t : Option PropType) (type : PropType) (k : Sort) → t ≡ Some type → type_sort t ≡ Ok k → k ≡ sort_of_type type
type_sort-typed None type k h e = absurd (cc)
type_sort-typed (Some u) type k h e = cc

module _ (d : Document) (v : Slot → SortOutcome) (s : Slot) (type : PropType) (typed : type_of d s ≡ Some type) where
  by_rule-typed : (o : Object) (rule : Option Rule) (k : Sort) → sort_by_rule d s o v rule ≡ Ok k → k ≡ sort_of_type type
  by_rule-typed o None k e = absurd (cc)
  by_rule-typed o (Some (own x)) k e = own_sort-typed (type_of d s) type x k typed e
  by_rule-typed o (Some (bound t)) k e = bound_sort-typed (type_of d s) type (sort_of (sort_reading d o t v) 0 t) k typed e
  by_rule-typed o (Some (inherit t)) k e = type_sort-typed (type_of d s) type k typed e
  by_rule-typed o (Some (global p)) k e = type_sort-typed (type_of d s) type k typed e
  by_rule-typed o (Some (output n)) k e = type_sort-typed (type_of d s) type k typed e

  of_object-typed :
      (found : Option Object) (k : Sort)
      → option_map_or (λ (o : Object). sort_by_rule d s o v (rule_of d s)) found (Err KindMismatch) ≡ Ok k → k ≡ sort_of_type type
  of_object-typed None k e = absurd (cc)
  of_object-typed (Some o) k e = by_rule-typed o (rule_of d s) k e

  pub local_sort-typed : (k : Sort) → local_sort d s v ≡ Ok k → k ≡ sort_of_type type
  unfolding local_sort
  local_sort-typed k e = of_object-typed (object_named d s.object) k e

-- the four parts of a placement, which stand in front of what a global part reads
module _ (m : Meanings) (sound : GivesSorts m) (k : c.Component) where
  composed-typed : (r : Outcome) (mine target : List Value) → m.composed mine target k ≡ r → HasType (type_of_component k) r
  composed-typed (Ok v) mine target h = sound.composed mine target k v h
  composed-typed (Err f) mine target h = tt

  part-typed :
      (j : c.Component) (x y z turn : Value) → HasType (type_of_component X) (Ok x) → HasType (type_of_component Y) (Ok y)
      → HasType (type_of_component Z) (Ok z) → HasType (type_of_component Turn) (Ok turn)
      → HasType (type_of_component j) (part_of (x ∷ y ∷ z ∷ turn ∷ []) j)
  part-typed X x y z turn p q r s = p
  part-typed Y x y z turn p q r s = q
  part-typed Z x y z turn p q r s = r
  part-typed Turn x y z turn p q r s = s

  chosen-typed :
      (along : Bool) (x y z turn : Value) (target : List Value) → HasType (type_of_component X) (Ok x) → HasType (type_of_component Y) (Ok y)
      → HasType (type_of_component Z) (Ok z) → HasType (type_of_component Turn) (Ok turn)
      → HasType (type_of_component k) (cond along (m.composed (x ∷ y ∷ z ∷ turn ∷ []) target k) (part_of (x ∷ y ∷ z ∷ turn ∷ []) k))
  chosen-typed true x y z turn target p q r s = composed-typed (m.composed (x ∷ y ∷ z ∷ turn ∷ []) target k) (x ∷ y ∷ z ∷ turn ∷ []) target refl
  chosen-typed false x y z turn target p q r s = part-typed k x y z turn p q r s

  rest-typed :
      (x y z turn : Value) (rest : Result (List Value) ValueFault) → HasType (type_of_component X) (Ok x) → HasType (type_of_component Y) (Ok y)
      → HasType (type_of_component Z) (Ok z) → HasType (type_of_component Turn) (Ok turn)
      → HasType (type_of_component k) (on_one (global_part m k) (with_item x (with_item y (with_item z (with_item turn rest)))))
  rest-typed x y z turn (Err f) p q r s = tt
  rest-typed x y z turn (Ok values) p q r s =
      chosen-typed (is_set (slice_get (x ∷ y ∷ z ∷ turn ∷ values) 4)) x y z turn (drop 5 (x ∷ y ∷ z ∷ turn ∷ values)) p q r s

  pub four-typed :
      (a b e f : Outcome) (rest : List Outcome) → HasType (type_of_component X) a → HasType (type_of_component Y) b
      → HasType (type_of_component Z) e → HasType (type_of_component Turn) f
      → HasType (type_of_component k) (on_one (global_part m k) (all_of (a ∷ b ∷ e ∷ f ∷ rest)))
  four-typed (Err x) b e f rest p q r s = tt
  four-typed (Ok a) (Err x) e f rest p q r s = tt
  four-typed (Ok a) (Ok b) (Err x) f rest p q r s = tt
  four-typed (Ok a) (Ok b) (Ok e) (Err x) rest p q r s = tt
  four-typed (Ok a) (Ok b) (Ok e) (Ok f) rest p q r s = rest-typed a b e f (all_of rest) p q r s

-- no input of a plan has the name of a part of the Placement
input-none : (inputs : List InputPlan) (j : c.Component) → slot_named (unplaced_slots inputs) (Component (codes "Placement") j) ≡ None
input-none [] j = refl
input-none (i ∷ is) j = input-none is j

part-named : (b : Bool) (j : c.Component) → b ≡ true → slot_named (cond b (placement_slots (codes "Placement")) []) (Component (codes "Placement") j) ≡ Some (Component (codes "Placement") j, type_of_component j)
part-named true X h = refl
part-named true Y h = refl
part-named true Z h = refl
part-named true Turn h = refl
part-named false j h = absurd (cc)

link-named : (j : c.Component) → slot_named link_slots (Component (codes "Placement") j) ≡ Some (Component (codes "Placement") j, type_of_component j)
link-named X = refl
link-named Y = refl
link-named Z = refl
link-named Turn = refl

module _ (d : Document) (o : Object) (plan : Slots) (behind : plan_behind d o ≡ Some plan) (placed : plan.placed ≡ true) where
  -- what has a global placement has the parts of a Placement
  pub placement-found : (kind : ObjectKind) → o.kind ≡ kind → (j : c.Component) → Found (rows_by d o kind) (Component (codes "Placement") j) (type_of_component j)
  placement-found VarSet same j = let none : plan_behind d o ≡ None = rw same refl in absurd (cc)
  placement-found Sheet same j = let none : plan_behind d o ≡ None = rw same refl in absurd (cc)
  placement-found Link same j =
      found-left (rows_with link_slots o.inputs) (rows_behind o (end_of d o)) (Component (codes "Placement") j) (type_of_component j)
      (typed-found (rows_with link_slots o.inputs) link_slots (Component (codes "Placement") j) (Component (codes "Placement") j, type_of_component j)
      (rows_with-typed link_slots o.inputs) (link-named j))
  placement-found (Feature other) same j =
      let own_plan : plan_behind d o ≡ Some other = rw same refl in
      let one : other ≡ plan = cc in
      let is_placed : other.placed ≡ true = ap (λ (p : Slots). p.placed) one ∙ placed in
      let named : slot_named (plan_slots other) (Component (codes "Placement") j) ≡ Some (Component (codes "Placement") j, type_of_component j) =
      find-append (λ (q : SlotName × PropType). same_slot_name q.0 (Component (codes "Placement") j)) (unplaced_slots other.inputs) (part_slots other)
      ∙ rw (input-none other.inputs j) (part-named other.placed j is_placed) in
      found-left (rows_with (plan_slots other) o.inputs ++ dynamic_rows o) (outcome_rows other) (Component (codes "Placement") j) (type_of_component j)
      (found-left (rows_with (plan_slots other) o.inputs) (dynamic_rows o) (Component (codes "Placement") j) (type_of_component j)
      (typed-found (rows_with (plan_slots other) o.inputs) (plan_slots other) (Component (codes "Placement") j)
      (Component (codes "Placement") j, type_of_component j) (rows_with-typed (plan_slots other) o.inputs) named))
  placement-found (Foreign type) same j = let none : plan_behind d o ≡ None = rw same refl in absurd (cc)
