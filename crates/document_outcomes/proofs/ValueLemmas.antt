-- In a valid document each outcome that is a value has the sort of its slot.
use Rattle.std.proofs.Common.{◌≡◌, inl, inr, ℕ, zero, suc, Bool, true, cond, List, [], ◌∷◌, ◌++◌, map, length, take, drop, slice_get, Some, None, Ok, refl, sym, ◌∙◌, ap, subst, arith, codes}
use Rattle.std.specs.Prelude.{Option, Result, Err, slice_get}
use Rattle.std.specs.List.{filter_map}
use Rattle.std.specs.Option.{option_map, option_and_then, option_map_or}
use Rattle.fc_base.specs.Graph.{IsIn, full_at}
use Rattle.object_paths.specs.declared.slot_name.Component as c
use Rattle.object_paths.specs.declared.slot_name.Component.TheVariants.{X, Y, Z, Turn}
use Rattle.object_paths.specs.declared.slot_name.SlotName.TheVariants.{Component}
use Rattle.object_paths.specs.Slots.{Slot, same_slot_name}
use Rattle.property_types.specs.declared.plan.OutputPlan.{OutputPlan}
use Rattle.property_types.specs.declared.prop_type.PropType.{PropType}
use Rattle.property_types.specs.declared.prop_type.Sort.{Sort}
use Rattle.property_types.specs.declared.value.Value.{Value}
use Rattle.property_types.specs.declared.value.ValueFault.{ValueFault}
use Rattle.property_types.specs.declared.value.ValueFault.TheVariants.{Range, OutOfType}
use Rattle.property_types.specs.Plans.{Slots}
use Rattle.property_types.specs.Types.{sort_of_type}
use Rattle.property_types.specs.Values.{Outcome}
use Rattle.expr_tree.specs.Tree.{Tree}
use Rattle.expr_eval.specs.declared.sort_cause.SortCause.TheVariants.{KindMismatch}
use Rattle.expr_eval.specs.Firsts.{on_one, all_of}
use Rattle.expr_eval.specs.Kinds.{IsOfSort, Agrees}
use Rattle.expr_eval.specs.Outcomes.{outcome_of, outcome_by}
use Rattle.expr_eval.specs.SortRows.{SortOutcome}
use Rattle.expr_eval.specs.Sorts.{sort_of}
use Rattle.expr_eval.proofs.KindLemmas.{outcome-kind}
use Rattle.expr_eval.proofs.SameLemmas.{outcome-same}
use Rattle.document_model.specs.declared.kind.ObjectKind.{ObjectKind}
use Rattle.document_model.specs.declared.kind.ObjectKind.TheVariants.{VarSet, Sheet, Link, Feature, Foreign}
use Rattle.document_model.specs.Document.{Document, Object, object_named}
use Rattle.document_model.specs.Ends.{plan_behind}
use Rattle.document_model.specs.Slots.{Rule, own, bound, inherit, global, output, Row, rows, rows_by, rows_with, dynamic_rows, cell_rows, outcome_rows, row_in, row_of, rule_of, type_of, slot_of, slots}
use Rattle.document_model.specs.TypedSlots.{type_of_component, plan_slots}
use Rattle.document_model.specs.Dependencies.{existing, link_slots_read, deps_by, deps}
use Rattle.document_model.proofs.DependencyLemmas.{deps_are_slots}
use Rattle.document_model.proofs.Members.{map_some, from_find, from_append}
use Rattle.document_outcomes.specs.Full.{Meanings, numbered, first_of, is_set, part_of, global_part, output_part, reading, outcome_by_rule, local, full}
use Rattle.document_outcomes.specs.NoFault.{HasNoFault}
use Rattle.document_outcomes.specs.Sorts.{bound_sort, type_sort, sort_reading, sort_by_rule, local_sort, sort}
use Rattle.document_outcomes.specs.Typed.{GivesSorts, PlacementsFaultTogether, no_features}
use Rattle.document_outcomes.proofs.AgreementLemmas.{deps-found}
use Rattle.document_outcomes.proofs.FullLemmas.{sort-fixpoint}
use Rattle.document_outcomes.proofs.GivenLemmas.{bound-of_sort, own-of_sort, readings-agree}
use Rattle.document_outcomes.proofs.InheritLemmas.{no_inherit-output}
use Rattle.document_outcomes.proofs.LookupLemmas.{Found}
use Rattle.document_outcomes.proofs.RowLemmas.{IsWritten, IsWorkedOut, row-kind, rows_with-written, dynamic-written, cells-written}
use Rattle.document_outcomes.proofs.TargetLemmas.{inherited-existing, object-found, existing-type, inherited-type}
use Rattle.document_outcomes.proofs.TypedLemmas.{HasType, of_slot_type, local_sort-typed, four-typed, placement-found}

-- what is written does not inherit
written-no_inherit : (r : Row) (t : Slot) → IsWritten r.rule → r.rule ≡ inherit t → ⊥
written-no_inherit r t w h = let bad : IsWritten (inherit t) = subst (λ (q : Rule). IsWritten q) h w in bad

-- only links inherit
inherits-link : (d : Document) (o : Object) (r : Row) (t : Slot) (kind : ObjectKind) → r.rule ≡ inherit t → IsIn r (rows_by d o kind) → kind ≡ Link
inherits-link d o r t VarSet h i = absurd (written-no_inherit r t (dynamic-written o r i) h)
inherits-link d o r t Sheet h i =
    elim (from_append (dynamic_rows o) (cell_rows o) r i) [
      | inl j ↦ absurd (written-no_inherit r t (dynamic-written o r j) h)
      | inr j ↦ absurd (written-no_inherit r t (cells-written o r j) h)
    ]
inherits-link d o r t Link h i = refl
inherits-link d o r t (Feature plan) h i =
    elim (from_append (rows_with (plan_slots plan) o.inputs ++ dynamic_rows o) (outcome_rows plan) r i) [
      | inl j ↦ elim (from_append (rows_with (plan_slots plan) o.inputs) (dynamic_rows o) r j) [
        | inl k ↦ absurd (written-no_inherit r t (rows_with-written (plan_slots plan) o.inputs r k) h)
        | inr k ↦ absurd (written-no_inherit r t (dynamic-written o r k) h)
      ]
      | inr j ↦ absurd (no_inherit-output d plan r t j h)
    ]
inherits-link d o r t (Foreign type) h i = absurd i

-- a slot that is inherited depends on the target's slot alone
pub inherited-dependency : (d : Document) (s t : Slot) → rule_of d s ≡ Some (inherit t) → deps d s ≡ t ∷ []
inherited-dependency d s t h = of_found (object_named d s.object) refl
  where
    of_found : (found : Option Object) → object_named d s.object ≡ found → deps d s ≡ t ∷ []
    of_found None found =
        let e : rule_of d s ≡ None = λ i. option_map (λ (r : Row). r.rule) (option_and_then (λ (q : Object). row_in (rows d q) s.name) (found i)) in
        absurd (let f : None ≡ Some (inherit t) = sym e ∙ h in cc)
    of_found (Some o) found =
        let row = map_some (λ (r : Row). r.rule) (row_of d s) (inherit t) h in
        let same : row_of d s ≡ row_in (rows d o) s.name = rw found refl in
        let at : row_in (rows d o) s.name ≡ Some row.0 = sym same ∙ row.1 in
        let rule : (row.0).rule ≡ inherit t = sym row.2 in
        let link : o.kind ≡ Link =
        inherits-link d o row.0 t o.kind rule (from_find (λ (q : Row). same_slot_name q.name s.name) (rows d o) row.0 at) in
        let at_link : row_in (rows_by d o Link) s.name ≡ Some row.0 = subst (λ (k : ObjectKind). row_in (rows_by d o k) s.name ≡ Some row.0) link at in
        let exists : existing d t ≡ Some t = inherited-existing d o s.name row.0 t link at_link rule in
        deps-found d s ∙ (λ i. option_map_or (λ (q : Object). deps_by d q (h i)) (found i) []) ∙ rw exists refl

module _ (m : Meanings) (sound : GivesSorts m) (d : Document) (none : HasNoFault d) where
  -- the sort of a typed slot is the type's
  sorted : (s : Slot) (type : PropType) → IsIn s (slots d) → type_of d s ≡ Some type → sort d s ≡ Ok (sort_of_type type)
  sorted s type here typed =
      let k = none.sorts s here in
      let fixed : sort d s ≡ local_sort d s (sort d) = sort-fixpoint d none.cycles s here in
      let is_type : k.0 ≡ sort_of_type type = local_sort-typed d (sort d) s type typed k.0 (sym fixed ∙ k.1) in
      k.1 ∙ (λ i. Ok (is_type i))

  module _ (w : Slot → Outcome) (each : (q : Slot) → IsIn q (slots d) → IsOfSort (sort d q) (w q)) where
    value-typed : (q : Slot) (type : PropType) (r : Outcome) → sort d q ≡ Ok (sort_of_type type) → IsOfSort (sort d q) r → HasType type r
    value-typed q type (Ok v) e h = h (sort_of_type type) e
    value-typed q type (Err f) e h = tt

    slot-typed : (q : Slot) (type : PropType) → IsIn q (slots d) → type_of d q ≡ Some type → HasType type (w q)
    slot-typed q type here typed = value-typed q type (w q) (sorted q type here typed) (each q here)

    module _ (s : Slot) (here : IsIn s (slots d)) (o : Object) (found : object_named d s.object ≡ Some o) where
      -- the row of the slot
      record Ruled (rule : Rule) : Type 0 where
        row : Row
        at : row_in (rows d o) s.name ≡ Some row
        ruled : row.rule ≡ rule
        typed : type_of d s ≡ row.prop

      ruled-row : (rule : Rule) → rule_of d s ≡ Some rule → Ruled rule
      ruled-row rule h =
          let row = map_some (λ (r : Row). r.rule) (row_of d s) rule h in
          let same : row_of d s ≡ row_in (rows d o) s.name = rw found refl in
          record { row = row.0; at = sym same ∙ row.1; ruled = sym row.2; typed = ap (λ (x : Option Row). option_and_then (λ (r : Row). r.prop) x) row.1 }

      in-rows : (rule : Rule) (r : Ruled rule) → IsIn r.row (rows d o)
      in-rows rule r = from_find (λ (q : Row). same_slot_name q.name s.name) (rows d o) r.row r.at

      dependencies : (rule : Rule) → rule_of d s ≡ Some rule → deps d s ≡ deps_by d o (Some rule)
      dependencies rule h = deps-found d s ∙ (λ i. option_map_or (λ (q : Object). deps_by d q (h i)) (found i) [])

      dependency : (rule : Rule) (q : Slot) → rule_of d s ≡ Some rule → IsIn q (deps_by d o (Some rule)) → IsIn q (slots d)
      dependency rule q h i = deps_are_slots d s q here (subst (λ (x : List Slot). IsIn q x) (sym (dependencies rule h)) i)

      -- what an expression reads is of the sorts there
      agrees : (e : Tree) → rule_of d s ≡ Some (bound e) → Agrees (sort_reading d o e (sort d)) (reading d o e w)
      agrees e h = readings-agree d o e (sort d) w (λ q i. each q (dependency (bound e) q h i))

      bound-step :
          (e : Tree) → rule_of d s ≡ Some (bound e)
          → IsOfSort (sort_by_rule d s o (sort d) (Some (bound e))) (outcome_by_rule m d s o w (Some (bound e)))
      bound-step e h =
          bound-of_sort (type_of d s) (sort_of (sort_reading d o e (sort d)) 0 e) (outcome_of (reading d o e w) 0 e)
          (outcome-kind (sort_reading d o e (sort d)) (reading d o e w) (agrees e h) OutOfType 0 e)

      inherited : (t : Slot) (type : PropType) (x : Option Slot) → rule_of d s ≡ Some (inherit t) → type_of d s ≡ Some type → existing d t ≡ x → HasType type (first_of (map w (filter_map (existing d) (t ∷ []))))
      inherited t type None h typed exists = rw exists tt
      inherited t type (Some q) h typed exists =
          let row = ruled-row (inherit t) h in
          let link : o.kind ≡ Link = inherits-link d o row.row t o.kind row.ruled (in-rows (inherit t) row) in
          let at : row_in (rows_by d o Link) s.name ≡ Some row.row = subst (λ (k : ObjectKind). row_in (rows_by d o k) s.name ≡ Some row.row) link row.at in
          let of_q : type_of d q ≡ Some type = inherited-type d o s.name row.row t q link at row.ruled exists ∙ sym row.typed ∙ typed in
          let there : IsIn q (filter_map (existing d) (t ∷ [])) = rw exists (inl refl) in
          rw exists (slot-typed q type (dependency (inherit t) q h there) of_q)

      inherit-step : (t : Slot) → rule_of d s ≡ Some (inherit t) → IsOfSort (type_sort (type_of d s)) (first_of (map w (deps d s)))
      inherit-step t h =
          of_slot_type (type_of d s) (first_of (map w (deps d s)))
          (λ type typed. subst (λ (x : List Slot). HasType type (first_of (map w x))) (sym (dependencies (inherit t) h))
          (inherited t type (existing d t) h typed refl))

      -- an output
      numbered-typed : (plan : Slots) (inputs : List Value) (k : ℕ) (out : OutputPlan) (r : Outcome) → slice_get plan.outputs k ≡ Some out → numbered (m.gives plan inputs) k ≡ r → HasType out.prop r
      numbered-typed plan inputs k out (Ok v) at h = sound.gives plan inputs k out v at h
      numbered-typed plan inputs k out (Err f) at h = tt

      given-typed :
          (plan : Slots) (k : ℕ) (out : OutputPlan) (values : Result (List Value) ValueFault) → plan_behind d o ≡ Some plan → slice_get plan.outputs k ≡ Some out
          → HasType out.prop (on_one (output_part m (plan_behind d o) k) values)
      given-typed plan k out (Err f) behind at = tt
      given-typed plan k out (Ok inputs) behind at = rw behind (numbered-typed plan inputs k out (numbered (m.gives plan inputs) k) at refl)

      worked_out : (rule : Rule) (r : Ruled rule) → (IsWritten rule → ⊥) → ((t : Slot) → rule ≡ inherit t → ⊥) → IsWorkedOut d o r.row
      worked_out rule r not_written not_inherited =
          elim (row-kind d o r.row o.kind refl (in-rows rule r)) [
            | inl written ↦ absurd (not_written (subst (λ (q : Rule). IsWritten q) r.ruled written))
            | inr more ↦ elim more [
              | inl inherits ↦ absurd (not_inherited _ (sym r.ruled ∙ inherits.rule))
              | inr worked ↦ worked
            ]
          ]

      output-typed : (k : ℕ) (type : PropType) (values : Result (List Value) ValueFault) → rule_of d s ≡ Some (output k) → type_of d s ≡ Some type → HasType type (on_one (output_part m (plan_behind d o) k) values)
      output-typed k type values h typed =
          let row = ruled-row (output k) h in
          let worked = worked_out (output k) row (λ written. written) (λ t e. absurd (cc)) in
          elim worked.one [
            | inl out ↦
                let rule_of_row : (row.row).rule ≡ output out.number = ap (λ (q : Row). q.rule) out.row in
                let number : out.number ≡ k = let e : output out.number ≡ output k = sym rule_of_row ∙ row.ruled in cc in
                let place : out.place ≡ k = omega (arith, number, out.counted) in
                let prop_of_row : (row.row).prop ≡ Some (out.out).prop = ap (λ (q : Row). q.prop) out.row in
                let same : (out.out).prop ≡ type = let e : Some (out.out).prop ≡ Some type = sym prop_of_row ∙ sym row.typed ∙ typed in cc in
                subst (λ (t : PropType). HasType t (on_one (output_part m (plan_behind d o) k) values)) same
                (given-typed worked.plan k out.out values worked.behind (subst (λ (n : ℕ). slice_get (worked.plan).outputs n ≡ Some out.out) place out.found))
            | inr part ↦ let e : (row.row).rule ≡ global part.part = ap (λ (q : Row). q.rule) part.row in absurd (let f : output k ≡ global part.part = sym row.ruled ∙ e in cc)
          ]

      output-step : (k : ℕ) → rule_of d s ≡ Some (output k) → IsOfSort (type_sort (type_of d s)) (on_one (output_part m (plan_behind d o) k) (all_of (map w (deps d s))))
      output-step k h =
          of_slot_type (type_of d s) (on_one (output_part m (plan_behind d o) k) (all_of (map w (deps d s))))
          (λ type typed. output-typed k type (all_of (map w (deps d s))) h typed)

      -- a part of a global placement
      module _ (k : c.Component) (h : rule_of d s ≡ Some (global k)) (plan : Slots) (behind : plan_behind d o ≡ Some plan) (placed : plan.placed ≡ true) where
        named : object_named d o.name ≡ Some o
        named = subst (λ (n : List ℕ). object_named d n ≡ Some o) (sym (object-found d s.object o found)) found

        part : (j : c.Component) → Found (rows d o) (Component (codes "Placement") j) (type_of_component j)
        part j = placement-found d o plan behind placed o.kind refl j

        abbrev part_slot : c.Component → Slot
        part_slot j = slot_of o ((part j).row).name

        there : (j : c.Component) → existing d (slot_of o (Component (codes "Placement") j)) ≡ Some (part_slot j)
        there j = rw (named, (part j).here) refl

        read : deps_by d o (Some (global k)) ≡ part_slot X ∷ part_slot Y ∷ part_slot Z ∷ part_slot Turn ∷ filter_map (existing d) (link_slots_read o o.kind)
        read = rw (there X, there Y, there Z, there Turn) refl

        of_part : (j : c.Component) → IsIn (part_slot j) (part_slot X ∷ part_slot Y ∷ part_slot Z ∷ part_slot Turn ∷ filter_map (existing d) (link_slots_read o o.kind)) → HasType (type_of_component j) (w (part_slot j))
        of_part j i =
            slot-typed (part_slot j) (type_of_component j)
            (dependency (global k) (part_slot j) h (subst (λ (x : List Slot). IsIn (part_slot j) x) (sym read) i))
            (existing-type d o o.name (Component (codes "Placement") j) (type_of_component j) (part_slot j) named (part j) (there j))

        placed-typed : HasType (type_of_component k) (on_one (global_part m k) (all_of (map w (deps d s))))
        placed-typed =
            subst (λ (x : List Slot). HasType (type_of_component k) (on_one (global_part m k) (all_of (map w x)))) (sym (dependencies (global k) h ∙ read))
            (four-typed m sound k (w (part_slot X)) (w (part_slot Y)) (w (part_slot Z)) (w (part_slot Turn))
            (map w (filter_map (existing d) (link_slots_read o o.kind)))
            (of_part X (inl refl)) (of_part Y (inr (inl refl))) (of_part Z (inr (inr (inl refl)))) (of_part Turn (inr (inr (inr (inl refl))))))

      global-typed : (k : c.Component) (type : PropType) → rule_of d s ≡ Some (global k) → type_of d s ≡ Some type → HasType type (on_one (global_part m k) (all_of (map w (deps d s))))
      global-typed k type h typed =
          let row = ruled-row (global k) h in
          let worked = worked_out (global k) row (λ written. written) (λ t e. absurd (cc)) in
          elim worked.one [
            | inl out ↦ let e : (row.row).rule ≡ output out.number = ap (λ (q : Row). q.rule) out.row in absurd (let f : global k ≡ output out.number = sym row.ruled ∙ e in cc)
            | inr part ↦
                let rule_of_row : (row.row).rule ≡ global part.part = ap (λ (q : Row). q.rule) part.row in
                let one : part.part ≡ k = let e : global part.part ≡ global k = sym rule_of_row ∙ row.ruled in cc in
                let prop_of_row : (row.row).prop ≡ Some (type_of_component part.part) = ap (λ (q : Row). q.prop) part.row in
                let same : type_of_component k ≡ type = let e : Some (type_of_component k) ≡ Some type = sym (prop_of_row ∙ (λ i. Some (type_of_component (one i)))) ∙ sym row.typed ∙ typed in cc in
                subst (λ (t : PropType). HasType t (on_one (global_part m k) (all_of (map w (deps d s))))) same
                (placed-typed k h worked.plan worked.behind part.placed)
          ]

      rule-step : (rule : Option Rule) → rule_of d s ≡ rule → IsOfSort (sort_by_rule d s o (sort d) rule) (outcome_by_rule m d s o w rule)
      rule-step None h = tt
      rule-step (Some (own v)) h = own-of_sort (type_of d s) v
      rule-step (Some (bound e)) h = bound-step e h
      rule-step (Some (inherit t)) h = inherit-step t h
      rule-step (Some (global k)) h =
          of_slot_type (type_of d s) (on_one (global_part m k) (all_of (map w (deps d s)))) (λ type typed. global-typed k type h typed)
      rule-step (Some (output k)) h = output-step k h

    object-step :
        (s : Slot) → IsIn s (slots d) → (found : Option Object) → object_named d s.object ≡ found
        → IsOfSort (option_map_or (λ (o : Object). sort_by_rule d s o (sort d) (rule_of d s)) found (Err KindMismatch))
        (option_map_or (λ (o : Object). outcome_by_rule m d s o w (rule_of d s)) found (Err Range))
    object-step s here None h = tt
    object-step s here (Some o) h = rule-step s here o h (rule_of d s) refl

    step : (s : Slot) → IsIn s (slots d) → IsOfSort (local_sort d s (sort d)) (local m d s w)
    unfolding local local_sort
    step s here = object-step s here (object_named d s.object) refl

  typed_within : (n : ℕ) (s : Slot) → IsIn s (slots d) → IsOfSort (sort d s) (full_at (local m d) (Err Range) n s)
  unfolding full_at
  typed_within zero s here = tt
  typed_within (suc n) s here =
      subst (λ (x : SortOutcome). IsOfSort x (local m d s (full_at (local m d) (Err Range) n))) (sym (sort-fixpoint d none.cycles s here))
      (step (full_at (local m d) (Err Range) n) (λ q i. typed_within n q i) s here)

  pub full-typed : (s : Slot) → IsIn s (slots d) → IsOfSort (sort d s) (full m d s)
  unfolding full
  full-typed s here = typed_within (length (slots d)) s here

  -- an expression in a slot has a sort
  found-sort : (type : Option PropType) (found : SortOutcome) (k : Sort) → bound_sort type found ≡ Ok k → (f : Sort) × (found ≡ Ok f)
  found-sort None found k h = (k, h)
  found-sort (Some type) (Ok f) k h = (f, refl)
  found-sort (Some type) (Err cause) k h = absurd (cc)

  expression-sort :
      (s : Slot) (o : Object) (e : Tree) → IsIn s (slots d) → object_named d s.object ≡ Some o → rule_of d s ≡ Some (bound e)
      → (f : Sort) × (sort_of (sort_reading d o e (sort d)) 0 e ≡ Ok f)
  unfolding local_sort
  expression-sort s o e here found h =
      let k = none.sorts s here in
      let fixed : sort d s ≡ local_sort d s (sort d) = sort-fixpoint d none.cycles s here in
      let by_rule : local_sort d s (sort d) ≡ bound_sort (type_of d s) (sort_of (sort_reading d o e (sort d)) 0 e) =
      λ i. option_map_or (λ (q : Object). sort_by_rule d s q (sort d) (h i)) (found i) (Err KindMismatch) in
      found-sort (type_of d s) (sort_of (sort_reading d o e (sort d)) 0 e) k.0 (sym by_rule ∙ sym fixed ∙ k.1)

  -- so no operation in it meets operands that it does not want
  pub full-right :
      (s : Slot) (o : Object) (e : Tree) → IsIn s (slots d) → object_named d s.object ≡ Some o → rule_of d s ≡ Some (bound e)
      → (wrong other : ValueFault) → outcome_by wrong (reading d o e (full m d)) 0 e ≡ outcome_by other (reading d o e (full m d)) 0 e
  full-right s o e here found h wrong other =
      let f = expression-sort s o e here found h in
      outcome-same (sort_reading d o e (sort d)) (reading d o e (full m d)) (agrees (full m d) full-typed s here o found e h) wrong other 0 e f.0 f.1

-- a list of no outcomes has none by any number
numbered-none : (k : ℕ) → numbered [] k ≡ Err Range
numbered-none zero = refl
numbered-none (suc k) = refl

pub no_features-sound : GivesSorts no_features
no_features-sound = record {
  gives = λ plan inputs k out v at h. let e = numbered-none k in absurd (cc);
  composed = λ mine target k v h. absurd (cc);
  together = λ mine target k other f h. refl;
}

pub placements_fault_together : PlacementsFaultTogether
placements_fault_together m k other values f sound set fault =
    let own = take 4 values in
    let target = drop 5 values in
    let chosen : (j : c.Component) → global_part m j values ≡ m.composed own target j = λ j. ap (λ (b : Bool). cond b (m.composed own target j) (part_of own j)) set in
    chosen other ∙ sound.together own target k other f (sym (chosen k) ∙ fault)
