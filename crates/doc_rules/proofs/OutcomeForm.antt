-- In a valid document the outcomes of slots are values of their types.
use Rattle.std.proofs.Common.{◌≡◌, inl, inr, ℕ, zero, suc, Bool, true, false, cond, List, [], ◌∷◌, ◌++◌, map, length, take, drop, slice_get, Option, Some, None, Result, Ok, Err, refl, sym, ap, subst, ◌∙◌}
use Rattle.std.specs.Prelude.{IfSome, find, ok_or}
use Rattle.std.specs.List.{AllByRecursion, flat_map, filter_map}
use Rattle.std.specs.Option.{option_map, option_and_then, option_map_or}
use Rattle.fc_base.specs.Graph.{IsIn, full_at}
use Rattle.fc_base.specs.Places.{Place}
use Rattle.object_paths.specs.declared.slot_name.Component as c
use Rattle.object_paths.specs.Order.{component_number}
use Rattle.object_paths.specs.declared.slot_name.SlotName.{SlotName}
use Rattle.object_paths.specs.declared.slot_name.SlotName.TheVariants.{Marked}
use Rattle.object_paths.specs.Slots.{Slot, same_slot_name, same_text}
use Rattle.property_types.specs.declared.prop_type.PropType.{PropType}
use Rattle.property_types.specs.declared.prop_type.Sort.{Sort}
use Rattle.property_types.specs.declared.value.Value.{Value}
use Rattle.property_types.specs.declared.value.Value.TheVariants.{Number, Flag, Text}
use Rattle.property_types.specs.declared.value.ValueFault.{ValueFault}
use Rattle.property_types.specs.declared.value.ValueFault.TheVariants.{OutOfType, Range}
use Rattle.property_types.specs.Fits.{fit}
use Rattle.property_types.specs.Plans.{Slots}
use Rattle.property_types.specs.Sorts.{sort_of_value}
use Rattle.property_types.specs.Types.{sort_of_type, zero_value}
use Rattle.property_types.specs.Values.{IsValue, Outcome}
use Rattle.property_types.proofs.Equality.{sort_equal}
use Rattle.expr_tree.specs.References.{Reference, references}
use Rattle.expr_tree.specs.Spelled.{IsSpelled}
use Rattle.expr_tree.specs.Tree.{Tree}
use Rattle.expr_eval.specs.Kinds.{IsOfSort}
use Rattle.expr_eval.specs.Firsts.{all_of, on_one, with_item}
use Rattle.expr_eval.specs.Outcomes.{outcome_of}
use Rattle.expr_eval.specs.ValuesGiven.{GivesValues}
use Rattle.expr_eval.proofs.ValueLemmas.{fitted_value, spelled_value}
use Rattle.document_model.specs.declared.content.Content.{Content}
use Rattle.document_model.specs.declared.content.Content.TheVariants.{Bound, Own}
use Rattle.document_model.specs.declared.kind.ObjectKind.{ObjectKind}
use Rattle.document_model.specs.declared.kind.ObjectKind.TheVariants.{VarSet, Sheet, Link, Feature, Foreign}
use Rattle.document_model.specs.Contents.{AreContents, AreInputs, IsCellContent, IsContent, IsContentOf}
use Rattle.document_model.specs.Dependencies.{cells_reached, deps, slot_reached}
use Rattle.document_model.specs.Document.{Cell, Document, Object, Property, object_named}
use Rattle.document_model.specs.Ends.{end_of, plan_behind}
use Rattle.document_model.specs.Slots.{Row, Rule, bound, cell_row, cell_rows, content_at, dynamic_rows, global, inherit, mirrored_row, outcome_rows, outcome_rows_of, output, own, row_in, row_of, row_with, rows, rows_behind, rows_by, rows_in_order, rows_with, rule_of, rule_of_content, slot_of, slots, type_of}
use Rattle.document_model.specs.TypedSlots.{input_slots, link_slots, mirrored_slots, plan_slots, property_slots}
use Rattle.document_model.specs.WellFormed.{IsCell, IsObject, IsOverride, IsProperty, IsWellFormed}
use Rattle.document_model.proofs.DistinctNames.{all-in}
use Rattle.document_model.proofs.FormLemmas.{IsContentOf-zero_value}
use Rattle.document_model.proofs.Members.{IsIn-flat_map, IsIn-map, and_then_some, from_append, from_filter_map, from_find, from_flat_map, from_map, map_some}
use Rattle.document_outcomes.specs.Faults.{IsValid}
use Rattle.document_outcomes.specs.Full.{Meanings, at_slot, first_of, fitted, full, global_part, in_cells, is_set, local, numbered, outcome_by_rule, output_part, part_of, reading}
use Rattle.document_outcomes.specs.Sorts.{local_sort, sort}
use Rattle.document_outcomes.specs.Typed.{GivesSorts}
use Rattle.document_outcomes.proofs.AgreementLemmas.{from_slice_get}
use Rattle.document_outcomes.proofs.FaultLemmas.{valid-no_fault}
use Rattle.document_outcomes.proofs.FullLemmas.{sort-fixpoint}
use Rattle.document_outcomes.proofs.LookupLemmas.{row_in-name}
use Rattle.document_outcomes.proofs.RowLemmas.{IsOutput, IsPart, outcome-row}
use Rattle.document_outcomes.proofs.TargetLemmas.{object-found}
use Rattle.document_outcomes.proofs.TypedLemmas.{local_sort-typed}
use Rattle.document_outcomes.proofs.ValueLemmas.{full-typed}
use Rattle.doc_rules.specs.OutcomesKept.{HasTypedOutcomes, MeansValues, ValidDocumentsHaveTypedOutcomes}

-- ---- what stands in a well-formed document

-- a value, or an expression that can be spelled
abbrev IsFormed : Rule → Type 0
IsFormed (own v) = IsValue v
IsFormed (bound e) = IsSpelled e
IsFormed (inherit s) = Unit {0}
IsFormed (global k) = Unit {0}
IsFormed (output k) = Unit {0}

content-formed : (content : Content) → IsContent content → IsFormed (rule_of_content content)
content-formed (Own v) h = h
content-formed (Bound e) h = h

typed-content : (type : PropType) (content : Content) → IsContentOf type content → IsContent content
typed-content type (Own v) h = h.0
typed-content type (Bound e) h = h

cell-content : (content : Content) → IsCellContent content → IsContent content
cell-content (Own (Number q)) h = h
cell-content (Own (Flag b)) h = absurd h
cell-content (Own (Text t)) h = h
cell-content (Bound e) h = h

row_with-formed : (found : Option Content) (slot : SlotName × PropType) → IfSome found IsContent → IsFormed (row_with found slot).rule
row_with-formed None slot h = (IsContentOf-zero_value slot.1).0
row_with-formed (Some content) slot h = content-formed content h

-- contents by the names of slots
abbrev AreFormed : List (SlotName × Content) → Type 0
AreFormed contents = AllByRecursion (λ (e : SlotName × Content). IsContent e.1) contents

content_at-formed : (name : SlotName) (contents : List (SlotName × Content)) → AreFormed contents → IfSome (content_at name contents) IsContent
content_at-formed name [] all = tt
content_at-formed name (e ∷ es) all =
    elim (same_slot_name e.0 name)
    as (λ b. IfSome (option_map (λ (x : SlotName × Content). x.1) (cond b (Some e) (find (λ (x : SlotName × Content). same_slot_name x.0 name) es))) IsContent) [
      | true ↦ all.0
      | false ↦ content_at-formed name es all.1
    ]

inputs-formed : (typed : List (SlotName × PropType)) (inputs : List (SlotName × Content)) → AreInputs typed inputs → AreFormed inputs
inputs-formed [] [] h = tt
inputs-formed [] (e ∷ es) h = absurd h
inputs-formed (t ∷ ts) [] h = absurd h
inputs-formed (t ∷ ts) (e ∷ es) h = (typed-content t.1 e.1 h.1, inputs-formed ts es h.2)

overrides-formed : (es : List (SlotName × Content)) → AllByRecursion IsOverride es → AreFormed es
overrides-formed [] all = tt
overrides-formed (e ∷ es) all = ((all.0).content, overrides-formed es all.1)

with-formed : (typed : List (SlotName × PropType)) (contents : List (SlotName × Content)) (r : Row) → AreFormed contents → IsIn r (rows_with typed contents) → IsFormed r.rule
with-formed typed contents r all i =
    let m = from_map (λ (slot : SlotName × PropType). row_with (content_at slot.0 contents) slot) typed r i in
    subst (λ (q : Row). IsFormed q.rule) (sym m.2) (row_with-formed (content_at (m.0).0 contents) m.0 (content_at-formed (m.0).0 contents all))

in_order-formed : (typed : List (SlotName × PropType)) (contents : List Content) (r : Row) → AreContents typed contents → IsIn r (rows_in_order typed contents) → IsFormed r.rule
in_order-formed [] contents r h i = absurd i
in_order-formed (t ∷ ts) [] r h i = absurd h
in_order-formed (t ∷ ts) (e ∷ es) r h (inl same) =
    subst (λ (q : Row). IsFormed q.rule) (sym same) (content-formed e (typed-content t.1 e h.0))
in_order-formed (t ∷ ts) (e ∷ es) r h (inr i) = in_order-formed ts es r h.1 i

dynamic-formed : (o : Object) (r : Row) → IsObject o → IsIn r (dynamic_rows o) → IsFormed r.rule
dynamic-formed o r is i =
    let m = from_flat_map (λ (p : Property). rows_in_order (property_slots p.name p.prop) p.contents) o.dynamics r i in
    let one : IsProperty o.kind m.0 = all-in (IsProperty o.kind) o.dynamics m.0 is.dynamics m.1 in
    in_order-formed (property_slots (m.0).name (m.0).prop) (m.0).contents r one.contents m.2

cell-formed : (e : Place × Cell) (content : Option Content) (r : Row) → IfSome content IsCellContent
    → option_map (λ (x : Content). record { name = Marked e.0; prop = None; rule = rule_of_content x }) content ≡ Some r → IsFormed r.rule
cell-formed e None r h same = absurd (cc)
cell-formed e (Some x) r h same =
    subst (λ (q : Option Row). IfSome q (λ (p : Row). IsFormed p.rule)) same (content-formed x (cell-content x h))

cells-formed : (o : Object) (r : Row) → IsObject o → IsIn r (cell_rows o) → IsFormed r.rule
cells-formed o r is i =
    let m = from_filter_map cell_row o.cells r i in
    let one : IsCell m.0 = all-in IsCell o.cells m.0 is.cells m.1 in
    cell-formed m.0 (m.0).1.content r one.content m.2

outcome-formed : (plan : Slots) (r : Row) → IsIn r (outcome_rows plan) → IsFormed r.rule
outcome-formed plan r i =
    elim (outcome-row plan r i) [
      | inl out ↦ subst (λ (q : Row). IsFormed q.rule) (sym out.row) tt
      | inr part ↦ subst (λ (q : Row). IsFormed q.rule) (sym part.row) tt
    ]

behind-formed : (kind : ObjectKind) (r : Row) → IsIn r (outcome_rows_of kind) → IsFormed r.rule
behind-formed VarSet r i = absurd i
behind-formed Sheet r i = absurd i
behind-formed Link r i = absurd i
behind-formed (Feature plan) r i = outcome-formed plan r i
behind-formed (Foreign type) r i = absurd i

mirrored-formed : (link : Object) (slot : SlotName × PropType) (found : Option Content) → IfSome found IsContent
    → (s : Slot) → IsFormed (option_map_or rule_of_content found (inherit s))
mirrored-formed link slot None h s = tt
mirrored-formed link slot (Some content) h s = content-formed content h

link-formed : (link : Object) (end : Option Object) (r : Row) → IsObject link → IsIn r (rows_behind link end) → IsFormed r.rule
link-formed link None r is i = absurd i
link-formed link (Some e) r is i =
    elim (from_append (map (mirrored_row link) (mirrored_slots e)) (outcome_rows_of e.kind) r i) [
      | inl j ↦
          let m = from_map (mirrored_row link) (mirrored_slots e) r j in
          subst (λ (q : Row). IsFormed q.rule) (sym m.2)
          (mirrored-formed link m.0 (content_at (m.0).0 link.overrides) (content_at-formed (m.0).0 link.overrides (overrides-formed link.overrides is.overrides)) _)
      | inr j ↦ behind-formed e.kind r j
    ]

-- what stands in the slots of a well-formed object
row-formed : (d : Document) (o : Object) (kind : ObjectKind) (r : Row) → o.kind ≡ kind → IsObject o → IsIn r (rows_by d o kind) → IsFormed r.rule
row-formed d o VarSet r same is i = dynamic-formed o r is i
row-formed d o Sheet r same is i =
    elim (from_append (dynamic_rows o) (cell_rows o) r i) [ inl j ↦ dynamic-formed o r is j | inr j ↦ cells-formed o r is j ]
row-formed d o Link r same is i =
    elim (from_append (rows_with link_slots o.inputs) (rows_behind o (end_of d o)) r i) [
      | inl j ↦ with-formed link_slots o.inputs r (inputs-formed (input_slots o.kind) o.inputs is.inputs) j
      | inr j ↦ link-formed o (end_of d o) r is j
    ]
row-formed d o (Feature plan) r same is i =
    elim (from_append (rows_with (plan_slots plan) o.inputs ++ dynamic_rows o) (outcome_rows plan) r i) [
      | inl j ↦ elim (from_append (rows_with (plan_slots plan) o.inputs) (dynamic_rows o) r j) [
        | inl k ↦ with-formed (plan_slots plan) o.inputs r (inputs-formed (input_slots o.kind) o.inputs is.inputs) k
        | inr k ↦ dynamic-formed o r is k
      ]
      | inr j ↦ outcome-formed plan r j
    ]
row-formed d o (Foreign type) r same is i = absurd i

-- ---- what slots give

-- no fault, and then a value
abbrev AreValues : List Outcome → Type 0
AreValues given = AllByRecursion (λ (r : Outcome). (v : Value) → r ≡ Ok v → IsValue v) given

all_of-values : (given : List Outcome) (vs : List Value) → AreValues given → all_of given ≡ Ok vs → AllByRecursion IsValue vs
all_of-values [] vs all h = let same : [] ≡ vs = cc in subst (AllByRecursion IsValue) same tt
all_of-values (Err f ∷ rest) vs all h = absurd (cc)
all_of-values (Ok v ∷ rest) vs all h =
    elim (all_of rest) as (λ (r : Result (List Value) ValueFault). all_of rest ≡ r → with_item v r ≡ Ok vs → AllByRecursion IsValue vs) [
      | Err f ↦ λ e k. absurd (cc)
      | Ok ws ↦ λ e k. let same : v ∷ ws ≡ vs = cc in subst (AllByRecursion IsValue) same (all.0 v refl, all_of-values rest ws all.1 e)
    ] refl h

member-value : (vs : List Value) (k : ℕ) (v : Value) → AllByRecursion IsValue vs → slice_get vs k ≡ Some v → IsValue v
member-value vs k v all h = all-in IsValue vs v all (from_slice_get vs k v h)

first-values : (n : ℕ) (vs : List Value) → AllByRecursion IsValue vs → AllByRecursion IsValue (take n vs)
first-values zero vs all = tt
first-values (suc n) [] all = tt
first-values (suc n) (v ∷ vs) all = (all.0, first-values n vs all.1)

module _ (m : Meanings) (means : MeansValues m) (d : Document) (is : IsWellFormed d) where
  rule-formed : (s : Slot) (rule : Rule) → rule_of d s ≡ Some rule → IsFormed rule
  rule-formed s rule h =
      let r = map_some (λ (q : Row). q.rule) (row_of d s) rule h in
      let o = and_then_some (λ (q : Object). row_in (rows d q) s.name) (object_named d s.object) r.0 r.1 in
      let i = from_find (λ (q : Object). same_text q.name s.object) d.objects o.0 o.1 in
      let one : IsObject o.0 = all-in IsObject d.objects o.0 is.objects i in
      subst IsFormed (sym r.2)
      (row-formed d o.0 (o.0).kind r.0 refl one (from_find (λ (q : Row). same_slot_name q.name s.name) (rows d o.0) r.0 o.2))

  module _ (w : Slot → Outcome) (values : (s : Slot) (v : Value) → w s ≡ Ok v → IsValue v) where
    mapped-values : (ss : List Slot) → AreValues (map w ss)
    mapped-values [] = tt
    mapped-values (s ∷ ss) = (values s, mapped-values ss)

    at-values : (found : Option Slot) (v : Value) → at_slot w found ≡ Ok v → IsValue v
    at-values None v h = absurd (cc)
    at-values (Some s) v h = values s v h

    in-values : (o : Object) (x : Option Reference) (v : Value) → IsIn (Ok v) (in_cells d o w x) → IsValue v
    in-values o None v i = absurd i
    in-values o (Some x) v i =
        let k = from_map w (cells_reached d o x) (Ok v) i in
        values k.0 v (sym k.2)

    reading-values : (o : Object) (e : Tree) → GivesValues (reading d o e w)
    reading-values o e = record {
      at = λ k v h. at-values (option_and_then (slot_reached d o) (slice_get (references e) k)) v h;
      inside = λ k v i. in-values o (slice_get (references e) k) v i;
    }

    fitted-values : (type : Option PropType) (given : Outcome) (v : Value) → ((u : Value) → given ≡ Ok u → IsValue u) → fitted type given ≡ Ok v → IsValue v
    fitted-values None given v p h = p v h
    fitted-values (Some type) (Ok u) v p h = fitted_value type u v (p u refl) h
    fitted-values (Some type) (Err f) v p h = absurd (cc)

    first-value : (given : List Outcome) (v : Value) → AreValues given → first_of given ≡ Ok v → IsValue v
    first-value [] v all h = absurd (cc)
    first-value (r ∷ rs) v all h = all.0 v h

    chosen-value : (along : Bool) (k : c.Component) (vs : List Value) (v : Value) → AllByRecursion IsValue vs
        → cond along (m.composed (take 4 vs) (drop 5 vs) k) (part_of (take 4 vs) k) ≡ Ok v → IsValue v
    chosen-value true k vs v all h = means.composed (take 4 vs) (drop 5 vs) k v h
    chosen-value false k vs v all h = part (slice_get (take 4 vs) (component_number k)) refl h
      where
        part : (found : Option Value) → slice_get (take 4 vs) (component_number k) ≡ found → ok_or found Range ≡ Ok v → IsValue v
        part None e g = absurd (cc)
        part (Some u) e g = let same : u ≡ v = cc in subst IsValue same (member-value (take 4 vs) (component_number k) u (first-values 4 vs all) e)

    global-value : (k : c.Component) (given : List Outcome) (v : Value) → AreValues given → on_one (global_part m k) (all_of given) ≡ Ok v → IsValue v
    global-value k given v all h = by (all_of given) refl h
      where
        by : (r : Result (List Value) ValueFault) → all_of given ≡ r → on_one (global_part m k) r ≡ Ok v → IsValue v
        by (Err f) e g = absurd (cc)
        by (Ok vs) e g = chosen-value (is_set (slice_get vs 4)) k vs v (all_of-values given vs all e) g

    output-value : (plan : Option Slots) (k : ℕ) (r : Result (List Value) ValueFault) (v : Value) → on_one (output_part m plan k) r ≡ Ok v → IsValue v
    output-value plan k (Err f) v h = absurd (cc)
    output-value None k (Ok vs) v h = absurd (cc)
    output-value (Some plan) k (Ok vs) v h = means.gives plan vs k v h

    by_rule-value : (s : Slot) (o : Object) (rule : Option Rule) (v : Value) → rule_of d s ≡ rule → outcome_by_rule m d s o w rule ≡ Ok v → IsValue v
    by_rule-value s o None v e h = absurd (cc)
    by_rule-value s o (Some (own u)) v e h = let same : u ≡ v = cc in subst IsValue same (rule-formed s (own u) e)
    by_rule-value s o (Some (bound t)) v e h =
        fitted-values (type_of d s) (outcome_of (reading d o t w) 0 t) v (λ u g. spelled_value (reading d o t w) (reading-values o t) OutOfType 0 t u (rule-formed s (bound t) e) g) h
    by_rule-value s o (Some (inherit t)) v e h = first-value (map w (deps d s)) v (mapped-values (deps d s)) h
    by_rule-value s o (Some (global k)) v e h = global-value k (map w (deps d s)) v (mapped-values (deps d s)) h
    by_rule-value s o (Some (output k)) v e h = output-value (plan_behind d o) k (all_of (map w (deps d s))) v h

    object-value : (s : Slot) (found : Option Object) (v : Value) → option_map_or (λ (o : Object). outcome_by_rule m d s o w (rule_of d s)) found (Err Range) ≡ Ok v → IsValue v
    object-value s None v h = absurd (cc)
    object-value s (Some o) v h = by_rule-value s o (rule_of d s) v refl h

    local-value : (s : Slot) (v : Value) → local m d s w ≡ Ok v → IsValue v
    unfolding local
    local-value s v h = object-value s (object_named d s.object) v h

  within-value : (n : ℕ) (s : Slot) (v : Value) → full_at (local m d) (Err Range) n s ≡ Ok v → IsValue v
  unfolding full_at
  within-value zero s v h = absurd (cc)
  within-value (suc n) s v h = local-value (full_at (local m d) (Err Range) n) (within-value n) s v h

  -- each outcome that is no fault is a value
  full-value : (s : Slot) (v : Value) → full m d s ≡ Ok v → IsValue v
  unfolding full
  full-value s v h = within-value (length (slots d)) s v h

-- a slot that has a type is one of the document
typed-in : (d : Document) (s : Slot) (type : PropType) → type_of d s ≡ Some type → IsIn s (slots d)
typed-in d s type h =
    let r = and_then_some (λ (q : Row). q.prop) (row_of d s) type h in
    let o = and_then_some (λ (q : Object). row_in (rows d q) s.name) (object_named d s.object) r.0 r.1 in
    let same : slot_of o.0 (r.0).name ≡ s =
    λ i. record { object = object-found d s.object o.0 o.1 i; name = row_in-name (rows d o.0) s.name r.0 o.2 i } in
    subst (λ (x : Slot). IsIn x (slots d)) same
    (IsIn-flat_map (λ (q : Object). map (λ (x : Row). slot_of q x.name) (rows d q)) d.objects o.0 (slot_of o.0 (r.0).name)
    (from_find (λ (q : Object). same_text q.name s.object) d.objects o.0 o.1)
    (IsIn-map (λ (x : Row). slot_of o.0 x.name) (rows d o.0) r.0 (from_find (λ (q : Row). same_slot_name q.name s.name) (rows d o.0) r.0 o.2)))

-- in a valid document it has the slot's type too
pub outcomes-typed : ValidDocumentsHaveTypedOutcomes
outcomes-typed m d sorts means is valid s type v typed gives =
    let none = valid-no_fault d valid in
    let i = typed-in d s type typed in
    let found = none.sorts s i in
    let of_sort = full-typed m sorts d none s i in
    let k : found.0 ≡ sort_of_type type =
    local_sort-typed d (sort d) s type typed found.0 (sym (sort-fixpoint d none.cycles s i) ∙ found.1) in
    let told : IsOfSort (sort d s) (Ok v) = subst (IsOfSort (sort d s)) gives of_sort in
    let has : sort_of_value v ≡ found.0 = told found.0 found.1 in
    (full-value m means d is s v gives, (sort_equal (sort_of_value v) (sort_of_type type)).1 (has ∙ k))
