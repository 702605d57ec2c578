-- A document in which an object has another label: each path leads where it led, and each slot has the outcome that it had.
use Rattle.std.proofs.Common.{◌≡◌, inl, inr, ℕ, Bool, true, false, cond, not, ◌||◌, List, [], ◌∷◌, ◌++◌, map, Some, None, refl, sym, ap, subst, ◌∙◌}
use Rattle.std.specs.Prelude.{Option, unwrap_or, IsTrue}
use Rattle.std.specs.List.{find, list_all, list_any}
use Rattle.std.specs.Option.{option_map, option_and_then, option_map_or}
use Rattle.std.proofs.lemmas.Bool.{and_parts, not-true, false≢true}
use Rattle.std.proofs.lemmas.List.{map-append}
use Rattle.fc_base.specs.Graph.{IsIn}
use Rattle.fc_base.specs.Places.{Place, address_of, unmarked}
use Rattle.object_paths.specs.declared.slot_name.SlotName.{SlotName}
use Rattle.object_paths.specs.declared.slot_name.SlotName.TheVariants.{Plain, Component, Marked}
use Rattle.object_paths.specs.declared.path.Owner.{Owner}
use Rattle.object_paths.specs.declared.path.Owner.TheVariants.{Here, ByName, ByLabel}
use Rattle.object_paths.specs.declared.path.Path.{Path}
use Rattle.object_paths.specs.Slots.{Slot, same_text}
use Rattle.property_types.specs.declared.prop_type.PropType.{PropType}
use Rattle.property_types.specs.Reserved.{are_distinct}
use Rattle.document_model.specs.declared.content.Content.{Content}
use Rattle.document_model.specs.declared.content.Content.TheVariants.{Own, Bound}
use Rattle.document_model.specs.declared.kind.ObjectKind.{ObjectKind}
use Rattle.document_model.specs.declared.kind.ObjectKind.TheVariants.{VarSet, Sheet, Link, Feature, Foreign}
use Rattle.document_model.specs.Document.{Document, Object, Property, Cell, object_labelled}
use Rattle.document_model.specs.Ends.{end_of}
use Rattle.document_model.specs.Renamed.{object, is_free_label, is_label_of, moved, renamed, renamed_object, renamed_content, renamed_property, renamed_cell}
use Rattle.document_model.specs.Resolution.{owner_of, slot_in, aliased_place, named_slot, plain_slot, sheet_slot, spelled_slot, resolve}
use Rattle.document_model.specs.Slots.{inherit, content_at, rule_of_content, rows_with, dynamic_rows, cell_rows, mirrored_row, outcome_rows, outcome_rows_of, rows_behind, rows_by}
use Rattle.document_model.specs.TypedSlots.{property_slots, plan_slots, link_slots, unplaced_slots, dynamic_slots, mirrored_by, mirrored_slots}
use Rattle.document_model.proofs.DistinctNames.{found-passes, only-found, same-itself, same-told}
use Rattle.document_model.proofs.Members.{and_then_some, found-some, from_find}
use Rattle.document_outcomes.proofs.CarriedLemmas.{Carries, PathsLead, new_rule, slot_in-new}
use Rattle.document_outcomes.proofs.ChangedLists.{find-changed, map-alike, map-same, map-twice}
use Rattle.document_outcomes.proofs.ChangedObjects.{ChangesObjects, object_named-new, end_of-new}
use Rattle.document_outcomes.proofs.RenamedRows.{under_new, row_to, typed_to, dynamic-new, cells-new, content_at-new, inputs-new, outcome-new}

-- where fewer pass, and what was found still does, it is found
find-fewer :
    {A : Type 0} (p fewer : A → Bool) (xs : List A) (q : A) → ((x : A) → IsIn x xs → p x ≡ false → fewer x ≡ false)
    → fewer q ≡ true → find p xs ≡ Some q → find fewer xs ≡ Some q
find-fewer p fewer [] q miss hit h = absurd (cc)
find-fewer p fewer (x ∷ xs) q miss hit h =
    elim (p x) as (λ b. p x ≡ b → cond b (Some x) (find p xs) ≡ Some q → cond (fewer x) (Some x) (find fewer xs) ≡ Some q) [
      | true ↦ λ e g. let same : x ≡ q = cc in ap (λ (b : Bool). cond b (Some x) (find fewer xs)) (ap fewer same ∙ hit) ∙ g
      | false ↦ λ e g.
          ap (λ (b : Bool). cond b (Some x) (find fewer xs)) (miss x (inl refl) e)
          ∙ find-fewer p fewer xs q (λ y j. miss y (inr j)) hit g
    ] refl h

-- what all pass, one of them passes
all-at : {A : Type 0} (p : A → Bool) (xs : List A) (x : A) → list_all p xs ≡ true → IsIn x xs → p x ≡ true
all-at p [] x h i = absurd i
all-at p (y ∷ ys) x h (inl e) = ap p e ∙ (and_parts (p y) (list_all p ys) h).0
all-at p (y ∷ ys) x h (inr i) = all-at p ys x (and_parts (p y) (list_all p ys) h).1 i

same-option : (o : Option Slot) → option_map (λ (s : Slot). record { object = s.object; name = s.name }) o ≡ o
same-option None = refl
same-option (Some s) = refl

module _ (d : Document) (name new : List ℕ) where
  -- nothing is asked of names, since slots keep theirs
  abbrev pub AnyName : List ℕ → SlotName → Type 0
  AnyName at n = Unit {0}

  abbrev pub relabelled : Document
  relabelled = renamed d (object name) new

  abbrev pub relabel : Object → Object
  relabel = renamed_object d (object name) new

  abbrev pub name_kept : List ℕ → SlotName → SlotName
  name_kept = under_new d (object name) new

  abbrev pub path_kept : Object → Path → Path
  path_kept o p = moved d o (object name) new p

  pub objects-relabelled : ChangesObjects d relabelled relabel
  objects-relabelled = record { objects = refl; name = λ o. refl; kind = λ o. refl; target = λ o. refl; members = λ o. refl }

  -- ---- rows
  property-same : (o : Object) (p : Property) → property_slots p.name p.prop ≡ map (typed_to d (object name) new AnyName o) (property_slots p.name p.prop)
  property-same o p = sym (map-same (typed_to d (object name) new AnyName o) (property_slots p.name p.prop) (λ slot. refl))

  dynamic-same : (o : Object) (ps : List Property) → dynamic_slots (map (renamed_property d o (object name) new) ps) ≡ dynamic_slots ps
  dynamic-same o [] = refl
  dynamic-same o (p ∷ ps) = λ i. property_slots p.name p.prop ++ dynamic-same o ps i

  mirrored-same : (e : Object) (k : ObjectKind) → mirrored_by (relabel e) k ≡ mirrored_by e k
  mirrored-same e VarSet = dynamic-same e e.dynamics
  mirrored-same e Sheet = dynamic-same e e.dynamics
  mirrored-same e Link = refl
  mirrored-same e (Feature plan) = λ i. unplaced_slots plan.inputs ++ dynamic-same e e.dynamics i
  mirrored-same e (Foreign type) = refl

  override-rule :
      (o : Object) (content : Option Content) (t : Slot)
      → option_map_or rule_of_content (option_map (renamed_content d o (object name) new) content) (inherit t)
      ≡ new_rule d relabelled relabel name_kept path_kept AnyName o (option_map_or rule_of_content content (inherit t))
  override-rule o None t = refl
  override-rule o (Some (Own v)) t = refl
  override-rule o (Some (Bound e)) t = refl

  mirrored-row : (o : Object) (slot : SlotName × PropType) → mirrored_row (relabel o) slot ≡ row_to d (object name) new AnyName o (mirrored_row o slot)
  mirrored-row o slot = λ i. record {
    name = slot.0;
    prop = Some slot.1;
    rule =
        (ap (λ (content : Option Content). option_map_or rule_of_content content (inherit (record { object = unwrap_or o.target []; name = slot.0 })))
        (content_at-new d (object name) new AnyName o slot.0 o.overrides)
        ∙ override-rule o (content_at slot.0 o.overrides) (record { object = unwrap_or o.target []; name = slot.0 })) i;
  }

  outcome-of : (o : Object) (k : ObjectKind) → outcome_rows_of k ≡ map (row_to d (object name) new AnyName o) (outcome_rows_of k)
  outcome-of o VarSet = refl
  outcome-of o Sheet = refl
  outcome-of o Link = refl
  outcome-of o (Feature plan) = outcome-new d (object name) new AnyName o plan (λ p j. refl) (λ k. refl)
  outcome-of o (Foreign type) = refl

  behind-relabelled : (o : Object) (found : Option Object) → rows_behind (relabel o) (option_map relabel found) ≡ map (row_to d (object name) new AnyName o) (rows_behind o found)
  behind-relabelled o None = refl
  behind-relabelled o (Some e) =
      (λ i. map (mirrored_row (relabel o)) (mirrored-same e e.kind i) ++ outcome-of o e.kind i)
      ∙ (λ i.
      (map-alike (mirrored_row (relabel o)) (λ (slot : SlotName × PropType). row_to d (object name) new AnyName o (mirrored_row o slot)) (mirrored_slots e) (λ slot j. mirrored-row o slot)
      ∙ sym (map-twice (mirrored_row o) (row_to d (object name) new AnyName o) (mirrored_slots e))) i
      ++ map (row_to d (object name) new AnyName o) (outcome_rows_of e.kind))
      ∙ sym (map-append (row_to d (object name) new AnyName o) (map (mirrored_row o) (mirrored_slots e)) (outcome_rows_of e.kind))

  rows-by : (o : Object) (k : ObjectKind) → rows_by relabelled (relabel o) k ≡ map (row_to d (object name) new AnyName o) (rows_by d o k)
  rows-by o VarSet = dynamic-new d (object name) new AnyName o (λ p j. property-same o p)
  rows-by o Sheet =
      (λ i. dynamic-new d (object name) new AnyName o (λ p j. property-same o p) i ++ cells-new d (object name) new AnyName o i)
      ∙ sym (map-append (row_to d (object name) new AnyName o) (dynamic_rows o) (cell_rows o))
  rows-by o Link =
      (λ i.
      inputs-new d (object name) new AnyName o link_slots (λ slot j. refl) i
      ++ (ap (rows_behind (relabel o)) (end_of-new d relabelled relabel objects-relabelled o) ∙ behind-relabelled o (end_of d o)) i)
      ∙ sym (map-append (row_to d (object name) new AnyName o) (rows_with link_slots o.inputs) (rows_behind o (end_of d o)))
  rows-by o (Feature plan) =
      (λ i.
      inputs-new d (object name) new AnyName o (plan_slots plan) (λ slot j. refl) i
      ++ dynamic-new d (object name) new AnyName o (λ p j. property-same o p) i ++ outcome-new d (object name) new AnyName o plan (λ p j. refl) (λ k. refl) i)
      ∙ (λ i. sym (map-append (row_to d (object name) new AnyName o) (rows_with (plan_slots plan) o.inputs) (dynamic_rows o)) i ++ map (row_to d (object name) new AnyName o) (outcome_rows plan))
      ∙ sym (map-append (row_to d (object name) new AnyName o) (rows_with (plan_slots plan) o.inputs ++ dynamic_rows o) (outcome_rows plan))
  rows-by o (Foreign type) = refl

  pub carries-relabelled : Carries d relabelled relabel name_kept path_kept AnyName
  carries-relabelled = record {
    base = objects-relabelled;
    row = λ o here. rows-by o o.kind;
    same = λ o r n here i free. refl;
    fresh = λ o r here i. tt;
    inherited = λ o r t here i e. tt;
    within = λ area at n. refl;
    placement = λ at k. (refl, tt);
    global = λ at k. (refl, tt);
    transform = λ at. (refl, tt);
    inputs = λ o plan i here behind j. (refl, tt);
    bounds = λ o n here has j. (refl, tt);
  }

  -- ---- paths
  slot_in-same : (o : Object) (n : SlotName) → IsIn o d.objects → slot_in relabelled (relabel o) n ≡ slot_in d o n
  slot_in-same o n here = slot_in-new d relabelled relabel name_kept path_kept AnyName carries-relabelled o n here tt ∙ same-option (slot_in d o n)

  any-same : (o : Object) (n : List ℕ) (ps : List Property) → list_any (λ (p : Property). same_text p.name n) (map (renamed_property d o (object name) new) ps) ≡ list_any (λ (p : Property). same_text p.name n) ps
  any-same o n [] = refl
  any-same o n (p ∷ ps) = λ i. same_text p.name n || any-same o n ps i

  aliased-same : (o : Object) (n : List ℕ) → aliased_place (relabel o).cells n ≡ aliased_place o.cells n
  aliased-same o n =
      ap (option_map (λ (e : Place × Cell). e.0))
      (find-changed (renamed_cell d o (object name) new) (λ (e : Place × Cell). option_map_or (λ alias. same_text alias n) e.1.alias false)
      (λ (e : Place × Cell). option_map_or (λ alias. same_text alias n) e.1.alias false) o.cells (λ e j. refl))
      ∙ elim (find (λ (e : Place × Cell). option_map_or (λ alias. same_text alias n) e.1.alias false) o.cells)
      as (λ found. option_map (λ (e : Place × Cell). e.0) (option_map (renamed_cell d o (object name) new) found) ≡ option_map (λ (e : Place × Cell). e.0) found) [ None ↦ refl | Some e ↦ refl ]

  named-same : (o : Object) (n : List ℕ) → IsIn o d.objects → named_slot relabelled (relabel o) n ≡ named_slot d o n
  named-same o n here = λ i.
      cond (any-same o n o.dynamics i) (slot_in-same o (Plain n) here i)
      (option_and_then (λ (p : Place). slot_in-same o (Marked (unmarked p)) here i) (aliased-same o n i))

  plain-same : (o : Object) (n : List ℕ) (p : Option Place) → IsIn o d.objects → plain_slot relabelled (relabel o) n p ≡ plain_slot d o n p
  plain-same o n None here = named-same o n here
  plain-same o n (Some p) here = slot_in-same o (Marked (unmarked p)) here

  sheet-same : (o : Object) (n : SlotName) → IsIn o d.objects → sheet_slot relabelled (relabel o) n ≡ sheet_slot d o n
  sheet-same o (Plain n) here = plain-same o n (address_of n) here
  sheet-same o (Component n k) here = slot_in-same o (Component n k) here
  sheet-same o (Marked p) here = slot_in-same o (Marked (unmarked p)) here

  spelled-same : (o : Object) (k : ObjectKind) (n : SlotName) → IsIn o d.objects → spelled_slot relabelled (relabel o) k n ≡ spelled_slot d o k n
  spelled-same o VarSet n here = slot_in-same o n here
  spelled-same o Sheet n here = sheet-same o n here
  spelled-same o Link n here = slot_in-same o n here
  spelled-same o (Feature plan) n here = slot_in-same o n here
  spelled-same o (Foreign type) n here = refl

  module _ (distinct : IsTrue (are_distinct (map (λ (o : Object). o.name) d.objects))) (free : IsTrue (is_free_label d name new)) where
    -- an object that is not renamed has another label than the new one
    other-label : (o : Object) → IsIn o d.objects → same_text o.name name ≡ false → same_text o.label new ≡ false
    other-label o here e =
        not-true (same_text o.label new)
        (ap (λ (b : Bool). b || not (same_text o.label new)) (sym e)
        ∙ all-at (λ (q : Object). same_text q.name name || not (same_text q.label new)) d.objects o free here)

    -- so the new label is found at the object that has it, and nowhere else
    label-test : (o : Object) → IsIn o d.objects → same_text (relabel o).label new ≡ same_text o.name name
    label-test o here =
        elim (same_text o.name name) as (λ b. same_text o.name name ≡ b → same_text (cond b new o.label) new ≡ b) [
          | true ↦ λ e. same-itself new
          | false ↦ λ e. other-label o here e
        ] refl

    named-found : (q : Object) → IsIn q d.objects → same_text q.name name ≡ true → find (λ (o : Object). same_text o.name name) d.objects ≡ Some q
    named-found q here e =
        let found = found-some (λ (o : Object). same_text o.name name) d.objects q here e in
        found.1 ∙ ap Some (sym (only-found (λ (o : Object). o.name) d.objects name q found.0 distinct here e found.1))

    by-new : (q : Object) → IsIn q d.objects → same_text q.name name ≡ true → object_labelled relabelled new ≡ Some (relabel q)
    by-new q here e =
        find-changed relabel (λ (o : Object). same_text o.label new) (λ (o : Object). same_text o.name name) d.objects (λ o j. label-test o j)
        ∙ ap (option_map relabel) (named-found q here e)

    -- a label of another object is not the new one, and is found where it was
    by-old : (label : List ℕ) (q : Object) → object_labelled d label ≡ Some q → same_text q.name name ≡ false → object_labelled relabelled label ≡ Some (relabel q)
    by-old label q h e =
        let called : same_text q.label label ≡ true = found-passes (λ (o : Object). same_text o.label label) d.objects q h in
        let here = from_find (λ (o : Object). same_text o.label label) d.objects q h in
        let apart : same_text new label ≡ false =
        elim (same_text new label) as (λ b. same_text new label ≡ b → b ≡ false) [
          | true ↦ λ g.
              absurd (false≢true (sym (other-label q here e) ∙ ap (same_text q.label) (same-told new label g) ∙ called))
          | false ↦ λ g. refl
        ] refl in
        find-changed relabel (λ (o : Object). same_text o.label label) (λ (o : Object). same_text (relabel o).label label) d.objects (λ o j. refl)
        ∙ ap (option_map relabel)
        (find-fewer (λ (o : Object). same_text o.label label) (λ (o : Object). same_text (relabel o).label label) d.objects q
        (λ o j g. elim (same_text o.name name) as (λ b. same_text (cond b new o.label) label ≡ false) [ true ↦ apart | false ↦ g ])
        (ap (λ (b : Bool). same_text (cond b new q.label) label) e ∙ called) h)

    by-label : (o : Object) (label : List ℕ) (q : Object) (b : Bool) → object_labelled d label ≡ Some q → same_text q.name name ≡ b
        → owner_of relabelled (relabel o) (cond b (ByLabel new) (ByLabel label)) ≡ Some (relabel q)
    by-label o label q true h e = by-new q (from_find (λ (x : Object). same_text x.label label) d.objects q h) e
    by-label o label q false h e = by-old label q h e

    -- the owner of a path is the object that it was, with its label
    owner-new : (o : Object) (w : Owner) (q : Object) → owner_of d o w ≡ Some q → owner_of relabelled (relabel o) (cond (is_label_of d name w) (ByLabel new) w) ≡ Some (relabel q)
    owner-new o Here q h = ap (option_map relabel) h
    owner-new o (ByName n) q h = object_named-new d relabelled relabel objects-relabelled n ∙ ap (option_map relabel) h
    owner-new o (ByLabel label) q h =
        ap (λ (found : Option Object). owner_of relabelled (relabel o) (cond (option_map_or (λ (x : Object). same_text x.name name) found false) (ByLabel new) (ByLabel label))) h
        ∙ by-label o label q (same_text q.name name) h refl

    owner-here : (o : Object) (w : Owner) (q : Object) → IsIn o d.objects → owner_of d o w ≡ Some q → IsIn q d.objects
    owner-here o Here q here h = subst (λ (x : Object). IsIn x d.objects) (let e : o ≡ q = cc in e) here
    owner-here o (ByName n) q here h = from_find (λ (x : Object). same_text x.name n) d.objects q h
    owner-here o (ByLabel label) q here h = from_find (λ (x : Object). same_text x.label label) d.objects q h

    path-form : (p : Path) (b : Bool) → cond b (record p { owner = ByLabel new }) p ≡ record { owner = cond b (ByLabel new) p.owner; slot = p.slot }
    path-form p true = refl
    path-form p false = refl

    pub paths-relabelled : PathsLead d relabelled relabel name_kept path_kept AnyName
    unfolding resolve
    paths-relabelled o p s here h =
        let m = and_then_some (λ (owner : Object). spelled_slot d owner owner.kind p.slot) (owner_of d o p.owner) s h in
        ap (resolve relabelled (relabel o)) (path-form p (is_label_of d name p.owner))
        ∙ ap (option_and_then (λ (owner : Object). spelled_slot relabelled owner owner.kind p.slot)) (owner-new o p.owner m.0 m.1)
        ∙ spelled-same m.0 (m.0).kind p.slot (owner-here o p.owner m.0 here m.1) ∙ m.2
