-- Each dependency is found by a look-up in the rows of an object of the document, so it is a slot.
use Rattle.std.proofs.Common.{◌≡◌, inl, inr, ℕ, Bool, true, false, cond, List, [], ◌∷◌, ◌++◌, map, Some, None, refl, sym, subst, codes}
use Rattle.std.specs.Prelude.{Option, unwrap_or}
use Rattle.std.specs.List.{filter, filter_map, flat_map}
use Rattle.std.specs.Option.{option_and_then, option_map_or, option_to_list}
use Rattle.fc_base.specs.Graph.{IsIn, Closed}
use Rattle.fc_base.specs.Places.{Place, address_of, unmarked}
use Rattle.object_paths.specs.declared.slot_name.SlotName.{SlotName}
use Rattle.object_paths.specs.declared.slot_name.SlotName.TheVariants.{Plain, Component, Marked}
use Rattle.object_paths.specs.declared.path.Owner.{Owner}
use Rattle.object_paths.specs.declared.path.Owner.TheVariants.{Here, ByName, ByLabel}
use Rattle.object_paths.specs.declared.path.Path.{Path}
use Rattle.object_paths.specs.Slots.{Slot}
use Rattle.expr_tree.specs.Tree.{Tree}
use Rattle.expr_tree.specs.References.{Reference, to_path, to_area, references}
use Rattle.document_model.specs.declared.kind.ObjectKind.{ObjectKind}
use Rattle.document_model.specs.declared.kind.ObjectKind.TheVariants.{VarSet, Sheet, Link, Feature, Foreign}
use Rattle.document_model.specs.Document.{Document, Object, object_named}
use Rattle.document_model.specs.Slots.{Row, Rule, own, bound, inherit, global, output, rows, row_in, slot_of, slots, rule_of}
use Rattle.document_model.specs.Resolution.{owner_of, slot_in, cell_slot, aliased_place, has_dynamic, named_slot, plain_slot, sheet_slot, spelled_slot, resolve}
use Rattle.document_model.specs.Dependencies.{existing, slot_reached, is_cell_within, cells_reached, slots_of_tree, placement_of, link_slots_read, inputs_of, deps_by, deps}
use Rattle.document_model.proofs.Members.{and_then_some, map_some, from_find, from_filter, from_map, from_append, from_option, from_flat_map, from_filter_map, IsIn-map, IsIn-flat_map}

module _ (d : Document) where
  -- the slot of a row of an object
  of_row : (o : Object) (r : Row) → IsIn o d.objects → IsIn r (rows d o) → IsIn (slot_of o r.name) (slots d)
  of_row o r here i =
      IsIn-flat_map (λ q. map (λ (k : Row). slot_of q k.name) (rows d q)) d.objects o (slot_of o r.name) here
      (IsIn-map (λ (k : Row). slot_of o k.name) (rows d o) r i)

  of_slot_in : (o : Object) (name : SlotName) (s : Slot) → IsIn o d.objects → slot_in d o name ≡ Some s → IsIn s (slots d)
  of_slot_in o name s here h =
      let m = map_some (λ (r : Row). slot_of o r.name) (row_in (rows d o) name) s h in
      subst (λ (q : Slot). IsIn q (slots d)) (sym m.2) (of_row o m.0 here (from_find _ (rows d o) m.0 m.1))

  -- the slot of a cell with an alias
  of_alias :
      (o : Object) (name : List ℕ) (s : Slot) → IsIn o d.objects
      → option_and_then (cell_slot d o) (aliased_place o.cells name) ≡ Some s → IsIn s (slots d)
  of_alias o name s here e =
      let m = and_then_some (cell_slot d o) (aliased_place o.cells name) s e in
      of_slot_in o (Marked (unmarked m.0)) s here m.2

  -- a property of that name hides an alias
  of_chosen :
      (hides : Bool) (o : Object) (name : List ℕ) (s : Slot) → IsIn o d.objects
      → cond hides (slot_in d o (Plain name)) (option_and_then (cell_slot d o) (aliased_place o.cells name)) ≡ Some s → IsIn s (slots d)
  of_chosen true o name s here h = of_slot_in o (Plain name) s here h
  of_chosen false o name s here h = of_alias o name s here h

  of_named : (o : Object) (name : List ℕ) (s : Slot) → IsIn o d.objects → named_slot d o name ≡ Some s → IsIn s (slots d)
  of_named o name s here h = of_chosen (has_dynamic o name) o name s here h

  of_plain : (o : Object) (name : List ℕ) (p : Option Place) (s : Slot) → IsIn o d.objects → plain_slot d o name p ≡ Some s → IsIn s (slots d)
  of_plain o name None s here h = of_named o name s here h
  of_plain o name (Some p) s here h = of_slot_in o (Marked (unmarked p)) s here h

  of_sheet : (o : Object) (name : SlotName) (s : Slot) → IsIn o d.objects → sheet_slot d o name ≡ Some s → IsIn s (slots d)
  of_sheet o (Plain name) s here h = of_plain o name (address_of name) s here h
  of_sheet o (Component name k) s here h = of_slot_in o (Component name k) s here h
  of_sheet o (Marked p) s here h = of_slot_in o (Marked (unmarked p)) s here h

  of_spelled : (o : Object) (kind : ObjectKind) (name : SlotName) (s : Slot) → IsIn o d.objects → spelled_slot d o kind name ≡ Some s → IsIn s (slots d)
  of_spelled o VarSet name s here h = of_slot_in o name s here h
  of_spelled o Sheet name s here h = of_sheet o name s here h
  of_spelled o Link name s here h = of_slot_in o name s here h
  of_spelled o (Feature plan) name s here h = of_slot_in o name s here h
  of_spelled o (Foreign type) name s here h = absurd (cc)

  of_owner : (o : Object) (w : Owner) (q : Object) → IsIn o d.objects → owner_of d o w ≡ Some q → IsIn q d.objects
  of_owner o Here q here h = subst (λ (k : Object). IsIn k d.objects) (let e : o ≡ q = cc in e) here
  of_owner o (ByName name) q here h = from_find _ d.objects q h
  of_owner o (ByLabel label) q here h = from_find _ d.objects q h

  -- what a path names is a slot
  pub of_resolve : (o : Object) (p : Path) (s : Slot) → IsIn o d.objects → resolve d o p ≡ Some s → IsIn s (slots d)
  unfolding resolve
  of_resolve o p s here h =
      let m = and_then_some (λ (owner : Object). spelled_slot d owner owner.kind p.slot) (owner_of d o p.owner) s h in
      of_spelled m.0 (m.0).kind p.slot s (of_owner o p.owner m.0 here m.1) m.2

  of_existing : (t s : Slot) → existing d t ≡ Some s → IsIn s (slots d)
  of_existing t s h =
      let m = and_then_some (λ (o : Object). slot_in d o t.name) (object_named d t.object) s h in
      of_slot_in m.0 t.name s (from_find _ d.objects m.0 m.1) m.2

  of_all_existing : (ts : List Slot) (s : Slot) → IsIn s (filter_map (existing d) ts) → IsIn s (slots d)
  of_all_existing ts s i = let m = from_filter_map (existing d) ts s i in of_existing m.0 s m.2

  of_reached : (o : Object) (r : Reference) (s : Slot) → IsIn o d.objects → slot_reached d o r ≡ Some s → IsIn s (slots d)
  of_reached o (to_path p) s here h = of_resolve o p s here h
  of_reached o (to_area area) s here h = absurd (cc)

  of_cells : (o : Object) (r : Reference) (s : Slot) → IsIn o d.objects → IsIn s (cells_reached d o r) → IsIn s (slots d)
  of_cells o (to_path p) s here i = absurd i
  of_cells o (to_area area) s here i =
      let m = from_map (λ (r : Row). slot_of o r.name) (filter (λ (r : Row). is_cell_within area r.name) (rows d o)) s i in
      subst (λ (q : Slot). IsIn q (slots d)) (sym m.2) (of_row o m.0 here (from_filter _ (rows d o) m.0 m.1))

  of_tree : (o : Object) (e : Tree) (s : Slot) → IsIn o d.objects → IsIn s (slots_of_tree d o e) → IsIn s (slots d)
  of_tree o e s here i =
      elim (from_append (flat_map (λ r. option_to_list (slot_reached d o r)) (references e)) (flat_map (cells_reached d o) (references e)) s i) [
        | inl j ↦
            let m = from_flat_map (λ (r : Reference). option_to_list (slot_reached d o r)) (references e) s j in
            of_reached o m.0 s here (from_option (slot_reached d o m.0) s m.2)
        | inr j ↦
            let m = from_flat_map (cells_reached d o) (references e) s j in
            of_cells o m.0 s here m.2
      ]

  of_rule : (o : Object) (rule : Option Rule) (s : Slot) → IsIn o d.objects → IsIn s (deps_by d o rule) → IsIn s (slots d)
  of_rule o None s here i = absurd i
  of_rule o (Some (own v)) s here i = absurd i
  of_rule o (Some (bound e)) s here i = of_tree o e s here i
  of_rule o (Some (inherit t)) s here i = of_all_existing (t ∷ []) s i
  of_rule o (Some (global k)) s here i = of_all_existing (placement_of (codes "Placement") o ++ link_slots_read o o.kind) s i
  of_rule o (Some (output k)) s here i = of_all_existing (unwrap_or (inputs_of d o) []) s i

  of_object : (t : Slot) (found : Option Object) (s : Slot) → object_named d t.object ≡ found → IsIn s (option_map_or (λ (o : Object). deps_by d o (rule_of d t)) found []) → IsIn s (slots d)
  of_object t None s h i = absurd i
  of_object t (Some o) s h i = of_rule o (rule_of d t) s (from_find _ d.objects o h) i

  -- what a slot depends on is a slot
  pub deps_are_slots : Closed (deps d) (slots d)
  unfolding deps
  deps_are_slots t s here i = of_object t (object_named d t.object) s refl i
