-- In VarSets no reference reaches a cell.
use Rattle.std.proofs.Common.{◌≡◌, inl, inr, Bool, cond, List, [], ◌∷◌, refl, sym, ◌∙◌, ap, subst}
use Rattle.std.specs.Prelude.{ℕ, false, map}
use Rattle.std.specs.List.{filter, AllByRecursion}
use Rattle.fc_base.specs.Graph.{IsIn}
use Rattle.fc_base.specs.Places.{Block}
use Rattle.object_paths.specs.declared.slot_name.SlotName.{SlotName}
use Rattle.object_paths.specs.declared.slot_name.SlotName.TheVariants.{Component}
use Rattle.object_paths.specs.declared.slot_name.Component as c
use Rattle.property_types.specs.declared.prop_type.PropType.{PropType}
use Rattle.property_types.specs.declared.prop_type.PropType.TheVariants as prop
use Rattle.expr_tree.specs.References.{Reference, to_path, to_area}
use Rattle.document_model.specs.declared.content.Content.{Content}
use Rattle.document_model.specs.declared.kind.ObjectKind.TheVariants.{VarSet}
use Rattle.document_model.specs.Dependencies.{is_cell_within, cells_reached}
use Rattle.document_model.specs.Document.{Document, Object, Property}
use Rattle.document_model.specs.Slots.{Row, rows_by, rows_in_order, dynamic_rows, slot_of}
use Rattle.document_model.specs.TypedSlots.{components, type_of_component, property_slots}
use Rattle.document_model.proofs.Members.{from_map, from_flat_map}
use Rattle.doc_tables.specs.VarSets.{IsVarSet, HoldsVarSets}

-- a member of a list of which something holds
pub of_all : {A : Type 0} (P : A → Type 0) (xs : List A) (x : A) → AllByRecursion P xs → IsIn x xs → P x
of_all P [] x all i = absurd i
of_all P (y ∷ ys) x all (inl e) = subst P (sym e) all.0
of_all P (y ∷ ys) x all (inr i) = of_all P ys x all.1 i

-- where no member passes, none is kept
filter-none : {A : Type 0} (p : A → Bool) (xs : List A) → ((x : A) → IsIn x xs → p x ≡ false) → filter p xs ≡ []
filter-none p [] none = refl
filter-none {A} p (x ∷ xs) none =
    ap (λ (b : Bool). cond b (x ∷ filter p xs) (filter p xs)) (none x (inl refl)) ∙ filter-none p xs (λ y i. none y (inr i))

module _ (area : Block) where
  -- the slot of a property is no cell
  property-unmarked : (name : List ℕ) (type : PropType) (slot : SlotName × PropType) → IsIn slot (property_slots name type) → is_cell_within area slot.0 ≡ false
  property-unmarked name prop.Placement slot i =
      let m = from_map (λ (k : c.Component). (Component name k, type_of_component k)) components slot i in
      ap (λ (q : SlotName × PropType). is_cell_within area q.0) m.2
  property-unmarked name _ slot (inl e) = ap (λ (q : SlotName × PropType). is_cell_within area q.0) e
  property-unmarked name _ slot (inr i) = absurd i

  rows-unmarked :
      (slots : List (SlotName × PropType)) (contents : List Content) (r : Row)
      → ((slot : SlotName × PropType) → IsIn slot slots → is_cell_within area slot.0 ≡ false)
      → IsIn r (rows_in_order slots contents) → is_cell_within area r.name ≡ false
  rows-unmarked [] contents r none i = absurd i
  rows-unmarked (slot ∷ slots) [] r none (inl e) = ap (λ (q : Row). is_cell_within area q.name) e ∙ none slot (inl refl)
  rows-unmarked (slot ∷ slots) [] r none (inr i) = rows-unmarked slots [] r (λ q j. none q (inr j)) i
  rows-unmarked (slot ∷ slots) (content ∷ contents) r none (inl e) = ap (λ (q : Row). is_cell_within area q.name) e ∙ none slot (inl refl)
  rows-unmarked (slot ∷ slots) (content ∷ contents) r none (inr i) = rows-unmarked slots contents r (λ q j. none q (inr j)) i

  dynamic-unmarked : (o : Object) (r : Row) → IsIn r (dynamic_rows o) → is_cell_within area r.name ≡ false
  dynamic-unmarked o r i =
      let m = from_flat_map (λ (p : Property). rows_in_order (property_slots p.name p.prop) p.contents) o.dynamics r i in
      let p : Property = m.0 in
      rows-unmarked (property_slots p.name p.prop) p.contents r (property-unmarked p.name p.prop) m.2

-- a VarSet has no cells, so none is reached
pub cells-none : (d : Document) (o : Object) → o.kind ≡ VarSet → (x : Reference) → cells_reached d o x ≡ []
cells-none d o kind (to_path p) = refl
cells-none d o kind (to_area area) =
    ap (λ (all : List Row). map (λ (r : Row). slot_of o r.name) (filter (λ (r : Row). is_cell_within area r.name) all))
    (ap (rows_by d o) kind)
    ∙ ap (map (λ (r : Row). slot_of o r.name))
    (filter-none (λ (r : Row). is_cell_within area r.name) (dynamic_rows o) (dynamic-unmarked area o))

-- in a document of VarSets no reference reaches a cell
pub no_cells-reached : (d : Document) → HoldsVarSets d → (o : Object) → IsIn o d.objects → (x : Reference) → cells_reached d o x ≡ []
no_cells-reached d holds o here x =
    let set : IsVarSet o = of_all IsVarSet d.objects o holds.objects here in
    cells-none d o (ap (λ (q : Object). q.kind) set.object) x
