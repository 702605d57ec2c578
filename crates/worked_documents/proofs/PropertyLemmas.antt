-- A path of a VarSet's own slot that names nothing leaves its name free.
use Rattle.std.proofs.Common.{◌≡◌, Bool, true, false, cond, ◌||◌, List, [], ◌∷◌, ◌++◌, Some, None, refl, sym, ◌∙◌, ap, subst}
use Rattle.std.specs.Prelude.{Option, ℕ, not, is_some}
use Rattle.std.specs.List.{flat_map, list_any, AllByRecursion}
use Rattle.std.specs.Option.{option_map, option_and_then, option_map_or}
use Rattle.fc_base.specs.Graph.{IsIn}
use Rattle.fc_base.specs.declared.ids.SlotId.{SlotId}
use Rattle.object_paths.specs.declared.path.Owner.TheVariants.{Here}
use Rattle.object_paths.specs.declared.path.Path.{Path}
use Rattle.object_paths.specs.declared.slot_name.SlotName.TheVariants.{Plain}
use Rattle.object_paths.specs.Slots.{Slot, same_text, same_slot_name}
use Rattle.document_model.specs.declared.kind.ObjectKind.{ObjectKind}
use Rattle.document_model.specs.Document.{Object, Property, object_named}
use Rattle.document_model.specs.Resolution.{resolve, spelled_slot, slot_in}
use Rattle.document_model.specs.Slots.{Row, rows, rows_by, rows_in_order, dynamic_rows, row_in, slot_of}
use Rattle.document_model.specs.TypedSlots.{property_slots}
use Rattle.document_model.proofs.Members.{from_find, and_then_some}
use Rattle.doc_tables.specs.Accessors.{IsNumberOf}
use Rattle.doc_tables.specs.Numbered.{Numbered, name_at, object_at}
use Rattle.doc_tables.specs.Primitives.{lacks_property}
use Rattle.doc_tables.specs.VarSets.{HasOneSlot, IsVarSet, HoldsVarSets}
use Rattle.doc_tables.proofs.HeldLemmas.{one_slot}
use Rattle.doc_tables.proofs.VarSetLemmas.{of_all}

-- the row of a property of one slot
rows_of_one : (p : Property) → HasOneSlot p → (r : Row) × (rows_in_order (property_slots p.name p.prop) p.contents ≡ r ∷ []) × (r.name ≡ Plain p.name)
rows_of_one p one = (
  _,
  ap (λ slots. rows_in_order slots p.contents) (one_slot p.name p.prop one.type)
      ∙ ap (rows_in_order ((Plain p.name, p.prop) ∷ [])) (ap (λ (q : Property). q.contents) one.property),
  refl,
)

-- where no row is found, no property has the name
none-found : (name : List ℕ) (ps : List Property) → AllByRecursion HasOneSlot ps
    → row_in (flat_map (λ p. rows_in_order (property_slots p.name p.prop) p.contents) ps) (Plain name) ≡ None
    → list_any (λ (p : Property). same_text p.name name) ps ≡ false
none-found name [] held h = refl
none-found name (p ∷ ps) held h =
    let rest : List Row = flat_map (λ p. rows_in_order (property_slots p.name p.prop) p.contents) ps in
    let one = rows_of_one p held.0 in
    let r : Row = one.0 in
    let found : cond (same_slot_name r.name (Plain name)) (Some r) (row_in rest (Plain name)) ≡ None =
    sym (ap (λ (all : List Row). row_in (all ++ rest) (Plain name)) one.1) ∙ h in
    let test : cond (same_text p.name name) (Some r) (row_in rest (Plain name)) ≡ None =
    subst (λ n. cond (same_slot_name n (Plain name)) (Some r) (row_in rest (Plain name)) ≡ None) one.2 found in
    elim (same_text p.name name) as (λ (b : Bool). cond b (Some r) (row_in rest (Plain name)) ≡ None
    → (b || list_any (λ (p : Property). same_text p.name name) ps) ≡ false) [
      | true ↦ λ e. absurd (cc)
      | false ↦ λ e. none-found name ps held.1 e
    ] test

module _ (t : Numbered) (holds : HoldsVarSets t.document) (name : List ℕ) where
  free : (o : Object) → IsIn o t.document.objects → slot_in t.document o (Plain name) ≡ None → list_any (λ (p : Property). same_text p.name name) o.dynamics ≡ false
  free o here h =
      let set : IsVarSet o = of_all IsVarSet t.document.objects o holds.objects here in
      let all : rows t.document o ≡ dynamic_rows o = ap (rows_by t.document o) (ap (λ (q : Object). q.kind) set.object) in
      none-found name o.dynamics set.properties
      (elim (row_in (dynamic_rows o) (Plain name)) as (λ (q : Option Row). option_map (λ (r : Row). slot_of o r.name) q ≡ None → q ≡ None) [
        | None ↦ λ e. refl
        | Some r ↦ λ e. absurd (cc)
      ] (sym (ap (λ (rs : List Row). option_map (λ (r : Row). slot_of o r.name) (row_in rs (Plain name))) all) ∙ h))

  pub unresolved-lacks :
      (n : ℕ) (p : Path) → p ≡ record { owner = Here; slot = Plain name }
      → option_and_then (λ o. resolve t.document o p) (object_at t n) ≡ None → lacks_property t n name ≡ true
  unfolding resolve
  unresolved-lacks n p is h =
      elim (object_at t n) as (λ (q : Option Object). object_at t n ≡ q → option_and_then (λ o. resolve t.document o p) q ≡ None
      → option_map_or (λ (o : Object). not (list_any (λ (p : Property). same_text p.name name) o.dynamics)) q true ≡ true) [
        | None ↦ λ e k. refl
        | Some o ↦ λ e k.
            let named = and_then_some (object_named t.document) (name_at t n) o e in
            let here : IsIn o t.document.objects = from_find (λ (q : Object). same_text q.name named.0) t.document.objects o named.2 in
            let set : IsVarSet o = of_all IsVarSet t.document.objects o holds.objects here in
            let plain : resolve t.document o (record { owner = Here; slot = Plain name }) ≡ None = subst (λ (q : Path). resolve t.document o q ≡ None) is k in
            let spelled : slot_in t.document o (Plain name) ≡ None =
            sym (ap (λ (kind : ObjectKind). spelled_slot t.document o kind (Plain name)) (ap (λ (q : Object). q.kind) set.object)) ∙ plain in
            ap not (free o here spelled)
      ] refl h

-- where there is no number there is nothing
pub nothing-numbered : (t : Numbered) (id : Option SlotId) (q : Option Slot) → IsNumberOf t id q → is_some id ≡ false → q ≡ None
nothing-numbered t None None h e = refl
nothing-numbered t None (Some s) h e = absurd (cc)
nothing-numbered t (Some id) q h e = absurd (cc)

-- where a row is found, a property has the name
row-named : (name : List ℕ) (ps : List Property) → AllByRecursion HasOneSlot ps
    → is_some (row_in (flat_map (λ p. rows_in_order (property_slots p.name p.prop) p.contents) ps) (Plain name)) ≡ true
    → list_any (λ (p : Property). same_text p.name name) ps ≡ true
row-named name [] held h = absurd (cc)
row-named name (p ∷ ps) held h =
    let rest : List Row = flat_map (λ p. rows_in_order (property_slots p.name p.prop) p.contents) ps in
    let one = rows_of_one p held.0 in
    let r : Row = one.0 in
    let found : is_some (cond (same_slot_name r.name (Plain name)) (Some r) (row_in rest (Plain name))) ≡ true =
    sym (ap (λ (all : List Row). is_some (row_in (all ++ rest) (Plain name))) one.1) ∙ h in
    let test : is_some (cond (same_text p.name name) (Some r) (row_in rest (Plain name))) ≡ true =
    subst (λ n. is_some (cond (same_slot_name n (Plain name)) (Some r) (row_in rest (Plain name))) ≡ true) one.2 found in
    elim (same_text p.name name) as (λ (b : Bool). is_some (cond b (Some r) (row_in rest (Plain name))) ≡ true
    → (b || list_any (λ (p : Property). same_text p.name name) ps) ≡ true) [
      | true ↦ λ e. refl
      | false ↦ λ e. row-named name ps held.1 e
    ] test

number-there : (t : Numbered) (id : Option SlotId) (q : Option Slot) → IsNumberOf t id q → is_some id ≡ true → is_some q ≡ true
number-there t id (Some s) h e = refl
number-there t None None h e = e
number-there t (Some i) None h e = absurd (cc)

-- an object with a slot of its own has a property of that name
module _ (t : Numbered) (holds : HoldsVarSets t.document) (name : List ℕ) where
  slot-named : (o : Object) → IsIn o t.document.objects → is_some (slot_in t.document o (Plain name)) ≡ true → list_any (λ (p : Property). same_text p.name name) o.dynamics ≡ true
  slot-named o here h =
      let set : IsVarSet o = of_all IsVarSet t.document.objects o holds.objects here in
      let all : rows t.document o ≡ dynamic_rows o = ap (rows_by t.document o) (ap (λ (q : Object). q.kind) set.object) in
      row-named name o.dynamics set.properties
      (elim (row_in (dynamic_rows o) (Plain name)) as (λ (q : Option Row). is_some (option_map (λ (r : Row). slot_of o r.name) q) ≡ true → is_some q ≡ true) [
        | None ↦ λ e. e
        | Some r ↦ λ e. refl
      ] (sym (ap (λ (rs : List Row). is_some (option_map (λ (r : Row). slot_of o r.name) (row_in rs (Plain name)))) all) ∙ h))

  pub slot-has_property : (n : ℕ) (id : Option SlotId) → IsNumberOf t id (option_and_then (λ o. slot_in t.document o (Plain name)) (object_at t n)) → is_some id ≡ true → not (lacks_property t n name) ≡ true
  slot-has_property n id told h =
      let there : is_some (option_and_then (λ o. slot_in t.document o (Plain name)) (object_at t n)) ≡ true =
      number-there t id (option_and_then (λ o. slot_in t.document o (Plain name)) (object_at t n)) told h
      in
      elim (object_at t n) as (λ (q : Option Object). object_at t n ≡ q → is_some (option_and_then (λ o. slot_in t.document o (Plain name)) q) ≡ true
      → not (option_map_or (λ (o : Object). not (list_any (λ (p : Property). same_text p.name name) o.dynamics)) q true) ≡ true) [
        | None ↦ λ e k. absurd (cc)
        | Some o ↦ λ e k.
            let named = and_then_some (object_named t.document) (name_at t n) o e in
            let here : IsIn o t.document.objects = from_find (λ (q : Object). same_text q.name named.0) t.document.objects o named.2 in
            ap (λ (b : Bool). not (not b)) (slot-named o here k)
      ] refl there
