-- What stands behind the references of an expression, by numbers.
use Rattle.std.proofs.Common.{◌≡◌, ℕ, List, [], map, Some, None, refl, sym, ◌∙◌, ap}
use Rattle.std.specs.Prelude.{Option, slice_get}
use Rattle.std.specs.Option.{option_map, option_and_then, option_map_or}
use Rattle.std.proofs.lemmas.Option.{slice_get-map}
use Rattle.fc_base.specs.declared.ids.SlotId.{SlotId}
use Rattle.object_paths.specs.Slots.{Slot}
use Rattle.expr_tree.specs.References.{references}
use Rattle.expr_tree.specs.Tree.{Tree}
use Rattle.document_model.specs.Dependencies.{slot_reached}
use Rattle.document_model.specs.Document.{Object, object_named}
use Rattle.doc_tables.specs.Accessors.{AreReached, reached_at, slots_reached, tree_at}
use Rattle.doc_tables.specs.Numbered.{Numbered, at_number, slot_at}

module _ {A : Type 0} (t : Numbered) (f : SlotId → A) (w : Slot → A) (x : A) (same : (id : SlotId) (u : Slot) → slot_at t id.0 ≡ Some u → f id ≡ w u) where
  by_number : (p : Option SlotId) (q : Option Slot) → option_map (λ (id : SlotId). slot_at t id.0) p ≡ option_map Some q → option_map_or f p x ≡ option_map_or w q x
  by_number None None e = refl
  by_number None (Some u) e = absurd (cc)
  by_number (Some id) None e = absurd (cc)
  by_number (Some id) (Some u) e = same id u (cc)

  by_place :
      {R : Type 0} (reached : R → Option Slot) (p : Option (Option SlotId)) (r : Option R)
      → option_map (option_map (λ (id : SlotId). slot_at t id.0)) p ≡ option_map (option_map Some) (option_map reached r)
      → option_map_or f (option_and_then (λ (o : Option SlotId). o) p) x ≡ option_map_or w (option_and_then reached r) x
  by_place reached None None e = refl
  by_place reached None (Some r) e = absurd (cc)
  by_place reached (Some p) None e = absurd (cc)
  by_place reached (Some p) (Some r) e = by_number p (reached r) (cc)

  -- what is found by the number behind a reference is what the slot has that the reference names
  pub reading-by_number :
      (n : ℕ) (s : Slot) (o : Object) (e : Tree) (ids : List (Option SlotId))
      → slot_at t n ≡ Some s → object_named t.document s.object ≡ Some o → tree_at t n ≡ Some e → AreReached t ids (reached_at t n)
      → (k : ℕ) → option_map_or f (at_number ids k) x ≡ option_map_or w (option_and_then (slot_reached t.document o) (slice_get (references e) k)) x
  reading-by_number n s o e ids at named bound reached k =
      let one : reached_at t n ≡ slots_reached t.document s e =
      ap (λ (q : Option Slot). option_map_or (λ (u : Slot). option_map_or (slots_reached t.document u) (tree_at t n) []) q []) at
      ∙ ap (λ (q : Option Tree). option_map_or (slots_reached t.document s) q []) bound in
      let two : slots_reached t.document s e ≡ map (slot_reached t.document o) (references e) =
      ap (λ (q : Option Object). option_map_or (λ (o : Object). map (slot_reached t.document o) (references e)) q []) named in
      let found : map (option_map (λ (id : SlotId). slot_at t id.0)) ids ≡ map (option_map Some) (map (slot_reached t.document o) (references e)) =
      reached ∙ ap (λ (us : List (Option Slot)). map (option_map Some) us) (one ∙ two) in
      by_place (slot_reached t.document o) (slice_get ids k) (slice_get (references e) k)
      (sym (slice_get-map (option_map (λ (id : SlotId). slot_at t id.0)) ids k)
      ∙ ap (λ (us : List (Option (Option Slot))). slice_get us k) found
      ∙ slice_get-map (option_map Some) (map (slot_reached t.document o) (references e)) k
      ∙ ap (option_map (option_map Some)) (slice_get-map (slot_reached t.document o) (references e) k))
