-- The test of slots is equality.
use Rattle.std.proofs.Common.{◌≡◌, ◌↔◌, Bool, true, false, ◌&&◌, nat_eq, IsTrue, refl, ap}
use Rattle.std.specs.Bool.{Decides}
use Rattle.std.specs.Cmp.Lexicographic.{bytes_decides}
use Rattle.std.proofs.lemmas.Bool.{and_parts}
use Rattle.std.proofs.lemmas.Bool.Decides.{Decides-eqb}
use Rattle.fc_base.specs.Places.{Place}
use Rattle.object_paths.specs.declared.slot_name.Component as c
use Rattle.object_paths.specs.declared.slot_name.Component.TheVariants.{X, Y, Z, Turn}
use Rattle.object_paths.specs.declared.slot_name.SlotName.{SlotName}
use Rattle.object_paths.specs.declared.slot_name.SlotName.TheVariants.{Plain, Component, Marked}
use Rattle.object_paths.specs.Slots.{Slot, same_text, same_component, same_mark, same_place, same_slot_name, same_slot}

both : (a b : Bool) → a ≡ true → b ≡ true → (a && b) ≡ true
both a b p q = cc

component_equal : (a b : c.Component) → Decides (same_component a b) (a ≡ b)
component_equal X X = (λ _. refl, λ _. refl)
component_equal Y Y = (λ _. refl, λ _. refl)
component_equal Z Z = (λ _. refl, λ _. refl)
component_equal Turn Turn = (λ _. refl, λ _. refl)
component_equal _ _ = (λ h. absurd (cc), λ h. absurd (cc))

mark_equal : (a b : Bool) → Decides (same_mark a b) (a ≡ b)
mark_equal true true = (λ _. refl, λ _. refl)
mark_equal true false = (λ h. absurd (cc), λ h. absurd (cc))
mark_equal false true = (λ h. absurd (cc), λ h. absurd (cc))
mark_equal false false = (λ _. refl, λ _. refl)

place_equal : (p q : Place) → Decides (same_place p q) (p ≡ q)
place_equal p q =
    let columns = Decides-eqb p.column q.column in
    let rows = Decides-eqb p.row q.row in
    let of_columns = mark_equal p.fixed_column q.fixed_column in
    let of_rows = mark_equal p.fixed_row q.fixed_row in (
      λ h.
          let one = and_parts (nat_eq p.column q.column && nat_eq p.row q.row && same_mark p.fixed_column q.fixed_column) (same_mark p.fixed_row q.fixed_row) h in
          let two = and_parts (nat_eq p.column q.column && nat_eq p.row q.row) (same_mark p.fixed_column q.fixed_column) one.0 in
          let three = and_parts (nat_eq p.column q.column) (nat_eq p.row q.row) two.0 in
          λ i. record {
            column = columns.0 three.0 i;
            row = rows.0 three.1 i;
            fixed_column = of_columns.0 two.1 i;
            fixed_row = of_rows.0 one.1 i;
          },
      λ e.
          both _ _
          (both _ _
          (both _ _ (columns.1 (ap (λ (r : Place). r.column) e)) (rows.1 (ap (λ (r : Place). r.row) e)))
          (of_columns.1 (ap (λ (r : Place). r.fixed_column) e)))
          (of_rows.1 (ap (λ (r : Place). r.fixed_row) e)),
    )

pub name_equal : (m n : SlotName) → Decides (same_slot_name m n) (m ≡ n)
name_equal (Plain a) (Plain b) = let d = bytes_decides a b in (λ h. ap Plain (d.0 h), λ h. d.1 (cc))
name_equal (Component a k) (Component b l) =
    let texts = bytes_decides a b in
    let parts = component_equal k l in (
      λ h.
          let each = and_parts (same_text a b) (same_component k l) h in
          λ i. Component (texts.0 each.0 i) (parts.0 each.1 i),
      λ e. both _ _ (texts.1 (cc)) (parts.1 (cc)),
    )
name_equal (Marked p) (Marked q) = let d = place_equal p q in (λ h. ap Marked (d.0 h), λ h. d.1 (cc))
name_equal _ _ = (λ h. absurd (cc), λ h. absurd (cc))

pub slot_equal : (s t : Slot) → IsTrue (same_slot s t) ↔ (s ≡ t)
slot_equal s t =
    let objects = bytes_decides s.object t.object in
    let names = name_equal s.name t.name in (
      λ h.
          let each = and_parts (same_text s.object t.object) (same_slot_name s.name t.name) h in
          λ i. record { object = objects.0 each.0 i; name = names.0 each.1 i },
      λ e. both _ _ (objects.1 (ap (λ (q : Slot). q.object) e)) (names.1 (ap (λ (q : Slot). q.name) e)),
    )
