-- The tests of units, quantities, values and sorts are equality: each part's test is, and a part
-- that differs makes the whole differ.
use Rattle.std.proofs.Common.{◌≡◌, Bool, true, false, refl, ap}
use Rattle.std.specs.Bool.{Decides}
use Rattle.std.proofs.lemmas.Bool.{and_parts, and_from}
use Rattle.std.specs.Cmp.{signed_Decides}
use Rattle.std.specs.Cmp.Rules.{signed_items}
use Rattle.std.specs.Cmp.Lexicographic.{bytes_decides}
use Rattle.std.specs.Ordering.{int_eq}
use Rattle.quantities.specs.declared.quantity.Quantity.{Quantity}
use Rattle.property_types.specs.declared.value.Value.{Value}
use Rattle.property_types.specs.declared.value.Value.TheVariants.{Number, Flag, Text}
use Rattle.property_types.specs.declared.prop_type.Sort.{Sort}
use Rattle.property_types.specs.declared.prop_type.Sort.TheVariants as s
use Rattle.property_types.specs.Values.{same_unit, same_quantity, same_flag, same_value}
use Rattle.property_types.specs.Sorts.{same_sort}

quantity_equal : (a b : Quantity) → Decides (same_quantity a b) (a ≡ b)
quantity_equal a b =
    let amounts = signed_Decides a.amount b.amount in
    let units = signed_items a.unit b.unit in (
      λ h.
          let parts = and_parts (int_eq a.amount b.amount) (same_unit a.unit b.unit) h in
          λ i. record { amount = amounts.0 parts.0 i; unit = units.0 parts.1 i },
      λ e. and_from _ _ (amounts.1 (ap (λ (q : Quantity). q.amount) e)) (units.1 (ap (λ (q : Quantity). q.unit) e)),
    )

flag_equal : (a b : Bool) → Decides (same_flag a b) (a ≡ b)
flag_equal true true = (λ _. refl, λ _. refl)
flag_equal true false = (λ h. absurd (cc), λ h. absurd (cc))
flag_equal false true = (λ h. absurd (cc), λ h. absurd (cc))
flag_equal false false = (λ _. refl, λ _. refl)

pub value_equal : (a b : Value) → Decides (same_value a b) (a ≡ b)
value_equal (Number a) (Number b) = let d = quantity_equal a b in (λ h. ap Number (d.0 h), λ h. d.1 (cc))
value_equal (Flag a) (Flag b) = let d = flag_equal a b in (λ h. ap Flag (d.0 h), λ h. d.1 (cc))
value_equal (Text a) (Text b) = let d = bytes_decides a b in (λ h. ap Text (d.0 h), λ h. d.1 (cc))
value_equal (Number a) (Flag b) = (λ h. absurd (cc), λ h. absurd (cc))
value_equal (Number a) (Text b) = (λ h. absurd (cc), λ h. absurd (cc))
value_equal (Flag a) (Number b) = (λ h. absurd (cc), λ h. absurd (cc))
value_equal (Flag a) (Text b) = (λ h. absurd (cc), λ h. absurd (cc))
value_equal (Text a) (Number b) = (λ h. absurd (cc), λ h. absurd (cc))
value_equal (Text a) (Flag b) = (λ h. absurd (cc), λ h. absurd (cc))

pub sort_equal : (a b : Sort) → Decides (same_sort a b) (a ≡ b)
sort_equal (s.Number u) (s.Number v) = let d = signed_items u v in (λ h. ap s.Number (d.0 h), λ h. d.1 (cc))
sort_equal s.Flag s.Flag = (λ _. refl, λ _. refl)
sort_equal s.Text s.Text = (λ _. refl, λ _. refl)
sort_equal (s.Number u) s.Flag = (λ h. absurd (cc), λ h. absurd (cc))
sort_equal (s.Number u) s.Text = (λ h. absurd (cc), λ h. absurd (cc))
sort_equal s.Flag (s.Number v) = (λ h. absurd (cc), λ h. absurd (cc))
sort_equal s.Flag s.Text = (λ h. absurd (cc), λ h. absurd (cc))
sort_equal s.Text (s.Number v) = (λ h. absurd (cc), λ h. absurd (cc))
sort_equal s.Text s.Flag = (λ h. absurd (cc), λ h. absurd (cc))
