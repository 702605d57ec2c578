-- What is calculated from units is a unit, or a fault; so is each unit of the table.
use Rattle.std.proofs.Common.{◌≡◌, ℕ, Bool, true, false, cond, ◌&&◌, eqb, nat_eq, ℤ, ◌+ℤ◌, ◌-ℤ◌, ◌*ℤ◌, List, [], ◌∷◌, length, map, Some, Result, Ok, Err, IfOk, refl, subst, arith}
use Rattle.std.specs.Cmp.Lexicographic.{pointwise}
use Rattle.std.specs.List.{list_all, zip}
use Rattle.std.proofs.lemmas.Bool.{and_parts, eqb-true}
use Rattle.std.proofs.lemmas.List.{length-map}
use Rattle.std.proofs.lemmas.Slice.Zip.{length-zip}
use Rattle.unit_signatures.specs.declared.unit.ExponentRange.{ExponentRange}
use Rattle.unit_signatures.specs.Units.{IsUnit, is_exponent, pure}
use Rattle.unit_signatures.specs.Products.{within, sums, differences, multiples, product, quotient, power_of}
use Rattle.unit_signatures.specs.Table.{Row, look_up, unit_table, unit_named}

abbrev pub IsUnitOrFault : Result (List ℤ) ExponentRange → Type 0
IsUnitOrFault u = IfOk u IsUnit

pub pure-unit : IsUnit pure
pure-unit = record { eight = refl; each = refl }

within-unit : (es : List ℤ) → length es ≡ 8 → IsUnitOrFault (within es)
within-unit es long =
    elim (list_all is_exponent es) as (λ b. list_all is_exponent es ≡ b → IsUnitOrFault (cond b (Ok es) (Err (record {})))) [
      | true ↦ λ e. record { eight = long; each = e }
      | false ↦ λ e. tt
    ] refl

paired-length : (f : ℤ × ℤ → ℤ) (u v : List ℤ) → length u ≡ 8 → length v ≡ 8 → length (map f (zip u v)) ≡ 8
paired-length f u v h k = omega (arith, length-map (zip u v) f, length-zip u v)

pub product-unit : (u v : List ℤ) → IsUnit u → IsUnit v → IsUnitOrFault (product u v)
product-unit u v h k = within-unit (sums u v) (paired-length (λ p. p.0 +ℤ p.1) u v h.eight k.eight)

pub quotient-unit : (u v : List ℤ) → IsUnit u → IsUnit v → IsUnitOrFault (quotient u v)
quotient-unit u v h k = within-unit (differences u v) (paired-length (λ p. p.0 -ℤ p.1) u v h.eight k.eight)

pub power-unit : (u : List ℤ) (n : ℤ) → IsUnit u → IsUnitOrFault (power_of u n)
power-unit u n h =
    let long : length u ≡ 8 = h.eight in
    within-unit (multiples u n) (omega (arith, length-map u (λ e. e *ℤ n)))

-- a row that has a unit
abbrev has_unit : ℤ × List ℤ → Bool
has_unit row = eqb (length row.1) 8 && list_all is_exponent row.1

some-injective : (x y : ℤ × List ℤ) → Some x ≡ Some y → x ≡ y
some-injective x y h = cc

-- where all rows have one, so has the one that is found
found-unit : (name : List ℕ) (rows : List Row) (found : ℤ × List ℤ) → list_all (λ row. has_unit (row.1, row.2)) rows ≡ true → look_up name rows ≡ Some found → has_unit found ≡ true
found-unit name [] found all at = absurd (cc)
found-unit name (first ∷ rows) found all at =
    let parts = and_parts (has_unit (first.1, first.2)) (list_all (λ row. has_unit (row.1, row.2)) rows) all in
    elim (pointwise nat_eq first.0 name) as (λ b. cond b (Some (first.1, first.2)) (look_up name rows) ≡ Some found → has_unit found ≡ true) [
      | true ↦ λ here. subst (λ (row : ℤ × List ℤ). has_unit row ≡ true) (some-injective (first.1, first.2) found here) parts.0
      | false ↦ λ there. found-unit name rows found parts.1 there
    ] at

-- the unit of a name of the table
pub unit_named-unit : (name : List ℕ) (found : ℤ × List ℤ) → unit_named name ≡ Some found → IsUnit found.1
unfolding unit_named
unit_named-unit name found at =
    let parts = and_parts (eqb (length found.1) 8) (list_all is_exponent found.1) (found-unit name unit_table found refl at) in
    record { eight = eqb-true (length found.1) 8 parts.0; each = parts.1 }
