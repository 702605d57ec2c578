-- The factors of the table of units are amounts.
use Rattle.std.proofs.Common.{◌≡◌, ℕ, ℤ, Bool, true, false, cond, ◌&&◌, nat_le, nat_eq, List, [], ◌∷◌, Some, refl, subst, unsigned_abs}
use Rattle.std.proofs.lemmas.Bool.{leb-true}
use Rattle.std.specs.List.{list_all}
use Rattle.std.specs.Cmp.Lexicographic.{pointwise}
use Rattle.unit_signatures.specs.Table.{Row, look_up, unit_table, unit_named}
use Rattle.quantities.specs.Amounts.{IsAmount, greatest}

some-injective : (x y : ℤ × List ℤ) → Some x ≡ Some y → x ≡ y
some-injective x y h = cc

and-left : (a b : Bool) → (a && b) ≡ true → a ≡ true
and-left true b h = refl
and-left false b h = absurd (cc)

and-right : (a b : Bool) → (a && b) ≡ true → b ≡ true
and-right true b h = h
and-right false b h = absurd (cc)

-- a factor that is an amount
abbrev pub is_sound : ℤ → Bool
is_sound factor = nat_le (unsigned_abs factor) greatest

-- where all rows are sound, so is the one that is found
found-sound : (name : List ℕ) (rows : List Row) (found : ℤ × List ℤ) → list_all (λ row. is_sound row.1) rows ≡ true → look_up name rows ≡ Some found → is_sound found.0 ≡ true
found-sound name [] found sound at = absurd (cc)
found-sound name (first ∷ rows) found sound at =
    elim (pointwise nat_eq first.0 name) as (λ b. cond b (Some (first.1, first.2)) (look_up name rows) ≡ Some found → is_sound found.0 ≡ true) [
      | true ↦ λ here. subst (λ (f : ℤ × List ℤ). is_sound f.0 ≡ true) (some-injective (first.1, first.2) found here) (and-left (is_sound first.1) (list_all (λ row. is_sound row.1) rows) sound)
      | false ↦ λ there. found-sound name rows found (and-right (is_sound first.1) (list_all (λ row. is_sound row.1) rows) sound) there
    ] at

-- the factor of a unit of the table is an amount
pub unit_named-amount : (name : List ℕ) (found : ℤ × List ℤ) → unit_named name ≡ Some found → IsAmount found.0
unfolding unit_named
unit_named-amount name found at = leb-true (unsigned_abs found.0) greatest (found-sound name unit_table found refl at)
