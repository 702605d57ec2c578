-- The path of a slot from outside its object is a text value.
use Rattle.std.proofs.Common.{◌≡◌, ℕ, ◌+◌, ◌-◌, ◌/◌, ◌%◌, ◌≤◌, List, [], ◌∷◌, ◌++◌, Bool, true, false, nat_le, length, Some, refl, ap, ◌∙◌, length-append, arith}
use Rattle.std.specs.List.{list_all}
use Rattle.std.specs.Fmt.{decimal}
use Rattle.std.specs.Str.Parse.{AllDigits}
use Rattle.std.proofs.lemmas.Fmt.{decimal_is_IsNumeral}
use Rattle.std.proofs.lemmas.Str.Parse.{digit_from_value}
use Rattle.std.proofs.lemmas.List.Folds.{list_all-append}
use Rattle.std.proofs.lemmas.Bool.{and_from, cond_both}
use Rattle.std.proofs.lemmas.Bool.Decides.{nat_tests}
use Rattle.fc_base.specs.Texts.{is_name, is_text_byte}
use Rattle.fc_base.specs.Places.{Place, IsPlace, mark_text, column_text, address_text, address_of}
use Rattle.fc_base.proofs.AddressLemmas.{address_of-iff, before_row, length-parts, written-parts}
use Rattle.fc_base.proofs.NameTexts.{name_length, name_text_bytes}
use Rattle.object_paths.specs.PathTexts.{component_text, slot_text, path_text}
use Rattle.object_paths.specs.Paths.{HasParts}
use Rattle.object_paths.specs.declared.slot_name.Component as c
use Rattle.object_paths.specs.declared.slot_name.Component.TheVariants.{X, Y, Z, Turn}
use Rattle.object_paths.specs.declared.slot_name.SlotName.{SlotName}
use Rattle.object_paths.specs.declared.slot_name.SlotName.TheVariants.{Plain, Component, Marked}
use Rattle.object_paths.specs.declared.path.Owner.TheVariants.{ByName}

-- a place that is written and read is one of a sheet
pub place_from_reading : (p : Place) → address_of (address_text p) ≡ Some p → IsPlace p
place_from_reading p reads = ((address_of-iff (address_text p) p).0 reads).place

-- ---- bytes

abbrev IsText : List ℕ → Type 0
IsText text = list_all is_text_byte text ≡ true

byte_text : (b : ℕ) → 32 ≤ b → is_text_byte b ≡ true
byte_text b low = grind (arith, nat_tests)

text_append : (xs ys : List ℕ) → IsText xs → IsText ys → IsText (xs ++ ys)
text_append xs ys text more = list_all-append is_text_byte xs ys ∙ and_from _ _ text more

text_digits : (ds : List ℕ) → AllDigits 10 ds → IsText ds
text_digits [] h = refl
text_digits (d ∷ ds) h =
    and_from (is_text_byte d) (list_all is_text_byte ds) (byte_text d (omega (arith, (digit_from_value d h.0).0))) (text_digits ds h.1)

text_mark : (marked : Bool) → IsText (mark_text marked)
text_mark true = refl
text_mark false = refl

text_column : (column : ℕ) → IsText (column_text column)
text_column column =
    cond_both (nat_le column 26) ((column + 64) ∷ []) (((column - 1) / 26 + 64) ∷ ((column - 1) % 26 + 65) ∷ []) IsText
    (λ e. and_from (is_text_byte (column + 64)) true (byte_text (column + 64) (omega arith)) refl)
    (λ e. and_from (is_text_byte ((column - 1) / 26 + 64)) _ (byte_text ((column - 1) / 26 + 64) (omega arith))
    (and_from (is_text_byte ((column - 1) % 26 + 65)) true (byte_text ((column - 1) % 26 + 65) (omega arith)) refl))

text_address : (p : Place) → IsPlace p → IsText (address_text p)
unfolding address_text
text_address p place =
    text_append (mark_text p.fixed_column) _ (text_mark p.fixed_column)
    (text_append (column_text p.column) _ (text_column p.column)
    (text_append (mark_text p.fixed_row) (decimal p.row) (text_mark p.fixed_row) (text_digits (decimal p.row) (decimal_is_IsNumeral p.row (omega (arith, place.row_high))).0.1)))

text_component : (part : c.Component) → IsText (component_text part)
text_component X = refl
text_component Y = refl
text_component Z = refl
text_component Turn = refl

text_slot : (slot : SlotName) → HasParts slot → IsText (slot_text slot)
text_slot (Plain name) h = name_text_bytes name h
text_slot (Component name part) h = text_append name (46 ∷ component_text part) (name_text_bytes name h) (text_component part)
text_slot (Marked p) h = text_address p h

-- ---- lengths

length-component : (part : c.Component) → length (component_text part) ≤ 13
length-component X = omega arith
length-component Y = omega arith
length-component Z = omega arith
length-component Turn = omega arith

length-address : (p : Place) → IsPlace p → length (address_text p) ≤ 9
length-address p place =
    omega (arith, length-parts p place, length-append (before_row p) (decimal p.row), ap length (written-parts p))

length-slot : (slot : SlotName) → HasParts slot → length (slot_text slot) ≤ 78
length-slot (Plain name) h = omega (arith, name_length name h)
length-slot (Component name part) h = omega (arith, name_length name h, length-append name (46 ∷ component_text part), length-component part)
length-slot (Marked p) h = omega (arith, length-address p h)

-- ---- the path, as it is written part by part

-- what is written is the path's text
pub slot_path_written : (name written : List ℕ) (slot : SlotName) → written ≡ name ++ 46 ∷ [] ++ slot_text slot → written ≡ path_text (record { owner = ByName name; slot = slot })
unfolding path_text
slot_path_written name written slot e = e

pub slot_path_length : (name written : List ℕ) (slot : SlotName) → written ≡ name ++ 46 ∷ [] ++ slot_text slot → is_name name ≡ true → HasParts slot → length written ≤ 1024
slot_path_length name written slot e n h =
    rw e
    (omega (arith, length-append (name ++ 46 ∷ []) (slot_text slot), length-append name (46 ∷ []), name_length name n, length-slot slot h))

pub slot_path_bytes : (name written : List ℕ) (slot : SlotName) → written ≡ name ++ 46 ∷ [] ++ slot_text slot → is_name name ≡ true → HasParts slot → list_all is_text_byte written ≡ true
slot_path_bytes name written slot e n h =
    rw e (text_append (name ++ 46 ∷ []) (slot_text slot) (text_append name (46 ∷ []) (name_text_bytes name n) refl) (text_slot slot h))
