-- What may stand in a slot of a document.
use Rattle.std.specs.Prelude.{◌≡◌, ℕ, Bool, ◌&&◌, List, [], ◌∷◌, IsTrue}
use Rattle.std.specs.List.{list_all}
use Rattle.std.specs.Str.{is_utf8}
use Rattle.fc_base.specs.Texts.{is_text_byte}
use Rattle.object_paths.specs.declared.slot_name.SlotName.{SlotName}
use Rattle.property_types.specs.declared.prop_type.PropType.{PropType}
use Rattle.property_types.specs.declared.value.Value.{Value}
use Rattle.property_types.specs.declared.value.Value.TheVariants.{Number, Flag, Text}
use Rattle.property_types.specs.Values.{IsValue}
use Rattle.property_types.specs.Sorts.{sort_of_value, same_sort}
use Rattle.property_types.specs.Types.{sort_of_type}
use Rattle.expr_tree.specs.Spelled.{IsSpelled}
use Rattle.document_model.specs.declared.content.Content.{Content}
use Rattle.document_model.specs.declared.content.Content.TheVariants.{Own, Bound}

-- an attribute of any length: a text without control characters but tab, LF and CR
abbrev pub is_attribute_text : List ℕ → Bool
is_attribute_text text = is_utf8 text && list_all is_text_byte text

-- a value, or an expression that can be spelled
abbrev pub IsContent : Content → Type 0
IsContent (Own v) = IsValue v
IsContent (Bound e) = IsSpelled e

-- a value that a cell may hold: a number or a text
abbrev pub IsCellValue : Value → Type 0
IsCellValue (Number q) = IsValue (Number q)
IsCellValue (Flag b) = ⊥
IsCellValue (Text t) = IsValue (Text t)

-- what a cell may hold
abbrev pub IsCellContent : Content → Type 0
IsCellContent (Own v) = IsCellValue v
IsCellContent (Bound e) = IsSpelled e

-- what a slot of a type may hold: a value of the type's sort, or an expression
abbrev pub IsContentOf : PropType → Content → Type 0
IsContentOf type (Own v) = IsValue v × IsTrue (same_sort (sort_of_value v) (sort_of_type type))
IsContentOf type (Bound e) = IsSpelled e

-- one content for each slot, in their order
abbrev pub AreContents : List (SlotName × PropType) → List Content → Type 0
AreContents [] [] = Unit {0}
AreContents [] (content ∷ contents) = ⊥
AreContents (slot ∷ slots) [] = ⊥
AreContents (slot ∷ slots) (content ∷ contents) = IsContentOf slot.1 content × AreContents slots contents

-- one content for each slot, by the slot's name, in their order
abbrev pub AreInputs : List (SlotName × PropType) → List (SlotName × Content) → Type 0
AreInputs [] [] = Unit {0}
AreInputs [] (input ∷ inputs) = ⊥
AreInputs (slot ∷ slots) [] = ⊥
AreInputs (slot ∷ slots) (input ∷ inputs) = (input.0 ≡ slot.0) × IsContentOf slot.1 input.1 × AreInputs slots inputs
