-- What is kept as it was written: further attributes and foreign pieces of a document's text.
use Rattle.std.specs.Prelude.{◌≡◌, ℕ, Bool, true, false, ◌==◌, ◌&&◌, not, nat_lt, List, [], ◌∷◌, ◌++◌, length, replicate, Option, Some, None, is_some, IsTrue, if◌then◌else◌, codes}
use Rattle.std.specs.List.{list_all, list_any, filter_map, join_with_byte}
use Rattle.std.specs.Option.{option_map, option_and_then, option_map_or}
use Rattle.std.specs.Str.{is_utf8}
use Rattle.fcxml_profile.specs.Faults.{is_forbidden}
use Rattle.fcxml_profile.specs.Items.{Attribute, Tag, Item, declaration, comment, opening, closing, run, attribute_at, item_at, items_at}
use Rattle.fcxml_profile.specs.Standing.{Standing, may_stand, behind_item}
use Rattle.property_types.specs.Reserved.{are_distinct, is_among}

-- well-formed UTF-8 without control characters that XML forbids
abbrev pub is_xml_text : List ℕ → Bool
is_xml_text bytes = is_utf8 bytes && not (list_any is_forbidden bytes)

-- nothing
abbrev pub is_nothing : {A : Type 0} → List A → Bool
is_nothing [] = true
is_nothing (x ∷ xs) = false

-- ---- attributes

-- what is found, where nothing follows it
abbrev pub whole : {A : Type 0} → Option (A × List ℕ) → Option A
whole None = None
whole (Some found) = if is_nothing found.1 then Some found.0 else None

-- the attribute of which a text is the source
abbrev pub attribute_of : List ℕ → Option Attribute
attribute_of source = whole (attribute_at (length source) source)

-- the source of an attribute
abbrev pub is_attribute : List ℕ → Bool
is_attribute source = is_xml_text source && is_some (attribute_of source)

-- the names of attributes by their sources
abbrev pub attribute_names : List (List ℕ) → List (List ℕ)
attribute_names sources = filter_map (λ source. option_map (λ (a : Attribute). a.name) (attribute_of source)) sources

-- sources of attributes that an element may have beside those of these names: no name twice, and no `id`
abbrev pub are_attributes : List (List ℕ) → List (List ℕ) → Bool
are_attributes named sources = list_all is_attribute sources && are_distinct (codes "id" ∷ named ++ attribute_names sources)

-- sources of attributes, joined by one space
pub record IsExtra (named : List (List ℕ)) (extra : List ℕ) : Type 0 where
  pub sources : List (List ℕ)
  pub joined : extra ≡ join_with_byte 32 sources
  pub attributes : IsTrue (are_attributes named sources)

-- the attributes that are read, and so are not kept: of a document, of an object with its data, of a
-- property, and of a cell
abbrev pub document_attributes : List (List ℕ)
document_attributes = codes "SchemaVersion" ∷ []

abbrev pub object_attributes : List (List ℕ)
object_attributes = codes "name" ∷ []

abbrev pub property_attributes : List (List ℕ)
property_attributes = codes "name" ∷ codes "type" ∷ codes "group" ∷ codes "doc" ∷ codes "ro" ∷ codes "hide" ∷ []

abbrev pub cell_attributes : List (List ℕ)
cell_attributes = codes "address" ∷ codes "content" ∷ codes "alias" ∷ []

-- ---- foreign pieces

-- inside so many open elements, which no end tag in a piece closes: no tag has the empty name
abbrev pub inside : ℕ → Standing
inside depth = record { begun = true; rooted = true; elements = replicate depth [] }

-- how many elements are open
abbrev pub depth_of : Standing → ℕ
depth_of s = length s.elements

-- items that each stand where they may, of which the last, and none before it, closes the element that
-- the first one opens; and nothing follows
abbrev pub is_whole : ℕ → Standing → List (Item × List ℕ) → Bool
is_whole depth s [] = false
is_whole depth s (found ∷ []) = may_stand s found.0 && depth_of (behind_item s found.0) == depth && is_nothing found.1
is_whole depth s (found ∷ next ∷ later) =
    may_stand s found.0 && nat_lt depth (depth_of (behind_item s found.0)) && is_whole depth (behind_item s found.0) (next ∷ later)

-- the tag that opens an element
abbrev pub tag_of : Item → Option Tag
tag_of declaration = None
tag_of comment = None
tag_of (opening t) = Some t
tag_of (closing name end) = None
tag_of (run text) = None

-- the tag in front
abbrev pub first_tag : List ℕ → Option Tag
first_tag bytes = option_and_then (λ (found : Item × List ℕ). tag_of found.0) (item_at (length bytes) bytes)

-- one whole element inside so many others, whose tag passes a test
abbrev pub is_piece : ℕ → (Tag → Bool) → List ℕ → Bool
is_piece depth is_foreign bytes =
    is_xml_text bytes && option_map_or is_foreign (first_tag bytes) false && is_whole depth (inside depth) (items_at (length bytes) bytes)

-- an element of another name than these
abbrev pub is_other : List (List ℕ) → Tag → Bool
is_other names t = not (is_among t.name names)

-- pieces of a document stand in the Document alone
abbrev pub is_document_piece : List ℕ → Bool
is_document_piece = is_piece 1 (is_other (codes "Objects" ∷ codes "ObjectData" ∷ []))

-- pieces of an object stand in the Object of ObjectData
abbrev pub is_object_piece : List ℕ → Bool
is_object_piece = is_piece 3 (is_other (codes "Properties" ∷ []))

-- pieces among the cells of a sheet stand in Cells of its property
abbrev pub is_cells_piece : List ℕ → Bool
is_cells_piece = is_piece 6 (is_other (codes "Cell" ∷ []))
