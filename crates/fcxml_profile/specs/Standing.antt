-- Where an item may stand.
use Rattle.std.specs.Prelude.{ℕ, ◌-◌, Bool, true, false, not, ◌&&◌, ◌||◌, nat_eq, nat_lt, List, [], ◌∷◌, ◌++◌, length, take, slice_get, Option, None, Some, is_none, if◌then◌else◌}
use Rattle.std.specs.Cmp.Lexicographic.{pointwise}
use Rattle.std.specs.List.{list_all, list_any}
use Rattle.std.specs.Option.{option_map_or}
use Rattle.std.specs.Str.{bytes_eq}
use Rattle.fcxml_profile.specs.Fronts.{is_blank}
use Rattle.fcxml_profile.specs.Items.{Attribute, Tag, Item, declaration, comment, opening, closing, run}

-- What the items in front have left: whether there were any, whether the root element has begun, and the names of
-- the open elements, the innermost one last.
pub record Standing : Type 0 where
  pub begun : Bool
  pub rooted : Bool
  pub elements : List (List ℕ)

-- before the first item
abbrev pub at_start : Standing
at_start = record { begun = false; rooted = false; elements = [] }

abbrev pub has_open : List (List ℕ) → Bool
has_open names = nat_lt 0 (length names)

-- the innermost open element has that name
abbrev pub is_innermost : List ℕ → List (List ℕ) → Bool
is_innermost name names = option_map_or (λ inner. bytes_eq inner name) (slice_get names (length names - 1)) false

-- the open elements without the innermost one
abbrev pub outer : List (List ℕ) → List (List ℕ)
outer names = take (length names - 1) names

-- the most elements that are open at once
abbrev pub most_open : ℕ
most_open = 64

-- one of the names is the same
abbrev pub is_among : List ℕ → List (List ℕ) → Bool
is_among name names = list_any (pointwise nat_eq name) names

-- the place of the first attribute whose name stood before, or is among those seen
unfoldable pub repeated_behind : List (List ℕ) → List Attribute → Option ℕ
repeated_behind seen [] = None
repeated_behind seen (a ∷ later) = if is_among a.name seen then Some a.place else repeated_behind (seen ++ a.name ∷ []) later

abbrev pub repeated : Tag → Option ℕ
repeated t = repeated_behind [] t.attributes

-- an item may stand there
abbrev pub may_stand : Standing → Item → Bool
may_stand s declaration = not s.begun
may_stand s comment = true
may_stand s (opening t) = (not s.rooted || has_open s.elements) && nat_lt (length s.elements) most_open && is_none (repeated t)
may_stand s (closing name end) = is_innermost name s.elements
may_stand s (run text) = has_open s.elements || list_all is_blank text

-- what an item leaves
abbrev pub behind_item : Standing → Item → Standing
behind_item s declaration = record { begun = true; rooted = s.rooted; elements = s.elements }
behind_item s comment = record { begun = true; rooted = s.rooted; elements = s.elements }
behind_item s (opening t) = record { begun = true; rooted = true; elements = if t.empty then s.elements else s.elements ++ t.name ∷ [] }
behind_item s (closing name end) = record { begun = true; rooted = s.rooted; elements = outer s.elements }
behind_item s (run text) = record { begun = true; rooted = s.rooted; elements = s.elements }

-- an item, where it may stand
abbrev pub standing_item : Standing → Option (Item × List ℕ) → Option (Item × List ℕ)
standing_item s None = None
standing_item s (Some found) = if may_stand s found.0 then Some found else None

-- the longest list of items from the front that each stand where they may
abbrev pub standing : Standing → List (Item × List ℕ) → List (Item × List ℕ)
standing s [] = []
standing s (found ∷ later) = if may_stand s found.0 then found ∷ standing (behind_item s found.0) later else []

-- what a list of items leaves
abbrev pub behind_items : Standing → List (Item × List ℕ) → Standing
behind_items s [] = s
behind_items s (found ∷ later) = behind_items (behind_item s found.0) later

-- what follows the last of them
abbrev pub rest_behind : List ℕ → List (Item × List ℕ) → List ℕ
rest_behind text [] = text
rest_behind text (found ∷ later) = rest_behind found.1 later
