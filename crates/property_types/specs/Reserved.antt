-- Names and types that the document keeps for itself.
use Rattle.std.specs.Prelude.{ℕ, Bool, true, ◌&&◌, not, nat_eq, List, [], ◌∷◌, codes}
use Rattle.std.specs.List.{list_any}
use Rattle.std.specs.Cmp.Lexicographic.{pointwise}

-- a text that is one of a list
abbrev pub is_among : List ℕ → List (List ℕ) → Bool
is_among text texts = list_any (pointwise nat_eq text) texts

-- no text stands twice
abbrev pub are_distinct : List (List ℕ) → Bool
are_distinct [] = true
are_distinct (text ∷ texts) = not (is_among text texts) && are_distinct texts

-- the names that no input, output or dynamic property has
abbrev pub reserved_names : List (List ℕ)
reserved_names =
    codes "Label" ∷ codes "ExpressionEngine" ∷ codes "Placement" ∷ codes "LinkTransform" ∷ codes "LinkedObject"
    ∷ codes "Links" ∷ codes "Global" ∷ codes "cells" ∷ codes "Overrides" ∷ []

-- a name that is reserved
abbrev pub is_reserved : List ℕ → Bool
is_reserved name = is_among name reserved_names

-- the types of the objects that are no features
abbrev pub own_types : List (List ℕ)
own_types = codes "App::VarSet" ∷ codes "Spreadsheet::Sheet" ∷ codes "App::Link" ∷ []
