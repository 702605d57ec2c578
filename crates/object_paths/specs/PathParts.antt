-- Which path a text spells. Blanks may stand round every part.
use Rattle.std.specs.Prelude.{ℕ, Bool, ◌&&◌, ◌||◌, ◌==◌, List, [], ◌∷◌, map, reverse, codes, Option, Some, None, if◌then◌else◌}
use Rattle.std.specs.List.{slice_split}
use Rattle.std.specs.Option.{option_map, option_and_then}
use Rattle.std.specs.Str.{bytes_eq}
use Rattle.fc_base.specs.Places.{Place, address_of}
use Rattle.fc_base.specs.Texts.{is_name, is_label}
use Rattle.object_paths.specs.PathTexts.{is_word}
use Rattle.object_paths.specs.declared.slot_name.Component as c
use Rattle.object_paths.specs.declared.slot_name.Component.TheVariants.{X, Y, Z, Turn}
use Rattle.object_paths.specs.declared.slot_name.SlotName.{SlotName}
use Rattle.object_paths.specs.declared.slot_name.SlotName.TheVariants.{Plain, Component, Marked}
use Rattle.object_paths.specs.declared.path.Owner.{Owner}
use Rattle.object_paths.specs.declared.path.Owner.TheVariants.{Here, ByName, ByLabel}
use Rattle.object_paths.specs.declared.path.Path.{Path}

-- a space or a tab
abbrev pub is_blank : ℕ → Bool
is_blank c = (c == 32) || (c == 9)

-- what follows the blanks in front
abbrev pub after_blanks : List ℕ → List ℕ
after_blanks [] = []
after_blanks (c ∷ rest) = if is_blank c then after_blanks rest else c ∷ rest

-- without the blanks at both ends
abbrev pub trimmed : List ℕ → List ℕ
trimmed text = reverse (after_blanks (reverse (after_blanks text)))

-- what stands between the dots
abbrev pub parts_of : List ℕ → List (List ℕ)
parts_of text = map trimmed (slice_split (λ c. c == 46) text)

-- an address with a mark
abbrev pub marked_slot : Option Place → Option SlotName
marked_slot None = None
marked_slot (Some p) = if p.fixed_column || p.fixed_row then Some (Marked p) else None

-- one part: a name or a marked address
abbrev pub single_slot : List ℕ → Option SlotName
single_slot text = if is_name text then Some (Plain text) else marked_slot (address_of text)

-- the last two parts of a component
abbrev pub component_of : List ℕ → List ℕ → Option c.Component
component_of group part =
    if bytes_eq group (codes "Base")
    then (if bytes_eq part (codes "x") then Some X else (if bytes_eq part (codes "y") then Some Y else (if bytes_eq part (codes "z") then Some Z else None)))
    else (if bytes_eq group (codes "Rotation") && bytes_eq part (codes "Turn") then Some Turn else None)

-- three parts: a component of a placement
abbrev pub component_slot : List ℕ → List ℕ → List ℕ → Option SlotName
component_slot name group part = if is_name name then option_map (Component name) (component_of group part) else None

-- the slot, of the parts behind the owner
abbrev pub slot_of : List (List ℕ) → Option SlotName
slot_of [] = None
slot_of (text ∷ []) = single_slot text
slot_of (name ∷ group ∷ []) = None
slot_of (name ∷ group ∷ part ∷ []) = component_slot name group part
slot_of (a ∷ b ∷ c ∷ d ∷ more) = None

-- a path of that owner
abbrev pub owned : Owner → Option SlotName → Option Path
owned owner slot = option_map (λ s. record { owner = owner; slot = s }) slot

-- parts of which the first is an owner's name
abbrev pub named_path : List ℕ → List (List ℕ) → Option Path
named_path name parts = if is_name name then owned (ByName name) (slot_of parts) else None

-- an empty part in front is a leading dot, another one the name of an owner
abbrev pub fronted_path : List ℕ → List (List ℕ) → Option Path
fronted_path front rest = if bytes_eq front [] then owned Here (slot_of rest) else named_path front rest

-- parts without a label in front: two are an owner and a slot, three a component of the object
-- itself
abbrev pub plain_path : List (List ℕ) → Option Path
plain_path [] = None
plain_path (text ∷ []) = if is_word text && is_name text then None else owned Here (single_slot text)
plain_path (name ∷ group ∷ part ∷ []) = owned Here (component_slot name group part)
plain_path (front ∷ rest) = fronted_path front rest

-- the text up to the first `>>`, and what follows it
abbrev pub until_closing : List ℕ → Option (List ℕ × List ℕ)
until_closing [] = None
until_closing (a ∷ []) = None
until_closing (a ∷ b ∷ rest) =
    if (a == 62) && (b == 62) then Some ([], rest) else option_map (λ p. (a ∷ p.0, p.1)) (until_closing (b ∷ rest))

-- behind a label: a dot, which leaves an empty part in front, and the slot
abbrev pub labelled_slot : List (List ℕ) → Option SlotName
labelled_slot [] = None
labelled_slot (front ∷ parts) = if bytes_eq front [] then slot_of parts else None

-- a label between `<<` and the first `>>`, and the slot
abbrev pub labelled_path : List ℕ × List ℕ → Option Path
labelled_path p = if is_label p.0 then owned (ByLabel p.0) (labelled_slot (parts_of p.1)) else None

-- what follows `<<`
abbrev pub opened : List ℕ → Option (List ℕ)
opened [] = None
opened (a ∷ []) = None
opened (a ∷ b ∷ rest) = if (a == 60) && (b == 60) then Some rest else None

-- a path with a label in front, or without
abbrev pub path_behind : Option (List ℕ) → List ℕ → Option Path
path_behind None text = plain_path (parts_of text)
path_behind (Some rest) text = option_and_then labelled_path (until_closing rest)

-- the path that a text spells
unfoldable pub path_of : List ℕ → Option Path
path_of text = path_behind (opened (trimmed text)) (trimmed text)
