-- What is wrong with bytes that are not well-formed, and where.
use Rattle.std.specs.Prelude.{ℕ, ◌-◌, ◌==◌, Bool, true, not, ◌&&◌, ◌||◌, nat_le, nat_lt, List, [], ◌∷◌, length, codes, Option, None, Some, is_some, is_none, if◌then◌else◌}
use Rattle.std.specs.List.{list_any, position_or_len}
use Rattle.std.specs.Str.Lossy.{utf8_valid_len}
use Rattle.fcxml_profile.specs.Fronts.{after, behind}
use Rattle.fcxml_profile.specs.Items.{Item, declaration, comment, opening, closing, run, item_at}
use Rattle.fcxml_profile.specs.Standing.{Standing, has_open, most_open, repeated}
use Rattle.fcxml_profile.specs.declared.fault.XmlFault.{XmlFault}
use Rattle.fcxml_profile.specs.declared.fault.XmlCause.TheVariants.{NotUtf8, Character, Truncated, Declaration, Unbalanced, Deep, RepeatedAttribute, Syntax}

-- a control character other than a tab, a line feed and a carriage return
abbrev pub is_forbidden : ℕ → Bool
is_forbidden c = nat_lt c 32 && not ((c == 9) || (c == 10) || (c == 13))

-- the first byte that begins no character of UTF-8, or the first character that XML forbids, whichever is earlier
abbrev pub character_fault : List ℕ → Option XmlFault
character_fault bytes =
    if nat_lt (position_or_len is_forbidden bytes) (utf8_valid_len bytes) then Some (record { place = position_or_len is_forbidden bytes; cause = Character })
    else (if nat_lt (utf8_valid_len bytes) (length bytes) then Some (record { place = utf8_valid_len bytes; cause = NotUtf8 }) else None)

-- nothing, or something that begins with `<` and holds no `>`
abbrev pub is_cut_off : List ℕ → Bool
is_cut_off [] = true
is_cut_off (c ∷ cs) = (c == 60) && not (list_any (λ b. b == 62) (c ∷ cs))

-- the front of a comment without `-->`, that of a declaration without `?>`, or else
abbrev pub is_truncated_by : Option (List ℕ) → Option (List ℕ) → List ℕ → Bool
is_truncated_by (Some inner) declared text = is_none (behind (codes "-->") inner)
is_truncated_by None (Some inner) text = is_none (behind (codes "?>") inner)
is_truncated_by None None text = is_cut_off text

-- nothing follows, or the front of an item of which the end is missing
abbrev pub is_truncated : List ℕ → Bool
is_truncated text = is_truncated_by (after (codes "<!--") text) (after (codes "<?xml") text) text

-- a declaration of a kind that is not read, or where none may stand
abbrev pub is_declaration : List ℕ → Bool
is_declaration text = is_some (after (codes "<!") text) || is_some (after (codes "<?") text)

-- a tag that may not stand there though few elements are open
abbrev pub twice_or_syntax : ℕ → Option ℕ → XmlFault
twice_or_syntax place None = record { place = place; cause = Syntax }
twice_or_syntax place (Some second) = record { place = second; cause = RepeatedAttribute }

-- an item that may not stand at that place
abbrev pub misplaced : Standing → ℕ → Item → XmlFault
misplaced s place declaration = record { place = place; cause = Syntax }
misplaced s place comment = record { place = place; cause = Syntax }
misplaced s place (opening t) = if nat_le most_open (length s.elements) then record { place = place; cause = Deep } else twice_or_syntax place (repeated t)
misplaced s place (closing name end) = record { place = place; cause = if has_open s.elements then Unbalanced else Syntax }
misplaced s place (run text) = record { place = place; cause = Syntax }

abbrev pub misplaced_or_none : Standing → ℕ → Option (Item × List ℕ) → XmlFault
misplaced_or_none s place None = record { place = place; cause = Syntax }
misplaced_or_none s place (Some found) = misplaced s place found.0

-- the first row that holds of what follows the longest list of items
abbrev pub fault_at : Standing → ℕ → List ℕ → XmlFault
fault_at s n text =
    if is_truncated text then record { place = n; cause = Truncated }
    else (if is_declaration text then record { place = n - length text; cause = Declaration } else misplaced_or_none s (n - length text) (item_at n text))

-- nothing is wrong where nothing follows, and the root element has begun and is closed
abbrev pub fault_behind : Standing → ℕ → List ℕ → Option XmlFault
fault_behind s n [] = if s.rooted && not (has_open s.elements) then None else Some (fault_at s n [])
fault_behind s n (c ∷ cs) = Some (fault_at s n (c ∷ cs))
