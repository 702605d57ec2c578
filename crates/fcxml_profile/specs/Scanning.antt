-- What a scanner gives: tokens, and behind them a fault or the end.
use Rattle.std.specs.Prelude.{ℕ, zero, suc, Bool, false, List, [], ◌∷◌, length, Option, None, Some, is_some, if◌then◌else◌}
use Rattle.std.specs.List.{flat_map}
use Rattle.std.specs.Option.{unwrap_or}
use Rattle.fcxml_profile.specs.Fronts.{after}
use Rattle.fcxml_profile.specs.Items.{Tag, Item, declaration, comment, opening, closing, run, items_at}
use Rattle.fcxml_profile.specs.Standing.{Standing, at_start, standing, behind_items, rest_behind}
use Rattle.fcxml_profile.specs.Faults.{character_fault, fault_behind}
use Rattle.fcxml_profile.specs.declared.fault.XmlFault.{XmlFault}

-- A tag that opens an element, and the end of one with the place behind it. An empty element is opened, and not closed.
pub data Token : Type 0 where
  opened : Tag → Token
  closed : ℕ → Token

-- A tag that was given last: its place, the place behind it, and whether it is empty.
pub record Opened : Type 0 where
  pub place : ℕ
  pub end : ℕ
  pub empty : Bool

-- The tag that the last call gave, if it gave one; the tokens that are still to come; the fault behind them, if there
-- is one; and whether a call has answered it.
pub record Scan : Type 0 where
  pub last : Option Opened
  pub tokens : List Token
  pub fault : Option XmlFault
  pub failed : Bool

abbrev pub token_of : Item → List Token
token_of declaration = []
token_of comment = []
token_of (opening t) = opened t ∷ []
token_of (closing name end) = closed end ∷ []
token_of (run text) = []

-- the tokens of a list of items
abbrev pub tokens_of : List (Item × List ℕ) → List Token
tokens_of found = flat_map (λ f. token_of f.0) found

-- the longest list of items from the front that each stand where they may
abbrev pub items_standing : Standing → ℕ → List ℕ → List (Item × List ℕ)
items_standing s n text = standing s (items_at n text)

-- the fault of what follows that list
abbrev pub fault_of : Standing → ℕ → List ℕ → Option XmlFault
fault_of s n text = fault_behind (behind_items s (items_standing s n text)) n (rest_behind text (items_standing s n text))

-- how many items that list has, and that fault
abbrev pub examined : Standing → ℕ → List ℕ → ℕ × Option XmlFault
examined s n text = (length (items_standing s n text), fault_of s n text)

-- the tokens of that list, and the fault of what follows it
abbrev pub scan_of_text : ℕ → List ℕ → Scan
scan_of_text n text = record { last = None; tokens = tokens_of (items_standing at_start n text); fault = fault_of at_start n text; failed = false }

-- without the byte order mark, if there is one in front
abbrev pub without_mark : List ℕ → List ℕ
without_mark bytes = unwrap_or (after (239 ∷ 187 ∷ 191 ∷ []) bytes) bytes

abbrev pub scan_by : Option XmlFault → List ℕ → Scan
scan_by (Some fault) bytes = record { last = None; tokens = []; fault = Some fault; failed = false }
scan_by None bytes = scan_of_text (length bytes) (without_mark bytes)

-- what a scanner of these bytes gives. A fault of a character stands before all tokens.
unfoldable pub scan_of : List ℕ → Scan
scan_of bytes = scan_by (character_fault bytes) bytes

-- the element that was opened last ends behind the token that closes it: the place, and the tokens behind it
abbrev pub end_of_element : ℕ → List Token → Option (ℕ × List Token)
end_of_element depth [] = None
end_of_element depth (opened t ∷ tokens) = end_of_element (if t.empty then depth else suc depth) tokens
end_of_element zero (closed end ∷ tokens) = Some (end, tokens)
end_of_element (suc depth) (closed end ∷ tokens) = end_of_element depth tokens

-- where an element ends, of its tag and the tokens behind it
abbrev pub end_behind : Opened → List Token → Option (ℕ × List Token)
end_behind o tokens = if o.empty then Some (o.end, tokens) else end_of_element 0 tokens

abbrev pub opened_by : Tag → Opened
opened_by t = record { place = t.place; end = t.end; empty = t.empty }

-- the fault, or the end, was answered, and nothing else is to come
abbrev pub ended : Option XmlFault → Scan
ended fault = record { last = None; tokens = []; fault = fault; failed = is_some fault }

-- what a call leaves as the last tag, by the item that it ended with
abbrev pub last_of : Item → Option Opened
last_of declaration = None
last_of comment = None
last_of (opening t) = Some (opened_by t)
last_of (closing name end) = None
last_of (run text) = None

-- how many elements inside one are open behind an item, of those that were open before it; none where the item ends
-- that element itself
abbrev pub depth_behind : ℕ → Item → Option ℕ
depth_behind depth declaration = Some depth
depth_behind depth comment = Some depth
depth_behind depth (opening t) = Some (if t.empty then depth else suc depth)
depth_behind zero (closing name end) = None
depth_behind (suc depth) (closing name end) = Some depth
depth_behind depth (run text) = Some depth
