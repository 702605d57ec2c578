-- What the calls of a scanner answer, and what they leave.
use Rattle.std.specs.Prelude.{◌≡◌, true, ◌⊎◌, ⊤, ℕ, List, [], ◌∷◌, Option, None, Some, Result, Ok, Err, IsSome}
use Rattle.fcxml_profile.specs.Items.{Tag}
use Rattle.fcxml_profile.specs.Scanning.{Token as Coming, opened, closed, Scan, Opened, opened_by, end_behind, ended}
use Rattle.fcxml_profile.specs.declared.fault.XmlFault.{XmlFault}
use Rattle.fcxml_profile.specs.declared.scanner.ScanFault.{ScanFault}
use Rattle.fcxml_profile.specs.declared.scanner.ScanFault.TheVariants.{Xml, Memory}
use Rattle.fcxml_profile.specs.declared.token.Tag as t
use Rattle.fcxml_profile.specs.declared.token.Token.{Token}
use Rattle.fcxml_profile.specs.declared.token.Token.TheVariants.{Open, Close, End}

-- a tag that was given is the one that was to come
pub record IsTag (told : t.Tag) (tag : Tag) : Type 0 where
  pub place : told.place ≡ tag.place
  pub name : told.name ≡ tag.name
  pub attributes : told.attributes ≡ tag.attributes
  pub empty : told.empty ≡ tag.empty

abbrev pub IsToken : Token → Coming → Type 0
IsToken (Open told) (opened tag) = IsTag told tag
IsToken (Open told) (closed end) = ⊥
IsToken Close (opened tag) = ⊥
IsToken Close (closed end) = ⊤
IsToken End token = ⊥

-- the token that an item gives, if it gives one
abbrev pub GivesToken : Option Token → List Coming → Type 0
GivesToken None [] = ⊤
GivesToken None (token ∷ later) = ⊥
GivesToken (Some told) [] = ⊥
GivesToken (Some told) (token ∷ later) = IsToken told token

-- what a token leaves, of those that are to come behind it
abbrev pub behind_token : Coming → List Coming → Scan → Scan
behind_token (opened tag) later before = record { last = Some (opened_by tag); tokens = later; fault = before.fault; failed = before.failed }
behind_token (closed end) later before = record { last = None; tokens = later; fault = before.fault; failed = before.failed }

abbrev pub OkGives : List Coming → Scan → Token → Scan → Type 0
OkGives [] before told left = (before.fault ≡ None) × (told ≡ End) × (left ≡ ended None)
OkGives (token ∷ later) before told left = IsToken told token × (left ≡ behind_token token later before)

-- The next token where there is one; else the fault, again and again, or the end. Without memory all stays.
abbrev pub NextGives : Scan → Result Token ScanFault → Scan → Type 0
NextGives before (Err (Memory e)) left = left ≡ before
NextGives before (Ok told) left = OkGives before.tokens before told left
NextGives before (Err (Xml fault)) left = (before.tokens ≡ []) × (before.fault ≡ Some fault) × (left ≡ ended before.fault)

-- the fault is answered, and from then on at each call
abbrev pub Fails : Option XmlFault → Result (ℕ × ℕ) XmlFault → Scan → Type 0
Fails None result left = ⊥
Fails (Some fault) result left = (result ≡ Err fault) × (left ≡ ended (Some fault))

abbrev pub TakesElement : Opened → Option (ℕ × List Coming) → Scan → Result (ℕ × ℕ) XmlFault → Scan → Type 0
TakesElement o (Some end) before result left = (result ≡ Ok (o.place, end.0)) × (left ≡ record { last = None; tokens = end.1; fault = before.fault; failed = before.failed })
TakesElement o None before result left = Fails before.fault result left

abbrev pub TakesLast : Option Opened → Scan → Result (ℕ × ℕ) XmlFault → Scan → Type 0
TakesLast None before result left = Fails before.fault result left
TakesLast (Some o) before result left = TakesElement o (end_behind o before.tokens) before result left

-- the last call gave a tag, or a call has answered a fault
abbrev pub CanTake : Scan → Type 0
CanTake s = IsSome s.last ⊎ (s.failed ≡ true)

-- the element that was opened last, from its tag to behind its end, where that comes; else the fault
abbrev pub ForeignGives : Scan → Result (ℕ × ℕ) XmlFault → Scan → Type 0
ForeignGives before result left = TakesLast before.last before result left
