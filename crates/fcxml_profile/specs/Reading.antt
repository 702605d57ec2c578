-- A scanner as the code has it.
use Rattle.std.specs.Prelude.{◌≡◌, ◌<◌, ◌≤◌, ◌^◌, ℕ, zero, suc, Bool, true, false, ◌==◌, if◌then◌else◌, List, [], ◌∷◌, length, take, Option, None, Some, IfSome, IfNone, IsSome}
use Rattle.std.specs.Option.{option_map}
use Rattle.fcxml_profile.specs.Items.{items_at}
use Rattle.fcxml_profile.specs.Scanning.{Token, opened, closed, Opened, Scan, tokens_of, scan_of}
use Rattle.fcxml_profile.specs.declared.reading.Reading as r
use Rattle.fcxml_profile.specs.declared.reading.LastTag as l

abbrev pub last_told : l.LastTag → Opened
last_told l = record { place = l.place; end = l.end; empty = l.empty }

-- what is to come of a document of length n, of which so many items of what is left stand where they may
abbrev pub scan_of_reading : ℕ → r.Reading → Scan
scan_of_reading n r = record { last = option_map last_told r.last; tokens = tokens_of (take r.left (items_at n r.rest.now)); fault = r.fault; failed = r.failed }

abbrev pub scan_of_scanner : List ℕ → Option r.Reading → Scan
scan_of_scanner bytes None = scan_of bytes
scan_of_scanner bytes (Some r) = scan_of_reading (length bytes) r

-- the elements that are open, so many, are closed by the tokens, and no others
abbrev pub closes : ℕ → List Token → Bool
closes depth [] = depth == 0
closes depth (opened t ∷ tokens) = closes (if t.empty then depth else suc depth) tokens
closes zero (closed end ∷ tokens) = false
closes (suc depth) (closed end ∷ tokens) = closes depth tokens

-- Where no fault comes, the tokens close what is open, and so what was opened last.
pub record IsBalanced (s : Scan) : Type 0 where
  pub depth : ℕ
  pub closes : IfNone s.fault (closes depth s.tokens ≡ true)
  pub inside : IfSome s.last (λ o. o.empty ≡ false → 0 < depth)

pub record IsReading (n : ℕ) (r : r.Reading) : Type 0 where
  pub whole : r.left ≤ length (items_at n r.rest.now)
  pub small : r.left < 2 ^ 64
  pub failed : r.failed ≡ true → (r.left ≡ 0) × IsSome r.fault
  pub balanced : IsBalanced (scan_of_reading n r)

abbrev pub IsScanner : List ℕ → Option r.Reading → Type 0
IsScanner bytes reading = IfSome reading (λ r. IsReading (length bytes) r)
