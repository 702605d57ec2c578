-- Reading a text from its front: what stands there, and what follows it.
use Rattle.std.specs.Prelude.{ℕ, zero, suc, ◌+◌, if◌then◌else◌, Bool, ◌&&◌, nat_lt, List, [], ◌∷◌, Option, None, Some}
use Rattle.std.specs.Str.{bytes_eq}
use Rattle.std.specs.Fmt.{decimal}
use Rattle.std.specs.Str.Parse.{digits_value}
use Rattle.fcxml_profile.specs.Fronts.{◌>>=◌, split_at}

-- what stands before the first quote, and what follows it
abbrev pub quoted : List ℕ → Option (List ℕ × List ℕ)
quoted text = split_at 34 text

-- the digits are the one spelling of a number above 0 and below 2 ^ 32
abbrev pub spells : List ℕ → ℕ → Bool
spells digits n = nat_lt 0 n && nat_lt n 4294967296 && bytes_eq (decimal n) digits

-- the number above 0 and below 2 ^ 32 that the digits are the one spelling of
unfoldable pub numeral : List ℕ → Option ℕ
numeral digits = if spells digits (digits_value 10 digits) then Some (digits_value 10 digits) else None

-- one thing for each key, read in order, and what follows
unfoldable pub each : {K A : Type 0} → (K → List ℕ → Option (A × List ℕ)) → List K → List ℕ → Option (List A × List ℕ)
each step [] text = Some ([], text)
each step (key ∷ keys) text = do
  first ← step key text
  more ← each step keys first.1
  Some (first.0 ∷ more.0, more.1)

-- so many numbers, from the first on
abbrev pub numbers : ℕ → ℕ → List ℕ
numbers first zero = []
numbers first (suc n) = first ∷ numbers (first + 1) n
