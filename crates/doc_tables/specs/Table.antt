-- Private: only contracts inside this crate cite this.
-- Tables of what has which number.
use Rattle.std.specs.Prelude.{◌≡◌, ◌^◌, ◌<◌, ℕ, nat_eq, List, length, Option, Some, None, if◌then◌else◌, IsSome}
use Rattle.std.specs.List.{list_any}
use Rattle.fc_base.specs.Graph.{IsIn}
use Rattle.doc_tables.specs.Numbered.{at_number}

-- The numbers in use are these, each of this thing.
pub record IsTable {A : Type 0} (table : List (Option A)) (things : List (ℕ × A)) : Type 0 where
  pub there : (n : ℕ) (a : A) → IsIn (n, a) things → at_number table n ≡ Some a
  pub back : (n : ℕ) (a : A) → at_number table n ≡ Some a → IsIn (n, a) things

-- No number below is free, and all numbers are small.
pub record HasRoom {A : Type 0} (table : List (Option A)) (free : ℕ) : Type 0 where
  pub used : (n : ℕ) → n < free → IsSome (at_number table n)
  pub few : length table < 2 ^ 32

-- what has a number once these are freed
abbrev pub freed_at : {A : Type 0} → List ℕ → ℕ → Option A → Option A
freed_at numbers n thing = if list_any (nat_eq n) numbers then None else thing
