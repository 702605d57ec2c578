-- What a store and a sink do to what they hold, and when they may fail.
use Rattle.std.specs.Prelude.{◌≡◌, ◌≢◌, ◌⊎◌, ℕ, ◌-◌, ◌^◌, ◌<◌, ◌≤◌, Bool, true, false, List, length, Option, None, Some, Result, Ok, Err, Vec, ⊤}
use Rattle.std.specs.Ordering.{nat_cmp}
use Rattle.std.specs.Cmp.Lexicographic.{slice_cmp}
use Rattle.std.specs.FinMap.{FinMap, get, insert}
use Rattle.fc_base.specs.declared.faults.FetchFault.{FetchFault}
use Rattle.fc_base.specs.declared.faults.FetchFault.TheVariants.{Missing, TooLong, Failed, Memory}
use Rattle.fc_base.specs.declared.faults.DeviceFault.{DeviceFault}
use Rattle.fc_base.specs.declared.faults.DeviceFault.TheVariants.{Failed as DeviceFailed, Memory as DeviceMemory}

-- What a store holds: the bytes under each name.
abbrev pub Held : Type 0
Held = FinMap (slice_cmp nat_cmp) (List ℕ)

-- where a count of faults stops
abbrev pub last_count : ℕ
last_count = 2 ^ 64 - 1

-- a count that did not fall, and that rose or stands at its last value
pub record HasRisen (before after : ℕ) : Type 0 where
  pub never_falls : before ≤ after
  pub rose : (before < after) ⊎ (after ≡ last_count)

-- a call that failed raised the count of faults, and any other left it
abbrev pub HasCause : ℕ → ℕ → Bool → Type 0
HasCause before after true = HasRisen before after
HasCause before after false = after ≡ before

-- the store failed at this fetch
abbrev pub fetch_failed : {V : Type 0} → Result V FetchFault → Bool
fetch_failed (Ok v) = false
fetch_failed (Err Missing) = false
fetch_failed (Err TooLong) = false
fetch_failed (Err Failed) = true
fetch_failed (Err (Memory e)) = false

-- the device failed at this call
abbrev pub device_failed : {V : Type 0} → Result V DeviceFault → Bool
device_failed (Ok v) = false
device_failed (Err DeviceFailed) = true
device_failed (Err (DeviceMemory e)) = false

-- these are the bytes under the name, and they are within the limit
pub record HoldsWithin (held : Held) (name : List ℕ) (limit : ℕ) (bytes : List ℕ) : Type 0 where
  pub found : get held name ≡ Some bytes
  pub within : length bytes ≤ limit

-- under the name stand more bytes than the limit
pub record HoldsBeyond (held : Held) (name : List ℕ) (limit : ℕ) : Type 0 where
  pub bytes : List ℕ
  pub found : get held name ≡ Some bytes
  pub beyond : limit < length bytes

-- what a fetch answers, by what is held. Where the store failed or found no memory, nothing is said
abbrev pub Fetches : {A : Type 0} → Held → List ℕ → ℕ → Result (Vec ℕ A) FetchFault → Type 0
Fetches held name limit (Ok v) = HoldsWithin held name limit v.items
Fetches held name limit (Err Missing) = get held name ≡ None
Fetches held name limit (Err TooLong) = HoldsBeyond held name limit
Fetches held name limit (Err Failed) = ⊤
Fetches held name limit (Err (Memory e)) = ⊤

-- every other name has what it had
abbrev pub SameButFor : Held → Held → List ℕ → Type 0
SameButFor before after name = (other : List ℕ) → other ≢ name → get after other ≡ get before other

-- what is held after a put
abbrev pub PutLeaves : Held → List ℕ → List ℕ → Result (Unit {0}) DeviceFault → Held → Type 0
PutLeaves before name bytes (Ok u) after = after ≡ insert before name bytes
PutLeaves before name bytes (Err DeviceFailed) after = SameButFor before after name
PutLeaves before name bytes (Err (DeviceMemory e)) after = after ≡ before

-- the same, of a store that tells what it holds. It goes on telling
abbrev pub Puts : Option Held → List ℕ → List ℕ → Result (Unit {0}) DeviceFault → Option Held → Type 0
Puts None name bytes r after = ⊤
Puts (Some before) name bytes r None = ⊥
Puts (Some before) name bytes r (Some after) = PutLeaves before name bytes r after
