-- Private: only contracts inside this crate cite this.
-- What reading up to a limit and writing whole do, and which fault an error of the system is.
use Rattle.std.specs.Prelude.{◌≡◌, ℕ, ◌<◌, ◌≤◌, List, ◌++◌, length, Option, Result, Ok, Err, Vec, IfSome, ⊤, alloc_error}
use Rattle.std.specs.Io.KnownBytes.{Appends, Consumes}
use Rattle.std.specs.declared.io.ErrorKind.{ErrorKind}
use Rattle.std.specs.declared.io.ErrorKind.TheVariants.{NotFound, OutOfMemory}
use Rattle.fc_base.specs.declared.faults.FetchFault.{FetchFault}
use Rattle.fc_base.specs.declared.faults.FetchFault.TheVariants.{Missing, TooLong, Failed, Memory}
use Rattle.fc_base.specs.declared.faults.DeviceFault.{DeviceFault}
use Rattle.fc_base.specs.declared.faults.DeviceFault.TheVariants.{Failed as DeviceFailed, Memory as DeviceMemory}

-- all bytes of the reader where they are within the limit. Where the reader failed or no memory was found, nothing is said
abbrev pub ReadsUpTo : {A : Type 0} → Option (List ℕ) → ℕ → Result (Vec ℕ A) FetchFault → Type 0
ReadsUpTo known limit (Ok v) = IfSome known (λ bytes. v.items ≡ bytes) × (length v.items ≤ limit)
ReadsUpTo known limit (Err Missing) = ⊥
ReadsUpTo known limit (Err TooLong) = IfSome known (λ bytes. limit < length bytes)
ReadsUpTo known limit (Err Failed) = ⊤
ReadsUpTo known limit (Err (Memory e)) = ⊤

-- the reader gave no more than n bytes
pub record ConsumesAtMost (before after : Option (List ℕ)) (n : ℕ) : Type 0 where
  pub front : List ℕ
  pub consumed : Consumes before after front
  pub bound : length front ≤ n

-- at most n bytes went from the reader to the end of a list
pub record MovesSome (before after : Option (List ℕ)) (old new : List ℕ) (n : ℕ) : Type 0 where
  pub front : List ℕ
  pub consumed : Consumes before after front
  pub appended : new ≡ old ++ front
  pub bound : length front ≤ n

-- the writer took a front of the bytes
pub record AppendsFront (before after : Option (List ℕ)) (bytes : List ℕ) : Type 0 where
  pub front : List ℕ
  pub rest : List ℕ
  pub parts : bytes ≡ front ++ rest
  pub appended : Appends before after front

-- why a file gives no bytes
abbrev pub fetch_fault : ErrorKind → FetchFault
fetch_fault NotFound = Missing
fetch_fault OutOfMemory = Memory alloc_error
fetch_fault _ = Failed

-- why an open file gives no more bytes
abbrev pub read_fault : ErrorKind → FetchFault
read_fault OutOfMemory = Memory alloc_error
read_fault _ = Failed

-- why a file or a terminal takes no bytes
abbrev pub device_fault : ErrorKind → DeviceFault
device_fault OutOfMemory = DeviceMemory alloc_error
device_fault _ = DeviceFailed
