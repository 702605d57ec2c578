-- What the reader of an attribute's value answers.
use Rattle.std.specs.Prelude.{◌≡◌, ℕ, List, Result, Ok, Err, String, string_bytes}
use Rattle.fcxml_profile.specs.declared.references.EntityFault.{EntityFault}
use Rattle.fcxml_profile.specs.declared.references.EntityFault.TheVariants.{Entity, Memory}

-- the value that is expected, the place of the `&` that begins no reference, or want of memory
abbrev pub GivesRead : {A : Type 0} → Result (String A) EntityFault → Result (List ℕ) ℕ → Type 0
GivesRead (Ok value) expected = expected ≡ Ok (string_bytes value)
GivesRead (Err (Entity place)) expected = expected ≡ Err place
GivesRead (Err (Memory error)) expected = Unit {0}
