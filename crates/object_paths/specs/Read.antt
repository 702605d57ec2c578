-- Private: only contracts inside this crate cite this.
-- What a reader answers that may want memory.
use Rattle.std.specs.Prelude.{◌≡◌, Option, None, Some, Result, Ok, Err}
use Rattle.object_paths.specs.declared.reading.PathFault.{PathFault}
use Rattle.object_paths.specs.declared.reading.PathFault.TheVariants.{BadPath, Memory}

-- the value that is expected, BadPath where none is, or want of memory
abbrev pub Reads : {T : Type 0} → Result T PathFault → Option T → Type 0
Reads (Ok value) expected = expected ≡ Some value
Reads (Err BadPath) expected = expected ≡ None
Reads (Err (Memory error)) expected = Unit {0}
