-- Why bytes are no script, as a call tells it.
use Rattle.std.specs.Prelude.{◌≡◌, ℕ, List, Option, None, Some, Result, Ok, Err, IfSome}
use Rattle.fcdoc_core.specs.declared.script_fault.ScriptFault.{ScriptFault}
use Rattle.fcdoc_core.specs.declared.script_fault.ScriptFault.TheVariants.{NotUtf8, LineTooLong, TooManyLines, Memory}
use Rattle.fcdoc_core.specs.Scripts.{Unreadable, not_utf8, line_too_long, too_many_lines}

-- the cause that a fault tells; want of memory tells none
abbrev pub cause_told : ScriptFault → Option Unreadable
cause_told (NotUtf8 number) = Some (not_utf8 number)
cause_told (LineTooLong number) = Some (line_too_long number)
cause_told TooManyLines = Some too_many_lines
cause_told (Memory e) = None

-- all lines, or why there are none, as a call tells it; want of memory says nothing of the bytes
abbrev pub ReadsScript : Result (List (List ℕ)) Unreadable → Result (List (List ℕ)) ScriptFault → Type 0
ReadsScript found (Ok told) = found ≡ Ok told
ReadsScript found (Err fault) = IfSome (cause_told fault) (λ cause. found ≡ Err cause)
