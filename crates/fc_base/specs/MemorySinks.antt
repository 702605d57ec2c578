-- What was written to a sink in memory.
use Rattle.std.specs.Prelude.{ℕ, List}
use Rattle.fc_base.specs.Calls.{Calls, calls}
use Rattle.fc_base.specs.declared.memory_sink.MemorySink.{MemorySink}

-- all that was written to it
abbrev pub written_to : MemorySink → List ℕ
written_to s = s.bytes.items

-- the greatest count that one write takes
abbrev pub most_of : MemorySink → ℕ
most_of s = s.most

-- its calls so far
abbrev pub calls_of : MemorySink → Calls
calls_of s = calls s.calls
