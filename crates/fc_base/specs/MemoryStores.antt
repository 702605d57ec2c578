-- What a store in memory holds.
use Rattle.std.specs.Prelude.{ℕ, List, map, Vec, String, string_bytes}
use Rattle.std.specs.declared.alloc.Global.{Global}
use Rattle.std.specs.BTreeMap.{BTreeMap}
use Rattle.std.specs.FinMap.{from_entries}
use Rattle.fc_base.specs.Devices.{Held}
use Rattle.fc_base.specs.Calls.{Calls, calls}
use Rattle.fc_base.specs.declared.memory_store.MemoryStore.{MemoryStore}

-- the bytes of a name, and the bytes under it
abbrev pub named : String Global × Vec ℕ Global → List ℕ × List ℕ
named e = (string_bytes e.0, e.1.items)

-- the bytes under each name
unfoldable pub held_in : BTreeMap (String Global) (Vec ℕ Global) → Held
held_in m = from_entries (map named m.entries)

-- what it holds
abbrev pub held_of : MemoryStore → Held
held_of s = held_in s.held

-- its calls so far
abbrev pub calls_of : MemoryStore → Calls
calls_of s = calls s.calls
