-- How large a document may be.
use Rattle.std.specs.Prelude.{ℕ}

-- the objects
abbrev pub most_objects : ℕ
most_objects = 4096

-- the slots, and the kept cells that are not filled
abbrev pub most_slots : ℕ
most_slots = 65536

-- the nodes of all expressions
abbrev pub most_nodes : ℕ
most_nodes = 262144

-- the dependencies of all slots
abbrev pub most_dependencies : ℕ
most_dependencies = 4194304
