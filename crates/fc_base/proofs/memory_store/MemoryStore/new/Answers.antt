use Rattle.fc_base.proofs.HeldLemmas.{held_in-empty}
use Rattle.fc_base.proofs.memory_store.MemoryStore.new.Goals as goal

pub returns-clause-empty : goal.returns-clause-empty
returns-clause-empty c = held_in-empty _ c.new.ensures.empty
