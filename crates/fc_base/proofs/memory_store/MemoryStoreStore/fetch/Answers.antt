use Rattle.std.proofs.Common.{◌≡◌, Some, ap, sym, ◌∙◌, arith, rules}
use Rattle.fc_base.proofs.HeldLemmas.{held_none, held_some}
use Rattle.fc_base.proofs.memory_store.MemoryStoreStore.fetch.Goals as goal

pub returns-in-None-clause-fetched : goal.returns-in-None-clause-fetched
returns-in-None-clause-fetched c = held_none _ c.args.name.now c.in-None.ensures.value

pub returns-then-len-limit-clause-fetched : goal.returns-then-len-limit-clause-fetched
returns-then-len-limit-clause-fetched c = record {
  bytes = c.in-Some.bytes.now.items;
  found = held_some _ c.args.name.now c.in-Some.bytes.now c.in-Some.ensures.value;
  beyond = omega arith;
}

pub returns-in_ok-copy-in-Some-clause-fetched : goal.returns-in_ok-copy-in-Some-clause-fetched
returns-in_ok-copy-in-Some-clause-fetched c =
    let copied : c.in_ok-copy-in-Some.copy.items ≡ c.in-Some.bytes.now.items = search rules in
    record {
      found = held_some _ c.args.name.now c.in-Some.bytes.now c.in-Some.ensures.value ∙ ap Some (sym copied);
      within = rw copied (omega arith);
    }
