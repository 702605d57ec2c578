use Rattle.std.proofs.Common.{◌≡◌, string_bytes}
use Rattle.std.proofs.lemmas.Result.{err_from_is_err_and}
use Rattle.fc_base.proofs.HeldLemmas.{held_in-same, held_in-updates}
use Rattle.fc_base.proofs.memory_store.MemoryStore.place.Goals as goal

pub returns-in_err-insert-clause-err : goal.returns-in_err-insert-clause-err
returns-in_err-insert-clause-err c =
    let p = err_from_is_err_and c.from_residual-in_err-insert.result c.from_residual-in_err-insert.ensures.1 in
    rw p.1 (held_in-same _ _ c.in_err-insert.ensures.err)

pub returns-clause-ok : goal.returns-clause-ok
returns-clause-ok c =
    let copied : c.in_ok-value.value.items ≡ c.args.bytes.now = c.in_ok-value.ensures.items_if_clones_equal (λ x y same. same) in
    rw (← c.in_ok-key.ensures.ok, ← copied)
    (held_in-updates c.args.self.now.held c.insert.new.self (string_bytes c.in_ok-key.key) c.in_ok-value.value c.in_ok-insert.ensures.updates)
