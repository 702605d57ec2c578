use Rattle.std.proofs.Common.{◌+◌, map, drop, refl, sym, ap, ◌∙◌}
use Rattle.property_types.specs.Reserved.{are_distinct}
use Rattle.fcdoc_file.proofs.DistinctLemmas.{distinct_beside, beside_nothing, adds, repeats}
use Rattle.fcdoc_file.proofs.ReadingLemmas.{keys_left}
use Rattle.fcdoc_file.proofs.standing.are_distinct.Goals as goal

pub loop-item-init : goal.loop-item-init
loop-item-init g c =
    ap (λ ks. distinct_beside (map (λ k. k.now) ks) (map g.T.Named.name c.args.items.now)) c.new-seen.ensures.empty
    ∙ beside_nothing (map g.T.Named.name c.args.items.now)

pub loop-item-preserved : goal.loop-item-preserved
loop-item-preserved g c =
    let x = c.item-item.result in
    let left = keys_left c.args.items.now c.loop-item.item-index x x c.loop-item-test.true c.item-item.is refl in
    adds c.loop-item.seen.keys c.insert.new.self.keys c.as_str.result (g.T.Named.name x) (map g.T.Named.name (drop (c.loop-item.item-index + 1) c.args.items.now))
    (are_distinct (map g.T.Named.name c.args.items.now)) c.in_ok-insert.field-0 c.in_ok-insert.ensures.added c.in_ok-insert.ensures.keys (c.as_str.ensures.text ∙ c.name.ensures)
    (rw left at c.loop-item.invariant) c.if-not-branch.false

pub returns-then-not-branch : goal.returns-then-not-branch
returns-then-not-branch g c =
    let x = c.item-item.result in
    let left = keys_left c.args.items.now c.loop-item.item-index x x c.loop-item-test.true c.item-item.is refl in
    sym (repeats c.loop-item.seen.keys c.insert.new.self.keys c.as_str.result (g.T.Named.name x) (map g.T.Named.name (drop (c.loop-item.item-index + 1) c.args.items.now))
    (are_distinct (map g.T.Named.name c.args.items.now)) c.in_ok-insert.field-0 c.in_ok-insert.ensures.added c.in_ok-insert.ensures.keys (c.as_str.ensures.text ∙ c.name.ensures)
    (rw left at c.loop-item.invariant) c.if-not-branch.true)
