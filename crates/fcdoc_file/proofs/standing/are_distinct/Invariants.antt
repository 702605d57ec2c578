use Rattle.std.proofs.Common.{◌≡◌, map, drop}
use Rattle.property_types.specs.Reserved.{are_distinct}
use Rattle.fcdoc_file.proofs.DistinctLemmas.{distinct_beside}
use Rattle.fcdoc_file.proofs.standing.are_distinct.Given as goal

-- the names are distinct where those that are left are, beside those that were seen
abbrev pub invariant-loop-item : goal.invariant-loop-item
invariant-loop-item g l = distinct_beside (map (λ k. k.now) l.seen.keys) (map g.T.Named.name (drop l.item-index l.items)) ≡ are_distinct (map g.T.Named.name l.items)
