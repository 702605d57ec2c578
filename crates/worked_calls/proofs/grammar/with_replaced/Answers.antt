use Rattle.std.proofs.Common.{rules}
use Rattle.std.specs.List.{IsDistinct}
use Rattle.worked_calls.proofs.grammar.with_replaced.Goals as goal

-- both kinds and both numbers were tested
pub map_paths-requires : goal.map_paths-requires
unfolding IsDistinct
map_paths-requires c = rw c.in_ok-pairs.ensures.items (record {
  kinds = (c.in_ok-can_replace.ensures (search rules), (c.in_ok-can_replace-2.ensures (search rules), tt));
  once = ((search rules, tt), (tt, tt));
})
