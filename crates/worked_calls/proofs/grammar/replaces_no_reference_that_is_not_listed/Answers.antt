use Rattle.std.specs.List.{IsDistinct}
use Rattle.worked_calls.proofs.grammar.replaces_no_reference_that_is_not_listed.Goals as goal

-- nothing is listed
pub map_paths-requires : goal.map_paths-requires
unfolding IsDistinct
map_paths-requires g c = rw c.new.ensures.items (record { kinds = tt; once = tt })
