use Rattle.unit_signatures.specs.Table.{unit_named}
use Rattle.unit_signatures.proofs.table.unit_named.Goals as goal

pub returns : goal.returns
unfolding unit_named
returns c = c.look_up.ensures
