use Rattle.quantities.proofs.Nearness.{near-nearest}
use Rattle.quantities.proofs.laws.rounding_gives_the_nearest.Goals as goal

pub returns : goal.returns
returns c = near-nearest
