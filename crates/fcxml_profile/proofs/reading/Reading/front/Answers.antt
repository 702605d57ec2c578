use Rattle.std.proofs.Common.{sym}
use Rattle.fcxml_profile.proofs.ReadingLemmas.{none-left}
use Rattle.fcxml_profile.proofs.reading.Reading.front.Goals as goal

pub unreachable-requires : goal.unreachable-requires
unreachable-requires c = none-left c.args.size c.args.self.now.left c.args.self.now.rest.now c.requires.some c.requires.whole (sym c.in-None.ensures)
