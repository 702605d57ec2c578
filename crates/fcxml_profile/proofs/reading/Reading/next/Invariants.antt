use Rattle.std.proofs.Common.{◌≡◌, ◌≤◌, length}
use Rattle.fcxml_profile.specs.Items.{items_at}
use Rattle.fcxml_profile.specs.Reading.{scan_of_reading}
use Rattle.fcxml_profile.proofs.reading.Reading.next.Given as goal

-- what was passed over gave no token, so the same is to come
abbrev pub invariant-loop-self : goal.invariant-loop-self
invariant-loop-self l = record {
  same : scan_of_reading l.size l.self ≡ scan_of_reading l.size l.fn.self;
  less : l.self.left ≤ l.fn.self.left;
  whole : l.self.left ≤ length (items_at l.size l.self.rest.now);
}

abbrev pub decreases-loop-self : goal.decreases-loop-self
decreases-loop-self l = l.self.left
