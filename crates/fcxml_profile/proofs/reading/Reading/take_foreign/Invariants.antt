use Rattle.std.proofs.Common.{◌≡◌, ◌≤◌, ◌+◌, ℕ, suc, length, true, None}
use Rattle.std.specs.Option.{IfNone}
use Rattle.fcxml_profile.specs.Items.{items_at}
use Rattle.fcxml_profile.specs.Scanning.{end_of_element}
use Rattle.fcxml_profile.specs.Reading.{closes, scan_of_reading}
use Rattle.fcxml_profile.proofs.reading.Reading.take_foreign.Given as goal

-- the element ends where it ended, and so many elements in it are open
abbrev pub invariant-loop-self : goal.invariant-loop-self
invariant-loop-self l = record {
  same : end_of_element l.depth (scan_of_reading l.size l.self).tokens ≡ end_of_element 0 (scan_of_reading l.size l.fn.self).tokens;
  fault : l.self.fault ≡ l.fn.self.fault;
  failed : l.self.failed ≡ l.fn.self.failed;
  last : l.self.last ≡ None;
  whole : l.self.left ≤ length (items_at l.size l.self.rest.now);
  inside : (outer : ℕ) × IfNone l.self.fault (closes (suc (l.depth + outer)) (scan_of_reading l.size l.self).tokens ≡ true);
  fits : l.depth + l.self.left ≤ l.fn.self.left;
}

abbrev pub decreases-loop-self : goal.decreases-loop-self
decreases-loop-self l = l.self.left
