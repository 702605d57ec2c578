use Rattle.std.proofs.Common.{◌≡◌, ◌+◌, ◌≤◌, length}
use denote.Text.{Utf8}
use denote.Shadow.{shadow}
use Rattle.fcxml_profile.specs.Standing.{at_start}
use Rattle.fcxml_profile.specs.Scanning.{examined}
use Rattle.fcxml_profile.proofs.examining.examine.Given as goal

-- the items so far and those of what is left are those of the text, and the fault behind them is the same
abbrev pub invariant-loop-elements : goal.invariant-loop-elements
invariant-loop-elements l = record {
  text : shadow (Utf8 l.rest);
  count : l.count + (examined l.elements l.size l.rest).0 ≡ (examined at_start l.size l.text).0;
  fault : (examined l.elements l.size l.rest).1 ≡ (examined at_start l.size l.text).1;
  within : l.count + length l.rest ≤ length l.text;
}

abbrev pub decreases-loop-elements : goal.decreases-loop-elements
decreases-loop-elements l = length l.rest
