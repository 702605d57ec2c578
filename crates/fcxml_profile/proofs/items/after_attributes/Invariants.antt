use Rattle.std.proofs.Common.{◌≡◌, length}
use denote.Text.{Utf8}
use denote.Shadow.{shadow}
use Rattle.fcxml_profile.specs.Items.{attributes_at}
use Rattle.fcxml_profile.proofs.items.after_attributes.Given as goal

-- what follows the attributes that are left follows all
abbrev pub invariant-loop-after : goal.invariant-loop-after
invariant-loop-after l = record {
  text : shadow (Utf8 l.rest);
  same : (attributes_at l.size l.rest).1 ≡ (attributes_at l.size l.text).1;
}

abbrev pub decreases-loop-after : goal.decreases-loop-after
decreases-loop-after l = length l.rest
