use Rattle.std.proofs.Common.{◌≡◌, [], map, length}
use denote.Text.{Utf8}
use denote.Shadow.{shadow}
use Rattle.fcxml_profile.specs.Items.{attributes_at}
use Rattle.fcxml_profile.specs.Standing.{repeated_behind}
use Rattle.fcxml_profile.proofs.repeated.repeated.Given as goal

-- what is found among those that are left, beside the names seen, is what is found among all
abbrev pub invariant-loop-attribute : goal.invariant-loop-attribute
invariant-loop-attribute l = record {
  text : shadow (Utf8 l.rest);
  so_far : repeated_behind (map (λ k. k.now) l.seen.keys) (attributes_at l.size l.rest).0 ≡ repeated_behind [] (attributes_at l.size l.text).0;
}

abbrev pub decreases-loop-attribute : goal.decreases-loop-attribute
decreases-loop-attribute l = length l.rest
