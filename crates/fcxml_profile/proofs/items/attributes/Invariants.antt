use Rattle.std.proofs.Common.{◌≡◌, length, map}
use denote.Text.{Utf8}
use denote.Shadow.{shadow}
use Rattle.fcxml_profile.specs.Items.{attributes_at}
use Rattle.fcxml_profile.specs.ToldAttributes.{attribute_told}
use Rattle.fcxml_profile.proofs.AttributeLemmas.{behind_attributes}
use Rattle.fcxml_profile.proofs.items.attributes.Given as goal

-- the attributes so far and those in front of what is left are those in front of the text
abbrev pub invariant-loop-attribute : goal.invariant-loop-attribute
invariant-loop-attribute l = record {
  text : shadow (Utf8 l.rest);
  so_far : behind_attributes (map attribute_told l.items.items) (attributes_at l.size l.rest) ≡ attributes_at l.size l.text;
}

abbrev pub decreases-loop-attribute : goal.decreases-loop-attribute
decreases-loop-attribute l = length l.rest
