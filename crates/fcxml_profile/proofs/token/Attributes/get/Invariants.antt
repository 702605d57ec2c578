use Rattle.std.proofs.Common.{◌≡◌, map, drop}
use Rattle.fcxml_profile.specs.Items.{value_named}
use Rattle.fcxml_profile.specs.ToldAttributes.{attribute_told}
use Rattle.fcxml_profile.proofs.token.Attributes.get.Given as goal

-- what has the name among those that are left has it among all
abbrev pub invariant-loop-attribute : goal.invariant-loop-attribute
invariant-loop-attribute l = value_named l.name (map attribute_told (drop l.attribute-index l.attribute-items)) ≡ value_named l.name l.self
