-- Attributes as the code has them.
use Rattle.fcxml_profile.specs.Items.{Attribute}
use Rattle.fcxml_profile.specs.declared.token.Attribute as a

abbrev pub attribute_told : a.Attribute → Attribute
attribute_told a = record { name = a.name; value = a.value; place = a.place; end = a.end }
