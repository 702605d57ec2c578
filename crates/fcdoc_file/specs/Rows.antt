-- Private: only contracts inside this crate cite this.
-- What was read, without where it lies in memory.
use Rattle.std.specs.Prelude.{map}
use Rattle.fcdoc_file.specs.FirstForm.{FirstProperty, FirstObject}
use Rattle.fcdoc_file.specs.declared.var_set.FloatProperty.{FloatProperty}
use Rattle.fcdoc_file.specs.declared.var_set.VarSet.{VarSet}

abbrev pub property_of : FloatProperty → FirstProperty
property_of p = record { name = p.name; value = p.value }

abbrev pub object_of : VarSet → FirstObject
object_of o = record { name = o.name; properties = map property_of o.properties.items }
