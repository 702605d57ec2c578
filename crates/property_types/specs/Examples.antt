-- Values fitted to types, worked out.
use Rattle.std.specs.Prelude.{◌≡◌, ℤ, pos, negsuc, true, List, Ok, Err, codes}
use Rattle.unit_signatures.specs.Units.{pure}
use Rattle.property_types.specs.declared.prop_type.PropType.TheVariants.{Integer, Percent, Bool as Boolean, Length, Distance, Density, Turn}
use Rattle.property_types.specs.declared.value.Value.{Value}
use Rattle.property_types.specs.declared.value.Value.TheVariants.{Number, Flag}
use Rattle.property_types.specs.declared.value.ValueFault.TheVariants.{NotWhole, OutOfType}
use Rattle.property_types.specs.Fits.{fit}
use Rattle.property_types.specs.Types.{unit_of, type_name_of}

-- an amount in billionths of a unit
abbrev pub number : ℤ → List ℤ → Value
number raw unit = Number (record { amount = raw; unit = unit })

-- the unit mm
abbrev pub mm : List ℤ
mm = unit_of (pos 1) (pos 0) (pos 0) (pos 0)

-- whether a fit is refused, and what it gives, at the ends of ranges
pub record FitsWork : Type 0 where
  pub half_is_not_whole : fit Integer (number (pos 500000000) pure) ≡ Err NotWhole
  pub not_whole_comes_first : fit Percent (number (negsuc 499999999) pure) ≡ Err NotWhole
  pub percent_101 : fit Percent (number (pos 101000000000) pure) ≡ Err OutOfType
  pub percent_100 : fit Percent (number (pos 100000000000) pure) ≡ Ok (number (pos 100000000000) pure)
  pub turn_24 : fit Turn (number (pos 24000000000) pure) ≡ Err OutOfType
  pub turn_23 : fit Turn (number (pos 23000000000) pure) ≡ Ok (number (pos 23000000000) pure)
  pub negative_length : fit Length (number (negsuc 0) mm) ≡ Err OutOfType
  pub negative_distance : fit Distance (number (negsuc 0) mm) ≡ Ok (number (negsuc 0) mm)
  pub pure_length : fit Length (number (pos 2000000000) pure) ≡ Ok (number (pos 2000000000) mm)
  pub flag : fit Boolean (Flag true) ≡ Ok (Flag true)
  pub name : type_name_of Density ≡ codes "App::PropertyDensity"
