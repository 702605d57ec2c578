-- The types of properties: names, sorts, zero values and ranges.
use Rattle.std.specs.Prelude.{◌≡◌, ◌≢◌, ℕ, ℤ, pos, negsuc, Bool, true, false, List, [], ◌∷◌, Option, Some, None, codes, if◌then◌else◌}
use Rattle.std.specs.Str.{bytes_eq}
use Rattle.unit_signatures.specs.Units.{pure}
use Rattle.property_types.specs.declared.prop_type.PropType.{PropType}
use Rattle.property_types.specs.declared.prop_type.PropType.TheVariants.{Float, Integer, Percent, Bool as Boolean, String, Length, Distance, Angle, Area, Volume, Mass, Time, Speed, Force, Pressure, Density, Placement, Turn}
use Rattle.property_types.specs.declared.prop_type.Sort.{Sort}
use Rattle.property_types.specs.declared.prop_type.Sort.TheVariants.{Number, Flag, Text}
use Rattle.property_types.specs.declared.value.Value.{Value}
use Rattle.property_types.specs.declared.value.Value.TheVariants as a

-- a unit by the exponents of mm, kg, s and deg; no type has another base unit
abbrev pub unit_of : ℤ → ℤ → ℤ → ℤ → List ℤ
unit_of mm kg s deg = mm ∷ kg ∷ s ∷ pos 0 ∷ pos 0 ∷ pos 0 ∷ pos 0 ∷ deg ∷ []

-- what values a slot of the type has; a placement is asked by its components, which are lengths and a turn
abbrev pub sort_of_type : PropType → Sort
sort_of_type Float = Number pure
sort_of_type Integer = Number pure
sort_of_type Percent = Number pure
sort_of_type Boolean = Flag
sort_of_type String = Text
sort_of_type Length = Number (unit_of (pos 1) (pos 0) (pos 0) (pos 0))
sort_of_type Distance = Number (unit_of (pos 1) (pos 0) (pos 0) (pos 0))
sort_of_type Angle = Number (unit_of (pos 0) (pos 0) (pos 0) (pos 1))
sort_of_type Area = Number (unit_of (pos 2) (pos 0) (pos 0) (pos 0))
sort_of_type Volume = Number (unit_of (pos 3) (pos 0) (pos 0) (pos 0))
sort_of_type Mass = Number (unit_of (pos 0) (pos 1) (pos 0) (pos 0))
sort_of_type Time = Number (unit_of (pos 0) (pos 0) (pos 1) (pos 0))
sort_of_type Speed = Number (unit_of (pos 1) (pos 0) (negsuc 0) (pos 0))
sort_of_type Force = Number (unit_of (pos 1) (pos 1) (negsuc 1) (pos 0))
sort_of_type Pressure = Number (unit_of (negsuc 0) (pos 1) (negsuc 1) (pos 0))
sort_of_type Density = Number (unit_of (negsuc 2) (pos 1) (pos 0) (pos 0))
sort_of_type Placement = Number pure
sort_of_type Turn = Number pure

-- the name of the type in a document; a turn is the type of no property, and has none
abbrev pub type_name_of : PropType → List ℕ
type_name_of Float = codes "App::PropertyFloat"
type_name_of Integer = codes "App::PropertyInteger"
type_name_of Percent = codes "App::PropertyPercent"
type_name_of Boolean = codes "App::PropertyBool"
type_name_of String = codes "App::PropertyString"
type_name_of Length = codes "App::PropertyLength"
type_name_of Distance = codes "App::PropertyDistance"
type_name_of Angle = codes "App::PropertyAngle"
type_name_of Area = codes "App::PropertyArea"
type_name_of Volume = codes "App::PropertyVolume"
type_name_of Mass = codes "App::PropertyMass"
type_name_of Time = codes "App::PropertyTime"
type_name_of Speed = codes "App::PropertySpeed"
type_name_of Force = codes "App::PropertyForce"
type_name_of Pressure = codes "App::PropertyPressure"
type_name_of Density = codes "App::PropertyDensity"
type_name_of Placement = codes "App::PropertyPlacement"
type_name_of Turn = []

-- the types of properties
abbrev pub types_of_properties : List PropType
types_of_properties =
    Float ∷ Integer ∷ Percent ∷ Boolean ∷ String ∷ Length ∷ Distance ∷ Angle ∷ Area ∷ Volume ∷ Mass ∷ Time ∷ Speed
    ∷ Force ∷ Pressure ∷ Density ∷ Placement ∷ []

-- the first type of a list that has the name
abbrev pub first_named : List ℕ → List PropType → Option PropType
first_named name [] = None
first_named name (t ∷ ts) = if bytes_eq name (type_name_of t) then Some t else first_named name ts

-- the type of properties that has the name
abbrev pub type_named : List ℕ → Option PropType
type_named name = first_named name types_of_properties

-- each type of properties is the one that its name names
abbrev pub NamesAreRead : Type 0
NamesAreRead = (t : PropType) → t ≢ Turn → type_named (type_name_of t) ≡ Some t

-- the zero of a sort: 0, false or the empty text
abbrev pub zero_of_sort : Sort → Value
zero_of_sort (Number u) = a.Number (record { amount = pos 0; unit = u })
zero_of_sort Flag = a.Flag false
zero_of_sort Text = a.Text []

-- the value of a new property; of a placement it is that of each of its components
abbrev pub zero_value : PropType → Value
zero_value t = zero_of_sort (sort_of_type t)

-- a type whose numbers are whole
abbrev pub is_whole_type : PropType → Bool
is_whole_type Integer = true
is_whole_type Percent = true
is_whole_type Turn = true
is_whole_type _ = false

-- a type whose numbers are not negative
abbrev pub is_not_negative_type : PropType → Bool
is_not_negative_type Percent = true
is_not_negative_type Length = true
is_not_negative_type Area = true
is_not_negative_type Volume = true
is_not_negative_type Turn = true
is_not_negative_type _ = false

-- the greatest number of a type, where it has one
abbrev pub greatest_of_type : PropType → Option ℕ
greatest_of_type Percent = Some 100
greatest_of_type Turn = Some 23
greatest_of_type _ = None
