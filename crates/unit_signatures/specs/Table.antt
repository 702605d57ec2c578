-- The table of units: name, factor in billionths of a base unit, and unit.
use Rattle.std.specs.Prelude.{ℕ, ℤ, pos, negsuc, List, [], ◌∷◌, codes, nat_eq, Option, None, Some, if◌then◌else◌}
use Rattle.std.specs.Cmp.Lexicographic.{pointwise}

-- a row: a name, a factor and a unit
abbrev pub Row : Type 0
Row = List ℕ × ℤ × List ℤ

-- the base units of a row: the exponents of mm, kg, s, A, K, mol, cd and deg
abbrev pub length : List ℤ
length = pos 1 ∷ pos 0 ∷ pos 0 ∷ pos 0 ∷ pos 0 ∷ pos 0 ∷ pos 0 ∷ pos 0 ∷ []

abbrev pub mass : List ℤ
mass = pos 0 ∷ pos 1 ∷ pos 0 ∷ pos 0 ∷ pos 0 ∷ pos 0 ∷ pos 0 ∷ pos 0 ∷ []

abbrev pub time : List ℤ
time = pos 0 ∷ pos 0 ∷ pos 1 ∷ pos 0 ∷ pos 0 ∷ pos 0 ∷ pos 0 ∷ pos 0 ∷ []

abbrev pub current : List ℤ
current = pos 0 ∷ pos 0 ∷ pos 0 ∷ pos 1 ∷ pos 0 ∷ pos 0 ∷ pos 0 ∷ pos 0 ∷ []

abbrev pub temperature : List ℤ
temperature = pos 0 ∷ pos 0 ∷ pos 0 ∷ pos 0 ∷ pos 1 ∷ pos 0 ∷ pos 0 ∷ pos 0 ∷ []

abbrev pub amount_of_substance : List ℤ
amount_of_substance = pos 0 ∷ pos 0 ∷ pos 0 ∷ pos 0 ∷ pos 0 ∷ pos 1 ∷ pos 0 ∷ pos 0 ∷ []

abbrev pub luminous_intensity : List ℤ
luminous_intensity = pos 0 ∷ pos 0 ∷ pos 0 ∷ pos 0 ∷ pos 0 ∷ pos 0 ∷ pos 1 ∷ pos 0 ∷ []

abbrev pub angle : List ℤ
angle = pos 0 ∷ pos 0 ∷ pos 0 ∷ pos 0 ∷ pos 0 ∷ pos 0 ∷ pos 0 ∷ pos 1 ∷ []

abbrev pub volume : List ℤ
volume = pos 3 ∷ pos 0 ∷ pos 0 ∷ pos 0 ∷ pos 0 ∷ pos 0 ∷ pos 0 ∷ pos 0 ∷ []

abbrev pub force : List ℤ
force = pos 1 ∷ pos 1 ∷ negsuc 1 ∷ pos 0 ∷ pos 0 ∷ pos 0 ∷ pos 0 ∷ pos 0 ∷ []

abbrev pub pressure : List ℤ
pressure = negsuc 0 ∷ pos 1 ∷ negsuc 1 ∷ pos 0 ∷ pos 0 ∷ pos 0 ∷ pos 0 ∷ pos 0 ∷ []

abbrev pub energy : List ℤ
energy = pos 2 ∷ pos 1 ∷ negsuc 1 ∷ pos 0 ∷ pos 0 ∷ pos 0 ∷ pos 0 ∷ pos 0 ∷ []

abbrev pub power : List ℤ
power = pos 2 ∷ pos 1 ∷ negsuc 2 ∷ pos 0 ∷ pos 0 ∷ pos 0 ∷ pos 0 ∷ pos 0 ∷ []

abbrev pub frequency : List ℤ
frequency = pos 0 ∷ pos 0 ∷ negsuc 0 ∷ pos 0 ∷ pos 0 ∷ pos 0 ∷ pos 0 ∷ pos 0 ∷ []

abbrev pub unit_table : List Row
unit_table =
    (codes "nm", pos 1000, length) ∷
    (codes "um", pos 1000000, length) ∷
    (codes "mm", pos 1000000000, length) ∷
    (codes "cm", pos 10000000000, length) ∷
    (codes "dm", pos 100000000000, length) ∷
    (codes "m", pos 1000000000000, length) ∷
    (codes "km", pos 1000000000000000, length) ∷
    (codes "in", pos 25400000000, length) ∷
    (codes "ft", pos 304800000000, length) ∷
    (codes "yd", pos 914400000000, length) ∷
    (codes "thou", pos 25400000, length) ∷
    (codes "mg", pos 1000, mass) ∷
    (codes "g", pos 1000000, mass) ∷
    (codes "kg", pos 1000000000, mass) ∷
    (codes "t", pos 1000000000000, mass) ∷
    (codes "s", pos 1000000000, time) ∷
    (codes "min", pos 60000000000, time) ∷
    (codes "h", pos 3600000000000, time) ∷
    (codes "A", pos 1000000000, current) ∷
    (codes "mA", pos 1000000, current) ∷
    (codes "kA", pos 1000000000000, current) ∷
    (codes "K", pos 1000000000, temperature) ∷
    (codes "mK", pos 1000000, temperature) ∷
    (codes "mol", pos 1000000000, amount_of_substance) ∷
    (codes "mmol", pos 1000000, amount_of_substance) ∷
    (codes "cd", pos 1000000000, luminous_intensity) ∷
    (codes "deg", pos 1000000000, angle) ∷
    (codes "gon", pos 900000000, angle) ∷
    (codes "l", pos 1000000000000000, volume) ∷
    (codes "ml", pos 1000000000000, volume) ∷
    (codes "mN", pos 1000000000, force) ∷
    (codes "N", pos 1000000000000, force) ∷
    (codes "kN", pos 1000000000000000, force) ∷
    (codes "Pa", pos 1000000, pressure) ∷
    (codes "kPa", pos 1000000000, pressure) ∷
    (codes "MPa", pos 1000000000000, pressure) ∷
    (codes "GPa", pos 1000000000000000, pressure) ∷
    (codes "J", pos 1000000000000000, energy) ∷
    (codes "W", pos 1000000000000000, power) ∷
    (codes "Hz", pos 1000000000, frequency) ∷
    (codes "kHz", pos 1000000000000, frequency) ∷
    (codes "MHz", pos 1000000000000000, frequency) ∷
    []

-- the factor and the unit of the first row with this name
abbrev pub look_up : List ℕ → List Row → Option (ℤ × List ℤ)
look_up name [] = None
look_up name (row ∷ rows) = if pointwise nat_eq row.0 name then Some (row.1, row.2) else look_up name rows

unfoldable pub unit_named : List ℕ → Option (ℤ × List ℤ)
unit_named name = look_up name unit_table
