-- The printed form of a tree.
use Rattle.std.specs.Prelude.{ℕ, ℤ, pos, Bool, true, false, nat_le, if◌then◌else◌, List, [], ◌∷◌, ◌++◌, codes, Option, None, Some}
use Rattle.std.specs.Fmt.{signed_decimal}
use Rattle.std.specs.Ordering.{int_eq}
use Rattle.fc_base.specs.Places.{Block, address_text}
use Rattle.quantities.specs.Texts.{decimal_text}
use Rattle.object_paths.specs.PathTexts.{path_text}
use Rattle.expr_tree.specs.declared.expr.UnitPower.{UnitPower}
use Rattle.expr_tree.specs.Functions.{function_name, modulo_name, aggregate_name}
use Rattle.expr_grammar.specs.Grammar.{Level, expression, comparison, sum, term, unary, powers, primary, binary_level, right_level, binary_sign, compare_sign}
use Rattle.expr_tokens.specs.Signs.{sign_text}
use Rattle.expr_tree.specs.Tree.{Tree, literal, unit_one, flag, text, path, negate, binary, power, compare, conditional, function, modulo, aggregate, Arguments, no_more, tree, cells}

-- the levels by number, the loosest first
abbrev pub tightness : Level → ℕ
tightness expression = 0
tightness comparison = 1
tightness sum = 2
tightness term = 3
tightness unary = 4
tightness powers = 5
tightness primary = 6

-- the level of the form that stands at the top of a tree
abbrev pub level_of : Tree → Level
level_of (literal amount u) = primary
level_of (unit_one name) = primary
level_of (flag b) = primary
level_of (text t) = primary
level_of (path p) = primary
level_of (negate a) = unary
level_of (binary op a b) = binary_level op
level_of (power a n) = powers
level_of (compare op a b) = comparison
level_of (conditional c a b) = expression
level_of (function op a) = primary
level_of (modulo a b) = primary
level_of (aggregate op all) = primary

-- the tree may stand at the level as it is
abbrev pub fits : Level → Tree → Bool
fits l t = nat_le (tightness l) (tightness (level_of t))

-- a number with a unit
abbrev pub is_measure : Tree → Bool
is_measure (literal amount (Some u)) = true
is_measure _ = false

-- the tree may be the base of a power as it is
abbrev pub fits_as_base : Tree → Bool
fits_as_base t = if is_measure t then false else fits powers t

-- in brackets, where it may not stand as it is
abbrev pub bracketed : Bool → List ℕ → List ℕ
bracketed as_it_is printed = if as_it_is then printed else 40 ∷ (printed ++ 41 ∷ [])

-- a sign with a space on both sides
abbrev pub spaced : List ℕ → List ℕ
spaced sign = 32 ∷ (sign ++ 32 ∷ [])

-- an exponent behind `^`, which 1 is not written for
abbrev pub exponent_text : ℤ → List ℕ
exponent_text n = if int_eq n (pos 1) then [] else 94 ∷ signed_decimal n

-- a unit behind its number and a space
abbrev pub measure_text : Option UnitPower → List ℕ
measure_text None = []
measure_text (Some u) = 32 ∷ (u.unit ++ exponent_text u.exponent)

abbrev pub flag_text : Bool → List ℕ
flag_text true = codes "true"
flag_text false = codes "false"

abbrev pub area_text : Block → List ℕ
area_text area = address_text area.from ++ 58 ∷ address_text area.to

-- a function of a name
abbrev pub call_text : List ℕ → List ℕ → List ℕ
call_text name arguments = name ++ 40 ∷ (arguments ++ 41 ∷ [])

-- what stands in front of further arguments
abbrev pub separator_text : Arguments → List ℕ
separator_text no_more = []
separator_text _ = 59 ∷ 32 ∷ []

-- the printed form of a tree, and of arguments
unfoldable mutual
  pub printed : Tree → List ℕ
  printed (literal amount u) = decimal_text amount ++ measure_text u
  printed (unit_one name) = name
  printed (flag b) = flag_text b
  printed (text t) = 60 ∷ 60 ∷ (t ++ 62 ∷ 62 ∷ [])
  printed (path p) = path_text p
  printed (negate a) = 45 ∷ bracketed (fits unary a) (printed a)
  printed (binary op a b) =
      bracketed (fits (binary_level op) a) (printed a) ++ (spaced (sign_text (binary_sign op)) ++ bracketed (fits (right_level op) b) (printed b))
  printed (power a n) = bracketed (fits_as_base a) (printed a) ++ 94 ∷ signed_decimal n
  printed (compare op a b) =
      bracketed (fits sum a) (printed a) ++ (spaced (sign_text (compare_sign op)) ++ bracketed (fits sum b) (printed b))
  printed (conditional c a b) =
      bracketed (fits comparison c) (printed c) ++ (32 ∷ 63 ∷ 32 ∷ (printed a ++ 32 ∷ 58 ∷ 32 ∷ printed b))
  printed (function op a) = call_text (function_name op) (printed a)
  printed (modulo a b) = call_text modulo_name (printed a ++ 59 ∷ 32 ∷ printed b)
  printed (aggregate op all) = call_text (aggregate_name op) (printed_arguments all)

  pub printed_arguments : Arguments → List ℕ
  printed_arguments no_more = []
  printed_arguments (tree t more) = printed t ++ (separator_text more ++ printed_arguments more)
  printed_arguments (cells area more) = area_text area ++ (separator_text more ++ printed_arguments more)
