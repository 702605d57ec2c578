-- The tokens of the printed form of a tree.
use Rattle.std.specs.Prelude.{ℕ, suc, ◌*◌, ◌||◌, ℤ, pos, negsuc, Bool, if◌then◌else◌, List, [], ◌∷◌, ◌++◌, Option, None, Some}
use Rattle.std.specs.Ordering.{int_eq}
use Rattle.fc_base.specs.Places.{Place, Block, address_text}
use Rattle.quantities.specs.Texts.{billion, decimal_text}
use Rattle.object_paths.specs.PathTexts.{needs_dot}
use Rattle.object_paths.specs.declared.slot_name.SlotName.{SlotName}
use Rattle.object_paths.specs.declared.path.Owner.{Owner}
use Rattle.object_paths.specs.declared.path.Owner.TheVariants.{Here, ByName, ByLabel}
use Rattle.object_paths.specs.declared.path.Path.{Path}
use Rattle.expr_tree.specs.declared.expr.UnitPower.{UnitPower}
use Rattle.expr_tokens.specs.declared.sign.Sign.TheVariants as sign
use Rattle.expr_tokens.specs.declared.token.Token.{Token}
use Rattle.expr_tokens.specs.declared.token.Token.TheVariants as token
use Rattle.expr_tree.specs.Functions.{function_name, modulo_name, aggregate_name}
use Rattle.expr_grammar.specs.Grammar.{unary, comparison, sum, binary_level, right_level, binary_sign, compare_sign}
use Rattle.expr_tokens.specs.Lexemes.{short_number}
use Rattle.expr_grammar.specs.PathTokens.{dot, slot_tokens}
use Rattle.expr_grammar.specs.Printed.{fits, fits_as_base}
use Rattle.expr_tree.specs.Tree.{Tree, literal, unit_one, flag, text, path, negate, binary, power, compare, conditional, function, modulo, aggregate, Arguments, no_more, tree, cells}

-- in brackets, where it may not stand as it is
abbrev pub bracketed_tokens : Bool → List Token → List Token
bracketed_tokens as_it_is ts = if as_it_is then ts else token.Sign sign.Open ∷ (ts ++ token.Sign sign.Close ∷ [])

-- an exponent of one or two digits
abbrev pub exponent_tokens : ℤ → List Token
exponent_tokens (pos n) = token.Numeral (pos (n * billion)) (Some n) ∷ []
exponent_tokens (negsuc n) = token.Sign sign.Minus ∷ token.Numeral (pos (suc n * billion)) (Some (suc n)) ∷ []

-- an exponent behind `^`, which 1 is not written for
abbrev pub raised_tokens : ℤ → List Token
raised_tokens n = if int_eq n (pos 1) then [] else token.Sign sign.Caret ∷ exponent_tokens n

-- a unit behind its number
abbrev pub measure_tokens : Option UnitPower → List Token
measure_tokens None = []
measure_tokens (Some u) = token.Unit u.unit ∷ raised_tokens u.exponent

-- what stands in front of a slot: the point of a slot that reads as a unit or a flag, or an owner
abbrev pub front_tokens : Owner → SlotName → List Token
front_tokens Here slot = if needs_dot slot then dot ∷ [] else []
front_tokens (ByName name) slot = token.Name name ∷ dot ∷ []
front_tokens (ByLabel label) slot = token.Text label ∷ dot ∷ []

abbrev pub printed_path_tokens : Path → List Token
printed_path_tokens p = front_tokens p.owner p.slot ++ slot_tokens p.slot

-- a corner of an area
abbrev pub corner_token : Place → Token
corner_token p = if p.fixed_column || p.fixed_row then token.Marked p else token.Name (address_text p)

abbrev pub area_tokens : Block → List Token
area_tokens area = corner_token area.from ∷ token.Sign sign.Colon ∷ corner_token area.to ∷ []

-- a function of a name
abbrev pub call_tokens : List ℕ → List Token → List Token
call_tokens name ts = token.Function name ∷ token.Sign sign.Open ∷ (ts ++ token.Sign sign.Close ∷ [])

-- what stands in front of further arguments
abbrev pub separator_tokens : Arguments → List Token
separator_tokens no_more = []
separator_tokens (tree t more) = token.Sign sign.Semicolon ∷ []
separator_tokens (cells area more) = token.Sign sign.Semicolon ∷ []

-- the tokens of the printed form of a tree, and of arguments
abbrev mutual
  pub tree_tokens : Tree → List Token
  tree_tokens (literal amount u) = token.Numeral amount (short_number (decimal_text amount)) ∷ measure_tokens u
  tree_tokens (unit_one name) = token.Unit name ∷ []
  tree_tokens (flag b) = token.Flag b ∷ []
  tree_tokens (text t) = token.Text t ∷ []
  tree_tokens (path p) = printed_path_tokens p
  tree_tokens (negate a) = token.Sign sign.Minus ∷ bracketed_tokens (fits unary a) (tree_tokens a)
  tree_tokens (binary op a b) =
      bracketed_tokens (fits (binary_level op) a) (tree_tokens a)
      ++ token.Sign (binary_sign op) ∷ bracketed_tokens (fits (right_level op) b) (tree_tokens b)
  tree_tokens (power a n) = bracketed_tokens (fits_as_base a) (tree_tokens a) ++ token.Sign sign.Caret ∷ exponent_tokens n
  tree_tokens (compare op a b) =
      bracketed_tokens (fits sum a) (tree_tokens a) ++ token.Sign (compare_sign op) ∷ bracketed_tokens (fits sum b) (tree_tokens b)
  tree_tokens (conditional c a b) =
      bracketed_tokens (fits comparison c) (tree_tokens c)
      ++ token.Sign sign.Question ∷ (tree_tokens a ++ token.Sign sign.Colon ∷ tree_tokens b)
  tree_tokens (function op a) = call_tokens (function_name op) (tree_tokens a)
  tree_tokens (modulo a b) = call_tokens modulo_name (tree_tokens a ++ token.Sign sign.Semicolon ∷ tree_tokens b)
  tree_tokens (aggregate op all) = call_tokens (aggregate_name op) (argument_tokens all)

  pub argument_tokens : Arguments → List Token
  argument_tokens no_more = []
  argument_tokens (tree t more) = tree_tokens t ++ (separator_tokens more ++ argument_tokens more)
  argument_tokens (cells area more) = area_tokens area ++ (separator_tokens more ++ argument_tokens more)
