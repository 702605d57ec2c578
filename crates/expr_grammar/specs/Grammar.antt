-- The grammar of expressions: which tree a list of tokens has.
use Rattle.std.specs.Prelude.{◌≡◌, ℕ, ℤ, pos, neg_ℤ, ◌<◌, Bool, List, [], ◌∷◌, ◌++◌, Option, None, Some}
use Rattle.fc_base.specs.Places.{Place, Block, IsBlock, address_of}
use Rattle.object_paths.specs.declared.path.Path.{Path}
use Rattle.expr_tree.specs.declared.expr.UnitPower.{UnitPower}
use Rattle.expr_tree.specs.declared.operators.BinaryOp.{BinaryOp}
use Rattle.expr_tree.specs.declared.operators.BinaryOp.TheVariants.{Plus, Minus, Times, Over, Modulo}
use Rattle.expr_tree.specs.declared.operators.CompareOp.{CompareOp}
use Rattle.expr_tree.specs.declared.operators.CompareOp.TheVariants.{Equal, NotEqual, Less, LessOrEqual, Greater, GreaterOrEqual}
use Rattle.expr_tree.specs.declared.functions.FunctionOp.{FunctionOp}
use Rattle.expr_tree.specs.declared.functions.AggregateOp.{AggregateOp}
use Rattle.expr_tokens.specs.declared.sign.Sign as s
use Rattle.expr_tokens.specs.declared.sign.Sign.TheVariants as sign
use Rattle.expr_tokens.specs.declared.token.Token.{Token}
use Rattle.expr_tokens.specs.declared.token.Token.TheVariants as token
use Rattle.expr_tree.specs.Functions.{function_name, modulo_name, aggregate_name}
use Rattle.expr_grammar.specs.PathTokens.{IsPathOf}
use Rattle.expr_tree.specs.Tree.{Tree, literal, unit_one, flag, text, path, negate, binary, power, compare, conditional, function, modulo, aggregate, Arguments, no_more, tree, cells}

-- The levels of the grammar, loosest first: the precedence of the operators.
pub data Level : Type 0 where
  expression : Level
  comparison : Level
  sum : Level
  term : Level
  unary : Level
  powers : Level
  primary : Level

-- the signs of the operations
abbrev pub binary_sign : BinaryOp → s.Sign
binary_sign Plus = sign.Plus
binary_sign Minus = sign.Minus
binary_sign Times = sign.Asterisk
binary_sign Over = sign.Slash
binary_sign Modulo = sign.Percent

abbrev pub compare_sign : CompareOp → s.Sign
compare_sign Equal = sign.Equal
compare_sign NotEqual = sign.NotEqual
compare_sign Less = sign.Less
compare_sign LessOrEqual = sign.LessOrEqual
compare_sign Greater = sign.Greater
compare_sign GreaterOrEqual = sign.GreaterOrEqual

-- `+` and `-` stand between terms, the others between operands with a minus or none
abbrev pub binary_level : BinaryOp → Level
binary_level Plus = sum
binary_level Minus = sum
binary_level Times = term
binary_level Over = term
binary_level Modulo = term

-- the level of the right operand
abbrev pub right_level : BinaryOp → Level
right_level Plus = term
right_level Minus = term
right_level Times = unary
right_level Over = unary
right_level Modulo = unary

-- one or two digits, and a minus or none
pub data IsExponent : List Token → ℤ → Type 0 where
  plain : (amount : ℤ) (n : ℕ) → n < 100 → IsExponent (token.Numeral amount (Some n) ∷ []) (pos n)
  negative : (amount : ℤ) (n : ℕ) → n < 100 → IsExponent (token.Sign sign.Minus ∷ token.Numeral amount (Some n) ∷ []) (neg_ℤ (pos n))

-- a unit, with an exponent or without
pub data IsUnit : List Token → UnitPower → Type 0 where
  alone : (name : List ℕ) → IsUnit (token.Unit name ∷ []) (record { unit = name; exponent = pos 1 })
  raised : (name : List ℕ) {ts : List Token} {n : ℤ} → IsExponent ts n
      → IsUnit (token.Unit name ∷ token.Sign sign.Caret ∷ ts) (record { unit = name; exponent = n })

-- a corner of an area: an identifier that reads as an address, or a marked address
pub data IsCorner : Token → Place → Type 0 where
  named : (name : List ℕ) (place : Place) → address_of name ≡ Some place → IsCorner (token.Name name) place
  marked : (place : Place) → IsCorner (token.Marked place) place

-- what stands between arguments
pub data IsSeparator : s.Sign → Type 0 where
  semicolon : IsSeparator sign.Semicolon
  comma : IsSeparator sign.Comma

-- a numeral and a unit with no exponent: a `^` behind them is the unit's
abbrev pub IsLoneUnit : List Token → Type 0
IsLoneUnit (token.Unit name ∷ []) = Unit {0}
IsLoneUnit _ = ⊥

abbrev pub HoldsExponent : List Token → Type 0
HoldsExponent (token.Numeral amount number ∷ ts) = IsLoneUnit ts
HoldsExponent _ = ⊥

mutual
  -- the tokens have the tree at the level
  pub data HasTree : Level → List Token → Tree → Type 0 where
    -- each level has what the next tighter one has
    a_comparison : {ts : List Token} {t : Tree} → HasTree comparison ts t → HasTree expression ts t
    a_sum : {ts : List Token} {t : Tree} → HasTree sum ts t → HasTree comparison ts t
    a_term : {ts : List Token} {t : Tree} → HasTree term ts t → HasTree sum ts t
    a_unary : {ts : List Token} {t : Tree} → HasTree unary ts t → HasTree term ts t
    a_power : {ts : List Token} {t : Tree} → HasTree powers ts t → HasTree unary ts t
    a_primary : {ts : List Token} {t : Tree} → HasTree primary ts t → HasTree powers ts t
    -- c ? a : b
    a_conditional : {xs ys zs : List Token} {c a b : Tree} → HasTree comparison xs c → HasTree expression ys a → HasTree expression zs b
        → HasTree expression (xs ++ token.Sign sign.Question ∷ (ys ++ token.Sign sign.Colon ∷ zs)) (conditional c a b)
    -- a < b
    a_compare : (op : CompareOp) {xs ys : List Token} {a b : Tree} → HasTree sum xs a → HasTree sum ys b
        → HasTree comparison (xs ++ token.Sign (compare_sign op) ∷ ys) (compare op a b)
    -- a + b, a * b
    a_binary : (op : BinaryOp) {xs ys : List Token} {a b : Tree} → HasTree (binary_level op) xs a → HasTree (right_level op) ys b
        → HasTree (binary_level op) (xs ++ token.Sign (binary_sign op) ∷ ys) (binary op a b)
    -- -a
    a_negate : {ts : List Token} {t : Tree} → HasTree unary ts t → HasTree unary (token.Sign sign.Minus ∷ ts) (negate t)
    -- a^2
    a_raised : {ts ns : List Token} {t : Tree} {n : ℤ} → HasTree powers ts t → (HoldsExponent ts → ⊥) → IsExponent ns n
        → HasTree powers (ts ++ token.Sign sign.Caret ∷ ns) (power t n)
    -- 2, 2 mm, 2 mm^2
    a_numeral : (amount : ℤ) (number : Option ℕ) → HasTree primary (token.Numeral amount number ∷ []) (literal amount None)
    a_measure : (amount : ℤ) (number : Option ℕ) {ts : List Token} {u : UnitPower} → IsUnit ts u
        → HasTree primary (token.Numeral amount number ∷ ts) (literal amount (Some u))
    -- mm, true, <<text>>
    a_unit : (name : List ℕ) → HasTree primary (token.Unit name ∷ []) (unit_one name)
    a_flag : (b : Bool) → HasTree primary (token.Flag b ∷ []) (flag b)
    a_text : (t : List ℕ) → HasTree primary (token.Text t ∷ []) (text t)
    a_path : {ts : List Token} {p : Path} → IsPathOf ts p → HasTree primary ts (path p)
    -- (a)
    in_brackets : {ts : List Token} {t : Tree} → HasTree expression ts t
        → HasTree primary (token.Sign sign.Open ∷ (ts ++ token.Sign sign.Close ∷ [])) t
    -- floor(a), mod(a; b), sum(a; A1:B2)
    a_function : (op : FunctionOp) {ts : List Token} {t : Tree} → HasTree expression ts t
        → HasTree primary (token.Function (function_name op) ∷ token.Sign sign.Open ∷ (ts ++ token.Sign sign.Close ∷ [])) (function op t)
    a_modulo : (between : s.Sign) → IsSeparator between → {xs ys : List Token} {a b : Tree} → HasTree expression xs a → HasTree expression ys b
        → HasTree primary (token.Function modulo_name ∷ token.Sign sign.Open ∷ (xs ++ token.Sign between ∷ (ys ++ token.Sign sign.Close ∷ []))) (modulo a b)
    an_aggregate : (op : AggregateOp) {ts : List Token} {all : Arguments} → HasArguments ts all
        → HasTree primary (token.Function (aggregate_name op) ∷ token.Sign sign.Open ∷ (ts ++ token.Sign sign.Close ∷ [])) (aggregate op all)

  -- the tokens are the arguments, one at least, with signs between them
  pub data HasArguments : List Token → Arguments → Type 0 where
    one_tree : {ts : List Token} {t : Tree} → HasTree expression ts t → HasArguments ts (tree t no_more)
    more_trees : (between : s.Sign) → IsSeparator between → {ts us : List Token} {t : Tree} {all : Arguments} → HasTree expression ts t → HasArguments us all
        → HasArguments (ts ++ token.Sign between ∷ us) (tree t all)
    one_area : (area : Block) {x y : Token} → IsCorner x area.from → IsCorner y area.to → IsBlock area
        → HasArguments (x ∷ token.Sign sign.Colon ∷ y ∷ []) (cells area no_more)
    more_areas : (between : s.Sign) → IsSeparator between → (area : Block) {x y : Token} {us : List Token} {all : Arguments}
        → IsCorner x area.from → IsCorner y area.to → IsBlock area → HasArguments us all
        → HasArguments (x ∷ token.Sign sign.Colon ∷ y ∷ token.Sign between ∷ us) (cells area all)

-- the tokens have one tree at a level, at most
abbrev pub HaveOneTree : Type 0
HaveOneTree = (l : Level) (ts : List Token) (t u : Tree) → HasTree l ts t → HasTree l ts u → t ≡ u
