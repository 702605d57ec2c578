-- The trees whose leaves a text can spell.
use Rattle.std.specs.Prelude.{ℕ, ℤ, pos, negsuc, Bool, ◌&&◌, not, List, Option, None, Some, is_some, int_le, IsTrue}
use Rattle.fc_base.specs.Places.{IsPlace, Block, IsBlock}
use Rattle.fc_base.specs.Texts.{is_text_value, has_closing_mark, ends_in_mark}
use Rattle.unit_signatures.specs.Table.{unit_named}
use Rattle.quantities.specs.Amounts.{IsAmount}
use Rattle.object_paths.specs.Paths.{IsPath}
use Rattle.expr_tree.specs.declared.expr.UnitPower.{UnitPower}
use Rattle.expr_tree.specs.Tree.{Tree, literal, unit_one, flag, text, path, negate, binary, power, compare, conditional, function, modulo, aggregate, Arguments, no_more, tree, cells}

-- at most two digits, and a minus or none
abbrev pub is_exponent : ℤ → Bool
is_exponent n = int_le (negsuc 98) n && int_le n (pos 99)

-- a name that the table of units has
abbrev pub is_unit_name : List ℕ → Bool
is_unit_name name = is_some (unit_named name)

-- no unit, or one of the table and an exponent
abbrev pub IsUnitPower : Option UnitPower → Type 0
IsUnitPower None = Unit {0}
IsUnitPower (Some u) = IsTrue (is_unit_name u.unit) × IsTrue (is_exponent u.exponent)

-- an amount that is not negative, since a numeral has no sign
pub record IsNumeral (raw : ℤ) : Type 0 where
  pub amount : IsAmount raw
  pub not_negative : IsTrue (int_le (pos 0) raw)

-- a text value between `<<` and the first `>>` behind it
abbrev pub is_quotable : List ℕ → Bool
is_quotable t = is_text_value t && not (has_closing_mark t) && not (ends_in_mark t)

-- an area whose corners are places
pub record IsArea (area : Block) : Type 0 where
  pub from : IsPlace area.from
  pub to : IsPlace area.to
  pub corners : IsBlock area

-- each leaf, exponent and list of arguments can be spelled; an aggregate has an argument
abbrev mutual
  pub IsSpelled : Tree → Type 0
  IsSpelled (literal x u) = IsNumeral x × IsUnitPower u
  IsSpelled (unit_one u) = IsTrue (is_unit_name u)
  IsSpelled (flag b) = Unit {0}
  IsSpelled (text t) = IsTrue (is_quotable t)
  IsSpelled (path p) = IsPath p
  IsSpelled (negate a) = IsSpelled a
  IsSpelled (binary op a b) = IsSpelled a × IsSpelled b
  IsSpelled (power a n) = IsSpelled a × IsTrue (is_exponent n)
  IsSpelled (compare op a b) = IsSpelled a × IsSpelled b
  IsSpelled (conditional c a b) = IsSpelled c × IsSpelled a × IsSpelled b
  IsSpelled (function op a) = IsSpelled a
  IsSpelled (modulo a b) = IsSpelled a × IsSpelled b
  IsSpelled (aggregate op no_more) = ⊥
  IsSpelled (aggregate op (tree t more)) = IsSpelled t × AreSpelled more
  IsSpelled (aggregate op (cells area more)) = IsArea area × AreSpelled more

  pub AreSpelled : Arguments → Type 0
  AreSpelled no_more = Unit {0}
  AreSpelled (tree t more) = IsSpelled t × AreSpelled more
  AreSpelled (cells area more) = IsArea area × AreSpelled more
