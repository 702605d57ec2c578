-- Arguments in front of others.
use Rattle.std.specs.Prelude.{List, [], ◌∷◌}
use Rattle.expr_tree.specs.declared.expr.Argument.{Argument}
use Rattle.expr_tree.specs.declared.expr.Argument.TheVariants as argument
use Rattle.expr_tree.specs.Tree.{Arguments, tree, cells}

-- an argument in front of others
abbrev pub with_argument : Argument → Arguments → Arguments
with_argument (argument.Tree t) more = tree t more
with_argument (argument.Cells area) more = cells area more

-- arguments, and others behind them
abbrev pub joined : List Argument → Arguments → Arguments
joined [] more = more
joined (x ∷ xs) more = with_argument x (joined xs more)
