-- Arguments behind others, one by one.
use Rattle.std.proofs.Common.{◌≡◌, List, [], ◌∷◌, ◌++◌, refl, ap}
use Rattle.expr_tree.specs.declared.expr.Argument.{Argument}
use Rattle.expr_tree.specs.declared.expr.Argument.TheVariants as argument
use Rattle.expr_tree.specs.Joined.{with_argument, joined}
use Rattle.expr_tree.specs.NodesAsTrees.{arguments_of}
use Rattle.expr_tree.specs.Tree.{Arguments, no_more, tree, cells}

pub joined-append : (xs : List Argument) (x : Argument) (more : Arguments) → joined (xs ++ x ∷ []) more ≡ joined xs (with_argument x more)
joined-append [] x more = refl
joined-append (y ∷ xs) x more = ap (with_argument y) (joined-append xs x more)

pub joined-no_more : (xs : List Argument) → joined xs no_more ≡ arguments_of xs
joined-no_more [] = refl
joined-no_more (argument.Tree t ∷ xs) = ap (tree t) (joined-no_more xs)
joined-no_more (argument.Cells area ∷ xs) = ap (cells area) (joined-no_more xs)
