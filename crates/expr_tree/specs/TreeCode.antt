-- A tree as the list of its nodes, in the order in which a stack builds it: parts before the whole.
use Rattle.std.specs.Prelude.{◌≡◌, ℕ, ℤ, Bool, false, List, [], ◌∷◌, Option, refl}
use Rattle.std.specs.Coded.{Coded, code_by, coded_list}
use Rattle.std.proofs.Common.{ap, ◌∙◌}
use Rattle.fc_base.specs.Places.{Block}
use Rattle.object_paths.specs.declared.path.Path.{Path}
use Rattle.expr_tree.specs.declared.expr.UnitPower.{UnitPower}
use Rattle.expr_tree.specs.declared.operators.BinaryOp.{BinaryOp}
use Rattle.expr_tree.specs.declared.operators.CompareOp.{CompareOp}
use Rattle.expr_tree.specs.declared.functions.FunctionOp.{FunctionOp}
use Rattle.expr_tree.specs.declared.functions.AggregateOp.{AggregateOp}
use Rattle.expr_tree.specs.Tree.{Tree, literal, unit_one, flag, text, path, negate, binary, power, compare, conditional, function, modulo, aggregate, Arguments, no_more, tree, cells}

-- A node without its parts, or one end or member of a list of arguments.
pub data Mark : Type 0 where
  a_literal : ℤ → Option UnitPower → Mark
  a_unit : List ℕ → Mark
  a_flag : Bool → Mark
  a_text : List ℕ → Mark
  a_path : Path → Mark
  a_negate : Mark
  a_binary : BinaryOp → Mark
  a_power : ℤ → Mark
  a_compare : CompareOp → Mark
  a_conditional : Mark
  a_function : FunctionOp → Mark
  a_modulo : Mark
  an_aggregate : AggregateOp → Mark
  an_end : Mark
  a_tree : Mark
  an_area : Block → Mark

-- a tree's marks, and then the others
abbrev mutual
  pub marks_of : Tree → List Mark → List Mark
  marks_of (literal x u) rest = a_literal x u ∷ rest
  marks_of (unit_one u) rest = a_unit u ∷ rest
  marks_of (flag b) rest = a_flag b ∷ rest
  marks_of (text t) rest = a_text t ∷ rest
  marks_of (path p) rest = a_path p ∷ rest
  marks_of (negate a) rest = marks_of a (a_negate ∷ rest)
  marks_of (binary op a b) rest = marks_of a (marks_of b (a_binary op ∷ rest))
  marks_of (power a n) rest = marks_of a (a_power n ∷ rest)
  marks_of (compare op a b) rest = marks_of a (marks_of b (a_compare op ∷ rest))
  marks_of (conditional c a b) rest = marks_of c (marks_of a (marks_of b (a_conditional ∷ rest)))
  marks_of (function op a) rest = marks_of a (a_function op ∷ rest)
  marks_of (modulo a b) rest = marks_of a (marks_of b (a_modulo ∷ rest))
  marks_of (aggregate op all) rest = marks_of_all all (an_aggregate op ∷ rest)

  pub marks_of_all : Arguments → List Mark → List Mark
  marks_of_all no_more rest = an_end ∷ rest
  marks_of_all (tree t more) rest = marks_of t (marks_of_all more (a_tree ∷ rest))
  marks_of_all (cells area more) rest = marks_of_all more (an_area area ∷ rest)

-- The trees and the lists of arguments that are built and not yet taken.
pub record Stack : Type 0 where
  pub trees : List Tree
  pub arguments : List Arguments

-- a further tree
abbrev pub push : Tree → Stack → Stack
push t s = record { trees = t ∷ s.trees; arguments = s.arguments }

-- a further list of arguments
abbrev pub push_all : Arguments → Stack → Stack
push_all all s = record { trees = s.trees; arguments = all ∷ s.arguments }

-- the last tree, the last two and the last three are parts of a new one
abbrev pub on_one : (Tree → Tree) → List Tree → List Tree
on_one f [] = []
on_one f (a ∷ ts) = f a ∷ ts

abbrev pub on_two : (Tree → Tree → Tree) → List Tree → List Tree
on_two f [] = []
on_two f (b ∷ ts) = on_one (λ a. f a b) ts

abbrev pub on_three : (Tree → Tree → Tree → Tree) → List Tree → List Tree
on_three f [] = []
on_three f (b ∷ ts) = on_two (λ c a. f c a b) ts

-- the last list of arguments is that of a new tree
abbrev pub on_arguments : (Arguments → Tree) → List Tree → List Arguments → Stack
on_arguments f ts [] = record { trees = ts; arguments = [] }
on_arguments f ts (all ∷ more) = record { trees = f all ∷ ts; arguments = more }

-- the last tree is the first argument of the last list
abbrev pub on_tree : List Tree → List Arguments → Stack
on_tree ts [] = record { trees = ts; arguments = [] }
on_tree [] (all ∷ more) = record { trees = []; arguments = all ∷ more }
on_tree (t ∷ ts) (all ∷ more) = record { trees = ts; arguments = tree t all ∷ more }

-- an area is the first argument of the last list
abbrev pub on_area : Block → List Arguments → List Arguments
on_area area [] = []
on_area area (all ∷ more) = cells area all ∷ more

-- trees changed, lists of arguments kept
abbrev pub with_trees : (List Tree → List Tree) → Stack → Stack
with_trees f s = record { trees = f s.trees; arguments = s.arguments }

-- what a mark does to the stack
abbrev pub step : Mark → Stack → Stack
step (a_literal x u) s = push (literal x u) s
step (a_unit u) s = push (unit_one u) s
step (a_flag b) s = push (flag b) s
step (a_text t) s = push (text t) s
step (a_path p) s = push (path p) s
step a_negate s = with_trees (on_one negate) s
step (a_binary op) s = with_trees (on_two (binary op)) s
step (a_power n) s = with_trees (on_one (λ a. power a n)) s
step (a_compare op) s = with_trees (on_two (compare op)) s
step a_conditional s = with_trees (on_three conditional) s
step (a_function op) s = with_trees (on_one (function op)) s
step a_modulo s = with_trees (on_two modulo) s
step (an_aggregate op) s = on_arguments (aggregate op) s.trees s.arguments
step an_end s = push_all no_more s
step a_tree s = on_tree s.trees s.arguments
step (an_area area) s = record { trees = s.trees; arguments = on_area area s.arguments }

-- what marks build, from the left
abbrev pub built : List Mark → Stack → Stack
built [] s = s
built (m ∷ ms) s = built ms (step m s)

-- the tree that is left
abbrev pub top : List Tree → Tree
top [] = flag false
top (t ∷ ts) = t

-- the tree of a list of marks
abbrev pub from_marks : List Mark → Tree
from_marks ms = top (built ms (record { trees = []; arguments = [] })).trees

-- a tree's marks build it on top of what was there
mutual
  pub built-marks_of : (t : Tree) (ms : List Mark) (s : Stack) → built (marks_of t ms) s ≡ built ms (push t s)
  built-marks_of (literal x u) ms s = refl
  built-marks_of (unit_one u) ms s = refl
  built-marks_of (flag b) ms s = refl
  built-marks_of (text t) ms s = refl
  built-marks_of (path p) ms s = refl
  built-marks_of (negate a) ms s = built-marks_of a (a_negate ∷ ms) s
  built-marks_of (binary op a b) ms s = built-marks_of a (marks_of b (a_binary op ∷ ms)) s ∙ built-marks_of b (a_binary op ∷ ms) (push a s)
  built-marks_of (power a n) ms s = built-marks_of a (a_power n ∷ ms) s
  built-marks_of (compare op a b) ms s = built-marks_of a (marks_of b (a_compare op ∷ ms)) s ∙ built-marks_of b (a_compare op ∷ ms) (push a s)
  built-marks_of (conditional c a b) ms s =
      built-marks_of c (marks_of a (marks_of b (a_conditional ∷ ms))) s
      ∙ (built-marks_of a (marks_of b (a_conditional ∷ ms)) (push c s) ∙ built-marks_of b (a_conditional ∷ ms) (push a (push c s)))
  built-marks_of (function op a) ms s = built-marks_of a (a_function op ∷ ms) s
  built-marks_of (modulo a b) ms s = built-marks_of a (marks_of b (a_modulo ∷ ms)) s ∙ built-marks_of b (a_modulo ∷ ms) (push a s)
  built-marks_of (aggregate op all) ms s = built-marks_of_all all (an_aggregate op ∷ ms) s

  pub built-marks_of_all : (all : Arguments) (ms : List Mark) (s : Stack) → built (marks_of_all all ms) s ≡ built ms (push_all all s)
  built-marks_of_all no_more ms s = refl
  built-marks_of_all (tree t more) ms s =
      built-marks_of t (marks_of_all more (a_tree ∷ ms)) s ∙ built-marks_of_all more (a_tree ∷ ms) (push t s)
  built-marks_of_all (cells area more) ms s = built-marks_of_all more (an_area area ∷ ms) s

pub from_marks-marks_of : (t : Tree) → from_marks (marks_of t []) ≡ t
from_marks-marks_of t = ap (λ (s : Stack). top s.trees) (built-marks_of t [] (record { trees = []; arguments = [] }))

-- a tree is stored as its marks
abbrev pub coded_tree : Coded Mark → Coded Tree
coded_tree marks = code_by (List Mark) (coded_list marks) (λ t. marks_of t []) from_marks from_marks-marks_of
