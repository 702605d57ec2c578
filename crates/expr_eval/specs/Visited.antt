-- How many nodes an evaluation visits.
use Rattle.std.specs.Prelude.{ℕ, ◌+◌, ◌≤◌, Bool, true, false, Result, Ok, Err}
use Rattle.property_types.specs.declared.value.ValueFault.{ValueFault}
use Rattle.property_types.specs.declared.value.ValueFault.TheVariants.{OutOfType}
use Rattle.expr_tree.specs.Nodes.{node_count}
use Rattle.expr_tree.specs.References.{reference_count}
use Rattle.expr_tree.specs.Tree.{Tree, literal, unit_one, flag, text, path, negate, binary, power, compare, conditional, function, modulo, aggregate, Arguments, no_more, tree, cells}
use Rattle.expr_eval.specs.Numbers.{flag_of}
use Rattle.expr_eval.specs.Outcomes.{Reading, outcome_of}

-- The visits of the arm that a condition chooses: the first where the flag is set, the second where it
-- is not. Where the condition is a fault, or no flag, neither arm is visited.
abbrev pub arm_visits : Result Bool ValueFault → ℕ → ℕ → ℕ
arm_visits (Ok true) first second = first
arm_visits (Ok false) first second = second
arm_visits (Err fault) first second = 0

-- How many nodes are visited of a tree whose first reference is the k-th: the tree's own node, and of
-- an operation all operands, also behind one with a fault; of a conditional the condition and the arm
-- that it chooses. And how many are visited of arguments: those of each expression, and none of an area.
abbrev mutual
  pub visited : Reading → ℕ → Tree → ℕ
  visited r k (literal x u) = 1
  visited r k (unit_one u) = 1
  visited r k (flag b) = 1
  visited r k (text t) = 1
  visited r k (path p) = 1
  visited r k (negate a) = visited r k a + 1
  visited r k (binary op a b) = visited r k a + visited r (k + reference_count a) b + 1
  visited r k (power a n) = visited r k a + 1
  visited r k (compare op a b) = visited r k a + visited r (k + reference_count a) b + 1
  visited r k (conditional c a b) =
      visited r k c
      + arm_visits (flag_of OutOfType (outcome_of r k c)) (visited r (k + reference_count c) a)
      (visited r (k + reference_count c + reference_count a) b)
      + 1
  visited r k (function op a) = visited r k a + 1
  visited r k (modulo a b) = visited r k a + visited r (k + reference_count a) b + 1
  visited r k (aggregate op all) = visited_arguments r k all + 1

  pub visited_arguments : Reading → ℕ → Arguments → ℕ
  visited_arguments r k no_more = 0
  visited_arguments r k (tree t more) = visited r k t + visited_arguments r (k + reference_count t) more
  visited_arguments r k (cells area more) = visited_arguments r (k + 1) more

-- the root is visited, and no more nodes than there are
pub record AreVisitsWithin (r : Reading) (k : ℕ) (t : Tree) : Type 0 where
  pub at_least_one : 1 ≤ visited r k t
  pub at_most_all : visited r k t ≤ node_count t

abbrev pub VisitsAreWithin : Type 0
VisitsAreWithin = (r : Reading) (k : ℕ) (t : Tree) → AreVisitsWithin r k t
