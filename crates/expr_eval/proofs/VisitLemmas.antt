-- The root is visited, and no more nodes than there are.
use Rattle.std.proofs.Common.{ℕ, ◌+◌, ◌≤◌, Bool, true, false, Ok, Err, arith}
use Rattle.std.specs.Prelude.{Result}
use Rattle.property_types.specs.declared.value.ValueFault.{ValueFault}
use Rattle.property_types.specs.declared.value.ValueFault.TheVariants.{OutOfType}
use Rattle.expr_tree.specs.Nodes.{node_count, argument_nodes}
use Rattle.expr_tree.specs.References.{reference_count}
use Rattle.expr_tree.specs.Tree.{Tree, literal, unit_one, flag, text, path, negate, binary, power, compare, conditional, function, modulo, aggregate, Arguments, no_more, tree, cells}
use Rattle.expr_eval.specs.Numbers.{flag_of}
use Rattle.expr_eval.specs.Outcomes.{Reading, outcome_of}
use Rattle.expr_eval.specs.Visited.{arm_visits, visited, visited_arguments, AreVisitsWithin}

-- the arm that is chosen is visited no more than both
arm-le : (c : Result Bool ValueFault) (a b m n : ℕ) → a ≤ m → b ≤ n → arm_visits c a b ≤ m + n
arm-le (Ok true) a b m n first second = omega arith
arm-le (Ok false) a b m n first second = omega arith
arm-le (Err fault) a b m n first second = omega arith

module _ (r : Reading) where
  mutual
    pub visited-le : (k : ℕ) (t : Tree) → visited r k t ≤ node_count t
    visited-le k (literal x u) = omega arith
    visited-le k (unit_one u) = omega arith
    visited-le k (flag b) = omega arith
    visited-le k (text t) = omega arith
    visited-le k (path p) = omega arith
    visited-le k (negate a) = let one = visited-le k a in omega arith
    visited-le k (binary op a b) = let one = visited-le k a in let two = visited-le (k + reference_count a) b in omega arith
    visited-le k (power a n) = let one = visited-le k a in omega arith
    visited-le k (compare op a b) = let one = visited-le k a in let two = visited-le (k + reference_count a) b in omega arith
    visited-le k (conditional c a b) =
        let one = visited-le k c in
        let arms =
        arm-le (flag_of OutOfType (outcome_of r k c)) (visited r (k + reference_count c) a) (visited r (k + reference_count c + reference_count a) b)
        (node_count a) (node_count b) (visited-le (k + reference_count c) a) (visited-le (k + reference_count c + reference_count a) b) in
        omega arith
    visited-le k (function op a) = let one = visited-le k a in omega arith
    visited-le k (modulo a b) = let one = visited-le k a in let two = visited-le (k + reference_count a) b in omega arith
    visited-le k (aggregate op all) = let one = visited_arguments-le k all in omega arith

    pub visited_arguments-le : (k : ℕ) (all : Arguments) → visited_arguments r k all ≤ argument_nodes all
    visited_arguments-le k no_more = omega arith
    visited_arguments-le k (tree t more) = let one = visited-le k t in let two = visited_arguments-le (k + reference_count t) more in omega arith
    visited_arguments-le k (cells area more) = visited_arguments-le (k + 1) more

  pub one-visited : (k : ℕ) (t : Tree) → 1 ≤ visited r k t
  one-visited k (literal x u) = omega arith
  one-visited k (unit_one u) = omega arith
  one-visited k (flag b) = omega arith
  one-visited k (text t) = omega arith
  one-visited k (path p) = omega arith
  one-visited k (negate a) = omega arith
  one-visited k (binary op a b) = omega arith
  one-visited k (power a n) = omega arith
  one-visited k (compare op a b) = omega arith
  one-visited k (conditional c a b) = omega arith
  one-visited k (function op a) = omega arith
  one-visited k (modulo a b) = omega arith
  one-visited k (aggregate op all) = omega arith

  pub visited-within : (k : ℕ) (t : Tree) → AreVisitsWithin r k t
  visited-within k t = record { at_least_one = one-visited k t; at_most_all = visited-le k t }
