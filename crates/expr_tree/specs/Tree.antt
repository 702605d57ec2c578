-- Expressions as trees.
use Rattle.std.specs.Prelude.{ℕ, ℤ, Bool, List, Option}
use Rattle.fc_base.specs.Places.{Block}
use Rattle.object_paths.specs.declared.path.Path.{Path}
use Rattle.expr_tree.specs.declared.expr.UnitPower.{UnitPower}
use Rattle.expr_tree.specs.declared.operators.BinaryOp.{BinaryOp}
use Rattle.expr_tree.specs.declared.operators.CompareOp.{CompareOp}
use Rattle.expr_tree.specs.declared.functions.FunctionOp.{FunctionOp}
use Rattle.expr_tree.specs.declared.functions.AggregateOp.{AggregateOp}

mutual
  -- A tree: what stands at the top, over the trees of its parts.
  pub data Tree : Type 0 where
    literal : ℤ → Option UnitPower → Tree
    unit_one : List ℕ → Tree
    flag : Bool → Tree
    text : List ℕ → Tree
    path : Path → Tree
    negate : Tree → Tree
    binary : BinaryOp → Tree → Tree → Tree
    power : Tree → ℤ → Tree
    compare : CompareOp → Tree → Tree → Tree
    conditional : Tree → Tree → Tree → Tree
    function : FunctionOp → Tree → Tree
    modulo : Tree → Tree → Tree
    aggregate : AggregateOp → Arguments → Tree

  -- The arguments of an aggregate, from the left: expressions and areas.
  pub data Arguments : Type 0 where
    no_more : Arguments
    tree : Tree → Arguments → Arguments
    cells : Block → Arguments → Arguments
