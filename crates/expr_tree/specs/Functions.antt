-- The names of functions.
use Rattle.std.specs.Prelude.{ℕ, Bool, ◌||◌, List, codes, is_some, Option, None, Some, if◌then◌else◌}
use Rattle.std.specs.Str.{bytes_eq}
use Rattle.expr_tree.specs.declared.functions.FunctionOp.{FunctionOp}
use Rattle.expr_tree.specs.declared.functions.FunctionOp.TheVariants.{Abs, Ceil, Floor, Round, Trunc}
use Rattle.expr_tree.specs.declared.functions.AggregateOp.{AggregateOp}
use Rattle.expr_tree.specs.declared.functions.AggregateOp.TheVariants.{Sum, Average, Count, Min, Max}

-- the functions of one number
abbrev pub function_name : FunctionOp → List ℕ
function_name Abs = codes "abs"
function_name Ceil = codes "ceil"
function_name Floor = codes "floor"
function_name Round = codes "round"
function_name Trunc = codes "trunc"

-- the function of two numbers
abbrev pub modulo_name : List ℕ
modulo_name = codes "mod"

-- the functions of many numbers
abbrev pub aggregate_name : AggregateOp → List ℕ
aggregate_name Sum = codes "sum"
aggregate_name Average = codes "average"
aggregate_name Count = codes "count"
aggregate_name Min = codes "min"
aggregate_name Max = codes "max"

-- the function of that name
abbrev pub function_named : List ℕ → Option FunctionOp
function_named name =
    if bytes_eq name (codes "abs") then Some Abs
    else (if bytes_eq name (codes "ceil") then Some Ceil
    else (if bytes_eq name (codes "floor") then Some Floor
    else (if bytes_eq name (codes "round") then Some Round
    else (if bytes_eq name (codes "trunc") then Some Trunc else None))))

abbrev pub aggregate_named : List ℕ → Option AggregateOp
aggregate_named name =
    if bytes_eq name (codes "sum") then Some Sum
    else (if bytes_eq name (codes "average") then Some Average
    else (if bytes_eq name (codes "count") then Some Count
    else (if bytes_eq name (codes "min") then Some Min
    else (if bytes_eq name (codes "max") then Some Max else None))))

-- a function has that name
unfoldable pub is_function_name : List ℕ → Bool
is_function_name name = is_some (function_named name) || bytes_eq name modulo_name || is_some (aggregate_named name)
