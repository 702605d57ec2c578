use Rattle.std.proofs.Common.{◌≡◌, ◌++◌, map, take}
use Rattle.property_types.specs.declared.value.ValueFault.TheVariants.{OutOfType}
use Rattle.expr_eval.specs.Numbers.{number_of}
use Rattle.expr_eval.proofs.evaluation.push_cells.Given as goal

-- the numbers of the cells before the index are added
abbrev pub invariant-loop-cell : goal.invariant-loop-cell
invariant-loop-cell g l =
    l.items.items ≡ l.initial.items.items ++ map (number_of OutOfType) (map (g.E.OutcomeEnv.cell_outcome l.env) (take l.cell-index l.cell-items))
