use Rattle.std.proofs.Common.{◌≡◌, ◌++◌, map, take}
use Rattle.expr_eval.proofs.sorts.push_cell_sorts.Given as goal

-- the sorts of the cells before the index are added
abbrev pub invariant-loop-cell : goal.invariant-loop-cell
invariant-loop-cell g l = l.items.items ≡ l.initial.items.items ++ map (g.E.SortEnv.cell_sort l.env) (take l.cell-index l.cell-items)
