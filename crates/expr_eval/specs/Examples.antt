-- Expressions worked out.
use Rattle.std.specs.Prelude.{◌≡◌, ℕ, ◌*◌, ℤ, pos, negsuc, true, false, List, [], ◌∷◌, None, Some, Ok, Err, codes}
use Rattle.unit_signatures.specs.Units.{pure}
use Rattle.property_types.specs.declared.prop_type.Sort.TheVariants as sort
use Rattle.property_types.specs.declared.value.ValueFault.TheVariants.{Range, DivideByZero, EmptyAggregate}
use Rattle.property_types.specs.declared.value.Value.TheVariants as value
use Rattle.property_types.specs.Types.{unit_of}
use Rattle.property_types.specs.Values.{Outcome}
use Rattle.fc_base.specs.Places.{Block}
use Rattle.expr_tree.specs.declared.operators.BinaryOp.TheVariants.{Plus, Over}
use Rattle.expr_tree.specs.declared.operators.CompareOp.TheVariants.{Equal, Less}
use Rattle.expr_tree.specs.declared.functions.AggregateOp.TheVariants.{Sum, Average, Count}
use Rattle.expr_tree.specs.Tree.{Tree, literal, flag, negate, binary, power, compare, conditional, aggregate, no_more, tree, cells}
use Rattle.expr_eval.specs.declared.sort_cause.SortCause.TheVariants.{UnitMismatch, KindMismatch}
use Rattle.expr_eval.specs.Sorts.{SortReading, sort_of}
use Rattle.expr_eval.specs.Outcomes.{Reading, outcome_of}
use Rattle.expr_eval.specs.Visited.{visited}

-- a whole number, and a whole number of a unit
abbrev pub whole : ℕ → Tree
whole n = literal (pos (n * 1000000000)) None

abbrev pub of_unit : ℕ → List ℕ → Tree
of_unit n name = literal (pos (n * 1000000000)) (Some (record { unit = name; exponent = pos 1 }))

-- a number that is an outcome
abbrev pub number : ℤ → List ℤ → Outcome
number raw unit = Ok (value.Number (record { amount = raw; unit = unit }))

abbrev pub mm : List ℤ
mm = unit_of (pos 1) (pos 0) (pos 0) (pos 0)

-- a division by zero, and a number beyond the bound
abbrev pub by_zero : Tree
by_zero = binary Over (whole 1) (whole 0)

abbrev pub beyond : Tree
beyond = binary Plus (whole 10000000000000000000) (whole 1)

-- an area of two cells, 3 and one that has the fault Range; its sorts
abbrev pub two_cells : Reading
two_cells = record { at = λ k. Err Range; inside = λ k. number (pos 3000000000) pure ∷ Err Range ∷ [] }

abbrev pub two_sorts : SortReading
two_sorts = record { at = λ k. Err KindMismatch; inside = λ k. Ok (sort.Number pure) ∷ Ok (sort.Number pure) ∷ [] }

-- an area without filled cells
abbrev pub no_cells : Reading
no_cells = record { at = λ k. Err Range; inside = λ k. [] }

-- what these expressions have, at any area
pub record ExpressionsWork (area : Block) : Type 0 where
  pub minus_two_squared : outcome_of no_cells 0 (negate (power (whole 2) (pos 2))) ≡ number (negsuc 3999999999) pure
  pub lengths_are_added : outcome_of no_cells 0 (binary Plus (of_unit 1 (codes "m")) (of_unit 2 (codes "mm"))) ≡ number (pos 1002000000000) mm
  pub length_and_number : sort_of two_sorts 0 (binary Plus (of_unit 1 (codes "mm")) (whole 2)) ≡ Err UnitMismatch
  pub operands_come_first : sort_of two_sorts 0 (binary Plus (flag true) (binary Plus (of_unit 1 (codes "mm")) (whole 2))) ≡ Err UnitMismatch
  pub equal_units_wanted : sort_of two_sorts 0 (compare Equal (of_unit 1 (codes "mm")) (whole 2)) ≡ Err UnitMismatch
  pub chosen_arm_alone : outcome_of no_cells 0 (conditional (flag true) (whole 2) by_zero) ≡ number (pos 2000000000) pure
  pub left_fault_first : outcome_of no_cells 0 (binary Plus by_zero beyond) ≡ Err DivideByZero
  pub later_item_before_sum : outcome_of no_cells 0 (aggregate Sum (tree (whole 10000000000000000000) (tree (whole 1) (tree by_zero no_more)))) ≡ Err DivideByZero
  pub faulted_cell_counts : outcome_of two_cells 0 (aggregate Count (cells area no_more)) ≡ Err Range
  pub average_of_none : outcome_of no_cells 0 (aggregate Average (cells area no_more)) ≡ Err EmptyAggregate
  pub sum_of_none : outcome_of no_cells 0 (aggregate Sum (cells area no_more)) ≡ number (pos 0) pure
  pub sort_of_cells : sort_of two_sorts 0 (aggregate Sum (cells area (tree (of_unit 1 (codes "mm")) no_more))) ≡ Err UnitMismatch
  pub chosen_arm_is_visited : visited no_cells 0 (conditional (flag true) (whole 2) by_zero) ≡ 3
  pub other_arm_is_visited : visited no_cells 0 (conditional (flag false) (whole 2) by_zero) ≡ 5
  pub no_arm_behind_fault : visited no_cells 0 (conditional (compare Less by_zero (whole 1)) (whole 2) by_zero) ≡ 6
  pub no_arm_behind_number : visited no_cells 0 (conditional (whole 1) (whole 2) by_zero) ≡ 2
  pub operand_behind_fault : visited no_cells 0 (binary Plus by_zero beyond) ≡ 7
  pub cells_are_not_visited : visited two_cells 0 (aggregate Count (cells area (tree (whole 1) no_more))) ≡ 2
