use Rattle.std.proofs.Common.{refl}
use Rattle.unit_signatures.specs.Table.{unit_named}
use Rattle.quantities.specs.Arithmetic.{nearest, repeated}
use Rattle.expr_eval.proofs.laws.expressions_work.Goals as goal

-- all of it is computed
pub returns : goal.returns
unfolding unit_named nearest repeated
returns c = λ area. record { minus_two_squared = refl; lengths_are_added = refl; length_and_number = refl; operands_come_first = refl; equal_units_wanted = refl; chosen_arm_alone = refl; left_fault_first = refl; later_item_before_sum = refl; faulted_cell_counts = refl; average_of_none = refl; sum_of_none = refl; sort_of_cells = refl; chosen_arm_is_visited = refl; other_arm_is_visited = refl; no_arm_behind_fault = refl; no_arm_behind_number = refl; operand_behind_fault = refl; cells_are_not_visited = refl }
