use Rattle.std.proofs.Common.{Err}
use Rattle.std.proofs.lemmas.Result.{err_from_is_err_and}
use Rattle.document_outcomes.specs.Faults.{label_faults, reference_faults, sort_faults}
use Rattle.doc_rules.proofs.FirstLemmas.{meets-none}
use Rattle.doc_rules.proofs.CycleNumbers.{ordered-no_fault}
use Rattle.doc_rules.proofs.ChainLemmas.{labels-stop, labels-past, references-stop, references-past, cycles-stop, cycles-past, sorts-stop, sorts-past}
use Rattle.doc_rules.proofs.checking.check_within_limits.Goals as goal

pub returns-in_err-check_labels : goal.returns-in_err-check_labels
returns-in_err-check_labels c =
    let d = c.args.tables.now.document in
    let p = err_from_is_err_and c.from_residual.result c.from_residual.ensures.1 in
    rw (p.1, p.2) (labels-stop d c.in_err-check_labels.field-0.0 c.in_err-check_labels.ensures)

pub returns-in_err-check_references : goal.returns-in_err-check_references
returns-in_err-check_references c =
    let d = c.args.tables.now.document in
    let p = err_from_is_err_and c.from_residual-in_err-check_references.result c.from_residual-in_err-check_references.ensures.1 in
    rw (p.1, p.2)
    (labels-past d (Err c.in_err-check_references.field-0.0) c.holds_var_sets.ensures (meets-none (label_faults d) tt c.in_ok-check_labels.ensures)
    (references-stop d c.in_err-check_references.field-0.0 c.in_err-check_references.ensures))

pub returns-in_err-order : goal.returns-in_err-order
returns-in_err-order c =
    let d = c.args.tables.now.document in
    let p = err_from_is_err_and c.from_residual-in_err-order.result c.from_residual-in_err-order.ensures.1 in
    rw (p.1, p.2)
    (labels-past d (Err c.in_err-order.field-0.0) c.holds_var_sets.ensures (meets-none (label_faults d) tt c.in_ok-check_labels.ensures)
    (references-past d (Err c.in_err-order.field-0.0) (meets-none (reference_faults d) tt c.in_ok-check_references.ensures) (cycles-stop d c.in_err-order.field-0.0 c.in_err-order.ensures)))

pub returns-in_err-check_sorts : goal.returns-in_err-check_sorts
returns-in_err-check_sorts c =
    let d = c.args.tables.now.document in
    let p = err_from_is_err_and c.from_residual-in_err-check_sorts.result c.from_residual-in_err-check_sorts.ensures.1 in
    rw (p.1, p.2)
    (labels-past d (Err c.in_err-check_sorts.field-0.0) c.holds_var_sets.ensures (meets-none (label_faults d) tt c.in_ok-check_labels.ensures)
    (references-past d (Err c.in_err-check_sorts.field-0.0) (meets-none (reference_faults d) tt c.in_ok-check_references.ensures)
    (cycles-past d (Err c.in_err-check_sorts.field-0.0) (ordered-no_fault c.args.tables.now c.in_ok-order.order.items c.in_ok-order.ensures) (sorts-stop d c.in_err-check_sorts.field-0.0 c.in_err-check_sorts.ensures))))

pub returns : goal.returns
returns c =
    let d = c.args.tables.now.document in
    labels-past d c.check_values.result c.holds_var_sets.ensures (meets-none (label_faults d) tt c.in_ok-check_labels.ensures)
    (references-past d c.check_values.result (meets-none (reference_faults d) tt c.in_ok-check_references.ensures)
    (cycles-past d c.check_values.result (ordered-no_fault c.args.tables.now c.in_ok-order.order.items c.in_ok-order.ensures)
    (sorts-past d c.check_values.result (meets-none (sort_faults d) tt c.in_ok-check_sorts.ensures) c.check_values.ensures)))
