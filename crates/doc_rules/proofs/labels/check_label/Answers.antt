use Rattle.doc_rules.proofs.LabelNumbers.{taken-told}
use Rattle.doc_rules.proofs.labels.check_label.Goals as goal

pub returns-then-has_taken_label : goal.returns-then-has_taken_label
returns-then-has_taken_label c =
    taken-told c.args.tables.now c.args.object.0 c.name_of.result.now c.object_fault.result c.name_of.ensures c.if-has_taken_label.ensures
    c.object_fault.ensures
