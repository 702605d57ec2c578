use Rattle.doc_rules.proofs.VarSetFaults.{too_many-rest}
use Rattle.doc_rules.proofs.limits.has_too_many.Goals as goal

pub returns-else-nodes : goal.returns-else-nodes
returns-else-nodes c =
    too_many-rest c.args.tables.now.document c.holds_var_sets.ensures c.object_count-objects.result c.slot_count-slots.result
    c.node_count-nodes.result c.dependency_count-dependencies.result c.object_count-objects.ensures c.slot_count-slots.ensures
    c.node_count-nodes.ensures c.dependency_count-dependencies.ensures c.if-nodes.false
