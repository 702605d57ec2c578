use Rattle.std.proofs.Common.{sym, ◌∙◌}
use Rattle.worked_documents.proofs.PropertyLemmas.{unresolved-lacks, nothing-numbered}
use Rattle.worked_documents.proofs.building.add_slot.Goals as goal

pub add_property-requires-clause-new_name : goal.add_property-requires-clause-new_name
add_property-requires-clause-new_name c =
    unresolved-lacks c.args.tables.now c.holds_var_sets.ensures c.in_ok-name.name c.in-Some.object.0 c.in_ok-path.path c.in_ok-path.ensures
    (nothing-numbered c.args.tables.now c.resolve.result _ c.resolve.ensures (sym c.is_some.ensures ∙ c.if-is_some.false))
