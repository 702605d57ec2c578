use Rattle.doc_rules.proofs.SlotLemmas.{type-fits}
use Rattle.doc_rules.proofs.slot_edits.value_given.Goals as goal

pub value_fitted-requires : goal.value_fitted-requires
value_fitted-requires c = type-fits c.args.tables.now c.holds_var_sets.ensures (λ p. p.now) c.type_of.result c.args.slot.0 c.type_of.ensures
