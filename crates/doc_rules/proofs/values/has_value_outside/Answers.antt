use Rattle.std.proofs.Common.{sym, ap, ◌∙◌, Bor}
use Rattle.std.specs.Option.{option_map}
use Rattle.property_types.specs.declared.prop_type.PropType.{PropType}
use Rattle.doc_rules.proofs.VarSetFaults.{type_at-one_slot}
use Rattle.doc_rules.proofs.values.has_value_outside.Goals as goal

pub fit-requires : goal.fit-requires
fit-requires c =
    type_at-one_slot c.args.tables.now c.holds_var_sets.ensures c.args.slot.0 c.in-Some.prop.now
    (sym c.type_of.ensures ∙ ap (option_map (λ (p : Bor PropType). p.now)) c.in-Some.is)
