use Rattle.std.proofs.Common.{sym, ap, ◌∙◌}
use Rattle.std.specs.Option.{option_map}
use Rattle.property_types.specs.declared.prop_type.PropType.{PropType}
use Rattle.std.proofs.Common.{Bor}
use Rattle.doc_rules.proofs.VarSetFaults.{type_at-one_slot}
use Rattle.doc_rules.proofs.sorts.wanted_sort.Goals as goal

pub map-requires : goal.map-requires
map-requires c = λ prop is _ _ _ placed.
    type_at-one_slot c.args.tables.now c.holds_var_sets.ensures c.args.slot.0 prop.now
    (sym c.type_of.ensures ∙ ap (option_map (λ (p : Bor PropType). p.now)) is) placed
