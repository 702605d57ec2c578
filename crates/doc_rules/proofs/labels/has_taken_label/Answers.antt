use Rattle.std.proofs.Common.{nat_eq, Some, refl, ap, ◌∙◌}
use Rattle.doc_rules.proofs.LabelNumbers.{taken-by_number}
use Rattle.doc_rules.proofs.labels.has_taken_label.Goals as goal

pub returns-in-Some : goal.returns-in-Some
returns-in-Some c =
    c.ne.ensures
    ∙ taken-by_number c.args.tables.now c.is_numbered.ensures c.args.object.0 c.as_str.result.now c.in-Some.first
    (nat_eq c.in-Some.first.0 c.args.object.0) c.requires (ap Some c.as_str.ensures.text ∙ c.label_of.ensures) c.in-Some.ensures refl
