use Rattle.std.proofs.Common.{ap, subst, ◌∙◌}
use Rattle.document_model.specs.Edited.{with_content}
use Rattle.doc_tables.specs.Numbered.{Numbered, LeadsTo, slot_at}
use Rattle.doc_rules.proofs.slot_edits.with_content.Goals as goal

pub returns : goal.returns
returns c = λ s at.
    subst (λ (t : Numbered). LeadsTo t c.set_rule.new.self (with_content t.document s c.args.content)) c.in_ok-edited.ensures
    (c.in_ok-set_rule.ensures.set s (ap (λ (t : Numbered). slot_at t c.args.slot.0) c.in_ok-edited.ensures ∙ at))
