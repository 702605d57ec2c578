use Rattle.document_model.specs.declared.content.Content.TheVariants.{Own}
use Rattle.document_model.specs.Edited.{with_content}
use Rattle.document_model.specs.Slots.{type_of}
use Rattle.document_model.proofs.Members.{and_then_some}
use Rattle.expr_grammar.specs.Parse.{closed_expression_in}
use Rattle.doc_tables.specs.Numbered.{slot_at}
use Rattle.doc_rules.specs.Accepted.{accepted}
use Rattle.doc_rules.specs.SlotEdits.{value_read}
use Rattle.doc_rules.proofs.EditLemmas.{becomes-valued}
use Rattle.doc_rules.proofs.FormLemmas.{answers-is, text-content}
use Rattle.doc_rules.proofs.slot_edits.with_value.Goals as goal

pub with_content-requires-clause-content : goal.with_content-requires-clause-content
with_content-requires-clause-content c = λ type typed.
    let t = c.args.tables.now in
    let v = c.in_ok-value.value in
    let at = and_then_some (type_of t.document) (slot_at t c.args.slot.0) type typed in
    text-content t.document at.0 type c.args.text.now v at.2
    (answers-is (value_read t.document at.0 (closed_expression_in c.args.text.now)) v (c.in_ok-value.ensures at.0 at.1))

pub returns : goal.returns
returns c = λ s at.
    let t = c.args.tables.now in
    becomes-valued t (λ v. accepted (with_content t.document s (Own v)))
    (value_read t.document s (closed_expression_in c.args.text.now)) c.in_ok-value.value c.accepted.result
    (c.in_ok-value.ensures s at) (c.accepted.ensures t (with_content t.document s (Own c.in_ok-value.value)) (c.in_ok-edited.ensures s at))
