use Rattle.std.proofs.Common.{◌≡◌, Err, true, is_some, Option, subst, sym, ap, ◌∙◌}
use Rattle.document_model.proofs.Members.{and_then_some}
use Rattle.document_model.specs.declared.content.Content.TheVariants.{Own}
use Rattle.document_model.specs.Edited.{with_content}
use Rattle.document_model.specs.Slots.{type_of}
use Rattle.document_outcomes.proofs.ValueLemmas.{no_features-sound}
use Rattle.document_outcomes.specs.Full.{full}
use Rattle.document_outcomes.specs.Typed.{no_features}
use Rattle.doc_tables.specs.Numbered.{slot_at}
use Rattle.doc_rules.specs.Accepted.{accepted}
use Rattle.doc_rules.specs.Edits.{Becomes}
use Rattle.doc_rules.specs.SlotEdits.{is_bound, unbound, value_fitted}
use Rattle.doc_rules.proofs.BecomesLemmas.{becomes-unvalued, fitted-is, no_features-mean, residual-becomes, unbound-passes}
use Rattle.doc_rules.proofs.EditLemmas.{becomes-valued}
use Rattle.doc_rules.proofs.NameLemmas.{is-there}
use Rattle.doc_rules.proofs.OutcomeForm.{outcomes-typed}
use Rattle.doc_rules.proofs.slot_edits.unbound.Goals as goal

pub value_kept-requires : goal.value_kept-requires
value_kept-requires g c =
    let s = is-there (slot_at c.args.tables.now c.args.slot.0) c.requires.live in
    ap is_some (c.requires.known c.in-Some.kept c.in-Some.is c.args.slot s.0 s.1)

pub returns-in_err-value : goal.returns-in_err-value
returns-in_err-value g c = λ s at.
    let t = c.args.tables.now in
    let told = c.is_bound.ensures s at in
    let bound : is_bound t.document s ≡ true = cc in
    let known : is_some c.args.clean ≡ true = ap is_some c.in-Some.is in
    residual-becomes t (unbound no_features (is_some c.args.clean) t.document s) c.in_err-value.field-0.0 c.from_residual.result c.from_residual.ensures
    (subst (λ x. Becomes t x (Err c.in_err-value.field-0.0)) (sym (unbound-passes no_features (is_some c.args.clean) t.document s bound known))
    (becomes-unvalued t (λ v. accepted (with_content t.document s (Own v))) (value_fitted (full no_features t.document s)) c.in_err-value.field-0.0
    (c.in_err-value.ensures (full no_features t.document s) (c.requires.known c.in-Some.kept c.in-Some.is c.args.slot s at))))

pub with_content-requires-clause-content : goal.with_content-requires-clause-content
with_content-requires-clause-content g c = λ type typed.
    let t = c.args.tables.now in
    let at = and_then_some (type_of t.document) (slot_at t c.args.slot.0) type typed in
    outcomes-typed no_features t.document no_features-sound no_features-mean c.is_well_formed.ensures c.requires.valid at.0 type c.in_ok-value.value at.2
    (fitted-is (full no_features t.document at.0) c.in_ok-value.value
    (c.in_ok-value.ensures (full no_features t.document at.0) (c.requires.known c.in-Some.kept c.in-Some.is c.args.slot at.0 at.1)))

pub returns : goal.returns
returns g c = λ s at.
    let t = c.args.tables.now in
    let told = c.is_bound.ensures s at in
    let bound : is_bound t.document s ≡ true = cc in
    let known : is_some c.args.clean ≡ true = ap is_some c.in-Some.is in
    subst (λ x. Becomes t x c.accepted.result) (sym (unbound-passes no_features (is_some c.args.clean) t.document s bound known))
    (becomes-valued t (λ v. accepted (with_content t.document s (Own v))) (value_fitted (full no_features t.document s)) c.in_ok-value.value c.accepted.result
    (c.in_ok-value.ensures (full no_features t.document s) (c.requires.known c.in-Some.kept c.in-Some.is c.args.slot s at))
    (c.accepted.ensures t (with_content t.document s (Own c.in_ok-value.value)) (c.in_ok-edited.ensures s at)))
