use Rattle.std.proofs.Common.{false, cond, Some, None, sym, ap, ◌∙◌}
use Rattle.std.specs.Option.{option_and_then}
use Rattle.fc_base.specs.declared.ids.ObjectId.{ObjectId}
use Rattle.doc_tables.specs.Labels.{stands_before, has_label}
use Rattle.doc_tables.proofs.LabelLemmas.{searched}
use Rattle.doc_tables.proofs.labels.first_labelled.Goals as goal

pub returns-then-has_label : goal.returns-then-has_label
returns-then-has_label c = λ parted.
    let before : ObjectId → _ = stands_before c.args.names.now.items c.args.objects.now.entries false c.args.text.now in
    let has : ObjectId → _ = has_label c.args.names.now.items c.args.objects.now.entries c.args.text.now in
    sym (ap (λ b. cond b (Some c.in-Some.id) None) (sym c.has_label.ensures ∙ c.if-has_label.true))
    ∙ sym (ap (option_and_then (λ id. cond (has id) (Some id) None)) c.in-Some.is)
    ∙ searched before has c.args.by_label.now.items c.count_before-place.result c.number_at.result (c.count_before-place.ensures.value parted) c.number_at.ensures

pub returns-else-has_label : goal.returns-else-has_label
returns-else-has_label c = λ parted.
    let before : ObjectId → _ = stands_before c.args.names.now.items c.args.objects.now.entries false c.args.text.now in
    let has : ObjectId → _ = has_label c.args.names.now.items c.args.objects.now.entries c.args.text.now in
    sym (ap (λ b. cond b (Some c.in-Some.id) None) (sym c.has_label.ensures ∙ c.if-has_label.false))
    ∙ sym (ap (option_and_then (λ id. cond (has id) (Some id) None)) c.in-Some.is)
    ∙ searched before has c.args.by_label.now.items c.count_before-place.result c.number_at.result (c.count_before-place.ensures.value parted) c.number_at.ensures

pub returns-in-None : goal.returns-in-None
returns-in-None c = λ parted.
    let before : ObjectId → _ = stands_before c.args.names.now.items c.args.objects.now.entries false c.args.text.now in
    let has : ObjectId → _ = has_label c.args.names.now.items c.args.objects.now.entries c.args.text.now in
    sym (ap (option_and_then (λ id. cond (has id) (Some id) None)) c.in-None.is)
    ∙ searched before has c.args.by_label.now.items c.count_before-place.result c.number_at.result (c.count_before-place.ensures.value parted) c.number_at.ensures
