use Rattle.std.proofs.Common.{◌≡◌, Some, sym, ap, ◌∙◌, subst, List, Option}
use Rattle.fc_base.specs.declared.ids.SlotId.{SlotId}
use Rattle.expr_eval.specs.Sorts.{sort_of}
use Rattle.doc_tables.specs.Accessors.{AreReached, reached_at}
use Rattle.doc_tables.proofs.ShapeLemmas.{written-is}
use Rattle.doc_rules.specs.SortTables.{reading_behind}
use Rattle.doc_rules.proofs.ShapeLemmas.{sort-of_shape}
use Rattle.doc_rules.proofs.SortNumbers.{tree-sort}
use Rattle.doc_rules.proofs.sorts.sort_of_shape.Goals as goal

pub returns-in-Ok : goal.returns-in-Ok
returns-in-Ok c = λ e written.
    let t = c.args.tables.now in
    tree-sort t c.is_numbered.ensures c.args.sorts.now c.holds_var_sets.ensures c.args.slot.0 e c.deref.result.now written
    (subst (λ (ids : List (Option SlotId)). AreReached t ids (reached_at t c.args.slot.0)) (sym c.deref.ensures.value) c.in_ok-references.ensures)
    ∙ ap Some (sym (sort-of_shape (reading_behind c.deref.result.now c.args.sorts.now) 0 e c.args.shape.now (written-is _ c.args.shape.now e c.requires.shape written)) ∙ c.in-Ok.ensures)

pub returns-in-Err-Cause : goal.returns-in-Err-Cause
returns-in-Err-Cause c = λ e written.
    let t = c.args.tables.now in
    tree-sort t c.is_numbered.ensures c.args.sorts.now c.holds_var_sets.ensures c.args.slot.0 e c.deref.result.now written
    (subst (λ (ids : List (Option SlotId)). AreReached t ids (reached_at t c.args.slot.0)) (sym c.deref.ensures.value) c.in_ok-references.ensures)
    ∙ ap Some
    (sym (sort-of_shape (reading_behind c.deref.result.now c.args.sorts.now) 0 e c.args.shape.now (written-is _ c.args.shape.now e c.requires.shape written))
    ∙ (rw c.in-Err-Cause.field-0-is at c.in-Err-Cause.ensures))
