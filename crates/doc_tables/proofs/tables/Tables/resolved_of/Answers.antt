use Rattle.std.proofs.Common.{List, Option, Some, subst, ap, ◌∙◌, map}
use Rattle.std.proofs.lemmas.Result.{IfOk-weaker}
use Rattle.object_paths.specs.Slots.{Slot}
use Rattle.document_model.specs.Slots.{rule_of_content}
use Rattle.expr_tree.specs.ListedReferences.{reference_of}
use Rattle.doc_tables.specs.Accessors.{AreReached}
use Rattle.doc_tables.proofs.DependencyLemmas.{reached-listed}
use Rattle.doc_tables.proofs.tables.Tables.resolved_of.Goals as goal

pub returns-in_ok-all-in-Bound : goal.returns-in_ok-all-in-Bound
returns-in_ok-all-in-Bound c =
    let v = c.args.self.now in
    let n = c.args.slot.0 in
    let tree = c.in-Bound.tree in
    IfOk-weaker c.slots_reached.result _ _
    (λ found h. subst (λ (l : List (Option Slot)). AreReached v found.items l)
    (reached-listed v n c.owner_of-owner.result.0 tree c.deref.result.now
    (c.entry_of.ensures.rule ∙ ap Some (ap rule_of_content c.in-Bound.is))
    c.entry_of.ensures.owner c.owner_of-owner.ensures
    (ap (map reference_of) c.deref.ensures.value ∙ c.in_ok-all-in-Bound.ensures)) h)
    c.slots_reached.ensures
