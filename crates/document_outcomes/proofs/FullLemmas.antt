-- Outcomes and sorts of documents without cycles.
use Rattle.std.proofs.Common.{◌≡◌, length}
use Rattle.std.specs.Prelude.{Err}
use Rattle.fc_base.specs.Graph.{IsIn, IsFixpoint}
use Rattle.fc_base.proofs.GraphLemmas.{full_at-is, within_slots}
use Rattle.object_paths.specs.Slots.{Slot}
use Rattle.property_types.specs.declared.value.ValueFault.TheVariants.{Range}
use Rattle.property_types.specs.Values.{Outcome}
use Rattle.expr_eval.specs.declared.sort_cause.SortCause.TheVariants.{KindMismatch}
use Rattle.expr_eval.specs.SortRows.{SortOutcome}
use Rattle.document_model.specs.Document.{Document}
use Rattle.document_model.specs.Dependencies.{deps}
use Rattle.document_model.specs.Slots.{slots}
use Rattle.document_model.proofs.DependencyLemmas.{deps_are_slots}
use Rattle.document_outcomes.specs.Cycles.{HasNoCycle}
use Rattle.document_outcomes.specs.Full.{Meanings, local, full}
use Rattle.document_outcomes.specs.Sorts.{local_sort, sort}
use Rattle.document_outcomes.proofs.CycleLemmas.{no_cycle-acyclic}
use Rattle.document_outcomes.proofs.FixpointLemmas.{full_at-fixpoint}
use Rattle.document_outcomes.proofs.OutcomeLemmas.{local-reads}
use Rattle.document_outcomes.proofs.SortLemmas.{local_sort-reads}

module _ (d : Document) (none : HasNoCycle d) where
  module _ (m : Meanings) where
    pub full-is : (w : Slot → Outcome) → IsFixpoint (local m d) (slots d) w → (s : Slot) → IsIn s (slots d) → full m d s ≡ w s
    unfolding full
    full-is w fixed s here =
        full_at-is (deps d) (slots d) (deps_are_slots d) (local m d) (Err Range) (local-reads m d) w fixed (length (slots d)) s here
        (within_slots (deps d) (slots d) (deps_are_slots d) (no_cycle-acyclic d none) s here)

    pub full-fixpoint : IsFixpoint (local m d) (slots d) (full m d)
    unfolding full
    full-fixpoint = full_at-fixpoint (deps d) (slots d) (deps_are_slots d) (no_cycle-acyclic d none) (local m d) (Err Range) (local-reads m d)

  pub sort-is : (w : Slot → SortOutcome) → IsFixpoint (local_sort d) (slots d) w → (s : Slot) → IsIn s (slots d) → sort d s ≡ w s
  unfolding sort
  sort-is w fixed s here =
      full_at-is (deps d) (slots d) (deps_are_slots d) (local_sort d) (Err KindMismatch) (local_sort-reads d) w fixed (length (slots d)) s here
      (within_slots (deps d) (slots d) (deps_are_slots d) (no_cycle-acyclic d none) s here)

  pub sort-fixpoint : IsFixpoint (local_sort d) (slots d) (sort d)
  unfolding sort
  sort-fixpoint = full_at-fixpoint (deps d) (slots d) (deps_are_slots d) (no_cycle-acyclic d none) (local_sort d) (Err KindMismatch) (local_sort-reads d)
