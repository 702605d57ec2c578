-- What a rename leaves as it was, in well-formed and valid documents.
use Rattle.std.proofs.Common.{◌≡◌, false, not, List, Some, None, refl, sym, ap, subst}
use Rattle.std.specs.Prelude.{ℕ, Option, is_some}
use Rattle.std.specs.Option.{option_map, option_and_then}
use Rattle.std.proofs.lemmas.Bool.{false≢true}
use Rattle.fc_base.specs.Graph.{IsIn}
use Rattle.object_paths.specs.declared.slot_name.SlotName.{SlotName}
use Rattle.object_paths.specs.Slots.{Slot, same_text, same_slot_name}
use Rattle.expr_tree.specs.References.{Reference, to_path, to_area}
use Rattle.document_model.specs.Document.{Document, Object, object_named}
use Rattle.document_model.specs.Renamed.{object, CanBeRenamed}
use Rattle.document_model.specs.Resolution.{resolve}
use Rattle.document_model.specs.Slots.{Row, Rule, own, bound, inherit, global, output, rows, row_in, rule_of}
use Rattle.document_model.specs.WellFormed.{IsWellFormed}
use Rattle.document_model.proofs.Members.{from_find}
use Rattle.document_outcomes.specs.Faults.{IsValid, is_unknown}
use Rattle.document_outcomes.specs.NoFault.{HasNoFault}
use Rattle.document_outcomes.specs.Renames.{KeepsDependencies, KeepsOutcomes, KeepsSlots}
use Rattle.document_outcomes.proofs.CarriedLemmas.{IsKnown, IsKnownRule, deps-new, slot-object, slots-new}
use Rattle.document_outcomes.proofs.CarriedOutcomes.{full-new}
use Rattle.document_outcomes.proofs.FaultLemmas.{valid-no_fault}
use Rattle.document_outcomes.proofs.RelabelledLemmas.{AnyName, relabelled, relabel, name_kept, path_kept, carries-relabelled, paths-relabelled}

module _ (d : Document) (none : HasNoFault d) where
  -- in a document without a fault each path of an expression names a slot
  known-reference : (o : Object) (x : Reference) → is_unknown d o x ≡ false → IsKnown d o x
  known-reference o (to_path p) e =
      elim (resolve d o p) as (λ found. resolve d o p ≡ found → not (is_some found) ≡ false → (s : Slot) × (resolve d o p ≡ Some s)) [
        | None ↦ λ h g. absurd (false≢true (sym g))
        | Some s ↦ λ h g. (s, h)
      ] refl e
  known-reference o (to_area area) e = tt

  known-rule : (o : Object) (r : Row) (rule : Rule) → IsIn o d.objects → IsIn r (rows d o) → r.rule ≡ rule → IsKnownRule d o (Some rule)
  known-rule o r (own v) here i e = tt
  known-rule o r (bound t) here i e = λ x j. known-reference o x (none.references o here r i t e x j)
  known-rule o r (inherit s) here i e = tt
  known-rule o r (global k) here i e = tt
  known-rule o r (output k) here i e = tt

  known-found : (o : Object) (n : SlotName) (found : Option Row) → IsIn o d.objects → row_in (rows d o) n ≡ found → IsKnownRule d o (option_map (λ (r : Row). r.rule) found)
  known-found o n None here h = tt
  known-found o n (Some r) here h = known-rule o r r.rule here (from_find (λ (q : Row). same_slot_name q.name n) (rows d o) r h) refl

  known-slot : (s : Slot) (o : Object) → object_named d s.object ≡ Some o → IsKnownRule d o (rule_of d s)
  known-slot s o h =
      subst (IsKnownRule d o)
      (sym (ap (λ (found : Option Object). option_map (λ (r : Row). r.rule) (option_and_then (λ (q : Object). row_in (rows d q) s.name) found)) h))
      (known-found o s.name (row_in (rows d o) s.name) (from_find (λ (q : Object). same_text q.name s.object) d.objects o h) refl)

-- ---- relabellings
module _ (d : Document) (name new : List ℕ) where
  pub relabelling-slots : KeepsSlots d (object name) new
  relabelling-slots = slots-new d (relabelled d name new) (relabel d name new) (name_kept d name new) (path_kept d name new) (AnyName d name new) (carries-relabelled d name new)

  module _ (is : IsWellFormed d) (valid : IsValid d) (can : CanBeRenamed d (object name) new) where
    pub relabelling-outcomes : KeepsOutcomes d (object name) new
    relabelling-outcomes m s here =
        full-new d (relabelled d name new) (relabel d name new) (name_kept d name new) (path_kept d name new) (AnyName d name new) (carries-relabelled d name new)
        (paths-relabelled d name new is.distinct can.good.1) m (known-slot d (valid-no_fault d valid)) s here

    pub relabelling-dependencies : KeepsDependencies d (object name) new
    relabelling-dependencies s here =
        let found = slot-object d (relabelled d name new) (relabel d name new) (name_kept d name new) (path_kept d name new) (AnyName d name new) (carries-relabelled d name new) s here in
        deps-new d (relabelled d name new) (relabel d name new) (name_kept d name new) (path_kept d name new) (AnyName d name new) (carries-relabelled d name new)
        (paths-relabelled d name new is.distinct can.good.1) s found.0 here found.1 (known-slot d (valid-no_fault d valid) s found.0 found.1)
