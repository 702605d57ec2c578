-- The sort of a slot hangs on the sorts of its dependencies alone.
use Rattle.std.proofs.Common.{◌≡◌, ℕ, List, [], Some, None, refl, sym, subst}
use Rattle.std.specs.Prelude.{Option, slice_get, Err}
use Rattle.std.specs.Option.{option_and_then, option_map_or}
use Rattle.fc_base.specs.Graph.{IsIn, ReadsOnlyDeps}
use Rattle.object_paths.specs.Slots.{Slot}
use Rattle.expr_tree.specs.References.{Reference, references}
use Rattle.expr_tree.specs.Tree.{Tree}
use Rattle.expr_eval.specs.declared.sort_cause.SortCause.TheVariants.{KindMismatch}
use Rattle.expr_eval.specs.SortRows.{SortOutcome}
use Rattle.expr_eval.specs.Sorts.{sort_of}
use Rattle.document_model.specs.Document.{Document, Object, object_named}
use Rattle.document_model.specs.Slots.{Rule, own, bound, inherit, global, output, type_of, rule_of}
use Rattle.document_model.specs.Dependencies.{slot_reached, slots_of_tree, deps_by, deps}
use Rattle.document_outcomes.specs.Sorts.{sort_at, sorts_in_cells, sort_reading, bound_sort, sort_by_rule, local_sort}
use Rattle.document_outcomes.proofs.AgreementLemmas.{AgreeOn, deps-found, from_slice_get, agreed-path, agreed-cells}

module _ (d : Document) where
  module _ (o : Object) (e : Tree) (v w : Slot → SortOutcome) (agree : AgreeOn (slots_of_tree d o e) v w) where
    agreed-reached : (r : Reference) (s : Option Slot) → IsIn r (references e) → slot_reached d o r ≡ s → sort_at v s ≡ sort_at w s
    agreed-reached r None here reached = refl
    agreed-reached r (Some s) here reached = agreed-path d o e v w agree r s here reached

    agreed-at :
        (k : ℕ) (r : Option Reference) → slice_get (references e) k ≡ r
        → sort_at v (option_and_then (slot_reached d o) r) ≡ sort_at w (option_and_then (slot_reached d o) r)
    agreed-at k None here = refl
    agreed-at k (Some r) here = agreed-reached r (slot_reached d o r) (from_slice_get (references e) k r here) refl

    agreed-inside : (k : ℕ) (r : Option Reference) → slice_get (references e) k ≡ r → sorts_in_cells d o v r ≡ sorts_in_cells d o w r
    agreed-inside k None here = refl
    agreed-inside k (Some r) here = agreed-cells d o e v w agree r (from_slice_get (references e) k r here)

    reading-agreed : sort_reading d o e v ≡ sort_reading d o e w
    reading-agreed = λ i. record {
      at = λ k. agreed-at k (slice_get (references e) k) refl i;
      inside = λ k. agreed-inside k (slice_get (references e) k) refl i;
    }

  by_rule-agreed :
      (s : Slot) (o : Object) (rule : Option Rule) (v w : Slot → SortOutcome)
      → AgreeOn (deps_by d o rule) v w → sort_by_rule d s o v rule ≡ sort_by_rule d s o w rule
  by_rule-agreed s o None v w agree = refl
  by_rule-agreed s o (Some (own x)) v w agree = refl
  by_rule-agreed s o (Some (bound e)) v w agree = λ i. bound_sort (type_of d s) (sort_of (reading-agreed o e v w agree i) 0 e)
  by_rule-agreed s o (Some (inherit t)) v w agree = refl
  by_rule-agreed s o (Some (global k)) v w agree = refl
  by_rule-agreed s o (Some (output k)) v w agree = refl

  of_object :
      (s : Slot) (found : Option Object) (v w : Slot → SortOutcome)
      → deps d s ≡ option_map_or (λ o. deps_by d o (rule_of d s)) found [] → AgreeOn (deps d s) v w
      → option_map_or (λ o. sort_by_rule d s o v (rule_of d s)) found (Err KindMismatch)
      ≡ option_map_or (λ o. sort_by_rule d s o w (rule_of d s)) found (Err KindMismatch)
  of_object s None v w same agree = refl
  of_object s (Some o) v w same agree =
      by_rule-agreed s o (rule_of d s) v w (λ x j. agree x (subst (λ (q : List Slot). IsIn x q) (sym same) j))

  pub local_sort-reads : ReadsOnlyDeps (deps d) (local_sort d)
  unfolding local_sort
  local_sort-reads s v w agree = of_object s (object_named d s.object) v w (deps-found d s) agree
