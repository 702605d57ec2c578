-- The outcome of a slot hangs on the outcomes of its dependencies alone.
use Rattle.std.proofs.Common.{◌≡◌, ℕ, List, [], Some, None, refl, sym, subst}
use Rattle.std.specs.Prelude.{Option, slice_get, Err}
use Rattle.std.specs.Option.{option_and_then, option_map_or}
use Rattle.fc_base.specs.Graph.{IsIn, ReadsOnlyDeps}
use Rattle.object_paths.specs.Slots.{Slot}
use Rattle.property_types.specs.declared.value.ValueFault.TheVariants.{Range}
use Rattle.property_types.specs.Values.{Outcome}
use Rattle.expr_tree.specs.References.{Reference, references}
use Rattle.expr_tree.specs.Tree.{Tree}
use Rattle.expr_eval.specs.Firsts.{on_one, all_of}
use Rattle.expr_eval.specs.Outcomes.{outcome_of}
use Rattle.document_model.specs.Document.{Document, Object, object_named}
use Rattle.document_model.specs.Ends.{plan_behind}
use Rattle.document_model.specs.Slots.{Rule, own, bound, inherit, global, output, type_of, rule_of}
use Rattle.document_model.specs.Dependencies.{slot_reached, slots_of_tree, deps_by, deps}
use Rattle.document_outcomes.specs.Full.{Meanings, at_slot, in_cells, reading, fitted, first_of, global_part, output_part, outcome_by_rule, local}
use Rattle.document_outcomes.proofs.AgreementLemmas.{AgreeOn, map-agreed, deps-found, from_slice_get, agreed-path, agreed-cells}

module _ (d : Document) where
  module _ (o : Object) (e : Tree) (v w : Slot → Outcome) (agree : AgreeOn (slots_of_tree d o e) v w) where
    agreed-reached : (r : Reference) (s : Option Slot) → IsIn r (references e) → slot_reached d o r ≡ s → at_slot v s ≡ at_slot w s
    agreed-reached r None here reached = refl
    agreed-reached r (Some s) here reached = agreed-path d o e v w agree r s here reached

    agreed-at : (k : ℕ) (r : Option Reference) → slice_get (references e) k ≡ r → at_slot v (option_and_then (slot_reached d o) r) ≡ at_slot w (option_and_then (slot_reached d o) r)
    agreed-at k None here = refl
    agreed-at k (Some r) here = agreed-reached r (slot_reached d o r) (from_slice_get (references e) k r here) refl

    agreed-inside : (k : ℕ) (r : Option Reference) → slice_get (references e) k ≡ r → in_cells d o v r ≡ in_cells d o w r
    agreed-inside k None here = refl
    agreed-inside k (Some r) here = agreed-cells d o e v w agree r (from_slice_get (references e) k r here)

    -- so an expression is given the same
    pub reading-agreed : reading d o e v ≡ reading d o e w
    reading-agreed = λ i. record {
      at = λ k. agreed-at k (slice_get (references e) k) refl i;
      inside = λ k. agreed-inside k (slice_get (references e) k) refl i;
    }

module _ (m : Meanings) (d : Document) where
  by_rule-agreed :
      (s : Slot) (o : Object) (rule : Option Rule) (v w : Slot → Outcome)
      → AgreeOn (deps_by d o rule) v w → deps d s ≡ deps_by d o rule → outcome_by_rule m d s o v rule ≡ outcome_by_rule m d s o w rule
  by_rule-agreed s o None v w agree same = refl
  by_rule-agreed s o (Some (own x)) v w agree same = refl
  by_rule-agreed s o (Some (bound e)) v w agree same = λ i. fitted (type_of d s) (outcome_of (reading-agreed d o e v w agree i) 0 e)
  by_rule-agreed s o (Some (inherit t)) v w agree same =
      λ i. first_of (map-agreed v w (deps d s) (λ x j. agree x (subst (λ (q : List Slot). IsIn x q) same j)) i)
  by_rule-agreed s o (Some (global k)) v w agree same =
      λ i. on_one (global_part m k) (all_of (map-agreed v w (deps d s) (λ x j. agree x (subst (λ (q : List Slot). IsIn x q) same j)) i))
  by_rule-agreed s o (Some (output k)) v w agree same =
      λ i. on_one (output_part m (plan_behind d o) k) (all_of (map-agreed v w (deps d s) (λ x j. agree x (subst (λ (q : List Slot). IsIn x q) same j)) i))

  of_object :
      (s : Slot) (found : Option Object) (v w : Slot → Outcome)
      → deps d s ≡ option_map_or (λ o. deps_by d o (rule_of d s)) found [] → AgreeOn (deps d s) v w
      → option_map_or (λ o. outcome_by_rule m d s o v (rule_of d s)) found (Err Range)
      ≡ option_map_or (λ o. outcome_by_rule m d s o w (rule_of d s)) found (Err Range)
  of_object s None v w same agree = refl
  of_object s (Some o) v w same agree =
      by_rule-agreed s o (rule_of d s) v w (λ x j. agree x (subst (λ (q : List Slot). IsIn x q) (sym same) j)) same

  pub local-reads : ReadsOnlyDeps (deps d) (local m d)
  unfolding local
  local-reads s v w agree = of_object s (object_named d s.object) v w (deps-found d s) agree
