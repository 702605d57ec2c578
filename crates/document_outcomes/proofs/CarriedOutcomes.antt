-- Where the objects of a document are changed one by one, and their slots have other names, each slot has the
-- outcome that it had.
use Rattle.std.proofs.Common.{◌≡◌, ℕ, List, map, length, Some, None, refl, sym, ap, subst, ◌∙◌}
use Rattle.std.specs.Prelude.{Option, slice_get, Err}
use Rattle.std.specs.Option.{option_map, option_and_then, option_map_or}
use Rattle.std.proofs.lemmas.List.{length-map}
use Rattle.std.proofs.lemmas.Option.{slice_get-map}
use Rattle.fc_base.specs.Graph.{CarriesRules, IsIn, full_at}
use Rattle.fc_base.proofs.GraphLemmas.{full_at-moved}
use Rattle.object_paths.specs.declared.slot_name.SlotName.{SlotName}
use Rattle.object_paths.specs.declared.path.Path.{Path}
use Rattle.object_paths.specs.Slots.{Slot}
use Rattle.property_types.specs.declared.value.ValueFault.TheVariants.{OutOfType, Range}
use Rattle.property_types.specs.Values.{Outcome}
use Rattle.expr_tree.specs.References.{Reference, references, with_references, on_reference}
use Rattle.expr_tree.specs.Tree.{Tree}
use Rattle.expr_tree.proofs.NumberedLemmas.{with_numbered-const}
use Rattle.expr_tree.proofs.ReferenceLemmas.{references-with}
use Rattle.expr_eval.specs.Firsts.{on_one, all_of}
use Rattle.expr_eval.specs.Outcomes.{outcome_of}
use Rattle.expr_eval.proofs.SpellingLemmas.{outcome-numbered}
use Rattle.document_model.specs.Document.{Document, Object, object_named}
use Rattle.document_model.specs.Slots.{Rule, own, bound, inherit, global, output, rule_of, type_of, slots}
use Rattle.document_model.specs.Dependencies.{slot_reached, cells_reached, deps}
use Rattle.document_model.specs.Renamed.{same_area}
use Rattle.document_model.proofs.DependencyLemmas.{deps_are_slots}
use Rattle.document_outcomes.specs.Full.{Meanings, at_slot, in_cells, reading, fitted, first_of, global_part, output_part, outcome_by_rule, local, full}
use Rattle.document_outcomes.proofs.AgreementLemmas.{from_slice_get}
use Rattle.document_outcomes.proofs.CarriedLemmas.{Carries, PathsLead, IsKnown, IsKnownRule, at_new, new_tree, new_rule, in-document, rule_of-new, type_of-new, slots-new, slot-fresh, slot-object, deps-new, reached-new, cells-new}
use Rattle.document_outcomes.proofs.ChangedLists.{map-twice}
use Rattle.document_outcomes.proofs.ChangedObjects.{object_named-new, plan_behind-new}
use Rattle.document_outcomes.proofs.OutcomeLemmas.{local-reads}

-- how references are written makes no difference
same-outcome : (on_path : Path → Path) (t : Tree) (r : _) → outcome_of r 0 (with_references on_path same_area t) ≡ outcome_of r 0 t
same-outcome on_path t r =
    subst (λ (u : Tree). outcome_of r 0 u ≡ outcome_of r 0 t) (with_numbered-const on_path same_area 0 t)
    (outcome-numbered (λ _. on_path) (λ _. same_area) OutOfType r 0 0 t)

module _ (d d' : Document) (change : Object → Object) (under : List ℕ → SlotName → SlotName) (on_path : Object → Path → Path) (Fresh : List ℕ → SlotName → Type 0) where
  -- a slot under its new name
  abbrev pub to : Slot → Slot
  to = at_new d d' change under on_path Fresh

  module _ (c : Carries d d' change under on_path Fresh) (path : PathsLead d d' change under on_path Fresh) where
    module _ (o : Object) (here : IsIn o d.objects) (e : Tree) (known : (r : Reference) → IsIn r (references e) → IsKnown d o r) (w : Slot → Outcome) where
      -- what a reference names has what it had
      at-found : (r : Option Reference) → ((x : Reference) → r ≡ Some x → IsKnown d o x)
          → at_slot w (option_and_then (slot_reached d' (change o)) (option_map (on_reference (on_path o) same_area) r))
          ≡ at_slot (λ t. w (to t)) (option_and_then (slot_reached d o) r)
      at-found None is = refl
      at-found (Some x) is =
          ap (at_slot w) (reached-new d d' change under on_path Fresh c path o here x (is x refl))
          ∙ elim (slot_reached d o x) as (λ s. at_slot w (option_map to s) ≡ at_slot (λ t. w (to t)) s) [ None ↦ refl | Some s ↦ refl ]

      inside-found : (r : Option Reference)
          → in_cells d' (change o) w (option_map (on_reference (on_path o) same_area) r) ≡ in_cells d o (λ t. w (to t)) r
      inside-found None = refl
      inside-found (Some x) =
          ap (map w) (cells-new d d' change under on_path Fresh c path o here x) ∙ map-twice to w (cells_reached d o x)

      nth : (k : ℕ) → slice_get (references (new_tree d d' change under on_path Fresh o e)) k ≡ option_map (on_reference (on_path o) same_area) (slice_get (references e) k)
      nth k =
          ap (λ (rs : List Reference). slice_get rs k) (references-with (on_path o) same_area e)
          ∙ slice_get-map (on_reference (on_path o) same_area) (references e) k

      -- so the changed expression is given the same
      reading-new : reading d' (change o) (new_tree d d' change under on_path Fresh o e) w ≡ reading d o e (λ t. w (to t))
      reading-new = λ i. record {
        at = λ k.
            (ap (λ (r : Option Reference). at_slot w (option_and_then (slot_reached d' (change o)) r)) (nth k)
            ∙ at-found (slice_get (references e) k) (λ x h. known x (from_slice_get (references e) k x h))) i;
        inside = λ k. (ap (in_cells d' (change o) w) (nth k) ∙ inside-found (slice_get (references e) k)) i;
      }

    module _ (m : Meanings) where
      -- what a slot depends on has what it had
      read-new : (s : Slot) (w : Slot → Outcome) → deps d' (to s) ≡ map to (deps d s) → map w (deps d' (to s)) ≡ map (λ t. w (to t)) (deps d s)
      read-new s w same = ap (map w) same ∙ map-twice to w (deps d s)

      by_rule-new :
          (s : Slot) (o : Object) (rule : Option Rule) (w : Slot → Outcome) → IsIn o d.objects → IsKnownRule d o rule
          → type_of d' (to s) ≡ type_of d s → deps d' (to s) ≡ map to (deps d s)
          → outcome_by_rule m d' (to s) (change o) w (option_map (new_rule d d' change under on_path Fresh o) rule) ≡ outcome_by_rule m d s o (λ t. w (to t)) rule
      by_rule-new s o None w here known typed same = refl
      by_rule-new s o (Some (own v)) w here known typed same = refl
      by_rule-new s o (Some (bound e)) w here known typed same =
          ap (fitted (type_of d' (to s))) (same-outcome (on_path o) e (reading d' (change o) (new_tree d d' change under on_path Fresh o e) w))
          ∙ (λ i. fitted (typed i) (outcome_of (reading-new o here e known w i) 0 e))
      by_rule-new s o (Some (inherit t)) w here known typed same = ap first_of (read-new s w same)
      by_rule-new s o (Some (global k)) w here known typed same = λ i. on_one (global_part m k) (all_of (read-new s w same i))
      by_rule-new s o (Some (output k)) w here known typed same =
          λ i. on_one (output_part m (plan_behind-new d d' change c.base o i) k) (all_of (read-new s w same i))

      local-named :
          (s : Slot) (o : Object) (w : Slot → Outcome) → IsIn s (slots d) → object_named d s.object ≡ Some o → IsKnownRule d o (rule_of d s)
          → local m d' (to s) w ≡ local m d s (λ t. w (to t))
      unfolding local
      local-named s o w here h known =
          ap (λ (found : Option Object). option_map_or (λ (q : Object). outcome_by_rule m d' (to s) q w (rule_of d' (to s))) found (Err Range))
          (object_named-new d d' change c.base s.object ∙ ap (option_map change) h)
          ∙ ap (outcome_by_rule m d' (to s) (change o) w) (rule_of-new d d' change under on_path Fresh c s o h (slot-fresh d d' change under on_path Fresh c s here))
          ∙ by_rule-new s o (rule_of d s) w (in-document d d' change under on_path Fresh c s.object o h) known
          (type_of-new d d' change under on_path Fresh c s o h (slot-fresh d d' change under on_path Fresh c s here))
          (deps-new d d' change under on_path Fresh c path s o here h known)
          ∙ ap (λ (found : Option Object). option_map_or (λ (q : Object). outcome_by_rule m d s q (λ t. w (to t)) (rule_of d s)) found (Err Range)) (sym h)

      -- where each reference of the document is known, each rule is carried to the new name
      module _ (known : (s : Slot) (o : Object) → object_named d s.object ≡ Some o → IsKnownRule d o (rule_of d s)) where
        pub rules-carried : CarriesRules (local m d) (local m d') to (slots d)
        rules-carried s here w =
            let found = slot-object d d' change under on_path Fresh c s here in
            local-named s found.0 w here found.1 (known s found.0 found.1)

        as_many : length (slots d') ≡ length (slots d)
        as_many = ap length (slots-new d d' change under on_path Fresh c) ∙ length-map (slots d) to

        -- and each slot has the outcome that it had
        pub full-new : (s : Slot) → IsIn s (slots d) → full m d' (to s) ≡ full m d s
        unfolding full
        full-new s here =
            ap (λ (n : ℕ). full_at (local m d') (Err Range) n (to s)) as_many
            ∙ full_at-moved (deps d) (slots d) (deps_are_slots d) (local m d) (Err Range) (local-reads m d) (local m d') to rules-carried (length (slots d)) s here
