-- What the references of an expression have for what is kept.
use Rattle.std.proofs.Common.{◌≡◌, ℕ, List, [], Some, None, refl, sym, ◌∙◌, ap, subst}
use Rattle.std.specs.Prelude.{◌≢◌, IfOk, OnOk, IfSome, Result, Option, Ok, Err, slice_get, map}
use Rattle.std.specs.Option.{option_map, option_and_then, option_map_or}
use Rattle.fc_base.specs.Graph.{IsIn}
use Rattle.fc_base.specs.declared.ids.SlotId.{SlotId}
use Rattle.object_paths.specs.Slots.{Slot, same_text}
use Rattle.property_types.specs.declared.prop_type.PropType.{PropType}
use Rattle.property_types.specs.declared.prop_type.PropType.TheVariants.{Placement}
use Rattle.property_types.specs.declared.value.Value.{Value}
use Rattle.property_types.specs.declared.value.ValueFault.TheVariants.{Range}
use Rattle.property_types.specs.Values.{Outcome}
use Rattle.expr_tree.specs.References.{Reference, references}
use Rattle.expr_tree.specs.Tree.{Tree}
use Rattle.expr_eval.specs.Outcomes.{Reading, outcome_of}
use Rattle.expr_eval.specs.Visited.{visited}
use Rattle.document_model.specs.Dependencies.{slot_reached}
use Rattle.document_model.specs.Document.{Document, Object, object_named}
use Rattle.document_model.specs.Slots.{Rule, own, bound, inherit, global, output, type_of, rule_of}
use Rattle.document_model.proofs.Members.{and_then_some, from_find}
use Rattle.document_outcomes.specs.Full.{Meanings, at_slot, in_cells, reading, fitted}
use Rattle.document_outcomes.proofs.RowLemmas.{IsWritten}
use Rattle.doc_tables.specs.Accessors.{AreReached, reached_at, rule_at, own_by, own_at, tree_by, tree_at}
use Rattle.doc_tables.specs.Numbered.{Numbered, IsNumbered, at_number, slot_at}
use Rattle.doc_tables.specs.VarSets.{HoldsVarSets}
use Rattle.doc_tables.proofs.ReadingLemmas.{reading-by_number}
use Rattle.doc_tables.proofs.VarSetLemmas.{no_cells-reached}
use Rattle.recompute.specs.Evaluated.{expression_of, visits_of, visits_with}
use Rattle.recompute.specs.Kept.{kept_at, kept_for, reading_kept, IsGiven}
use Rattle.recompute.specs.Steps.{visits_kept}
use Rattle.recompute.proofs.KeptLemmas.{kept_for-number}
use Rattle.recompute.proofs.RuleLemmas.{type-not_placement, rule-written, object-found, bound-rule, local-own, local-bound, local-none}

-- what stands behind a reference, as one look-up
at_slot-is : (w : Slot → Outcome) (q : Option Slot) → option_map_or w q (Err Range) ≡ at_slot w q
at_slot-is w None = refl
at_slot-is w (Some s) = refl

module _ (t : Numbered) (numbered : IsNumbered t) (holds : HoldsVarSets t.document) (values : List (Option Outcome)) where
  in_cells-none : (o : Object) (w : Slot → Outcome) → IsIn o t.document.objects → (r : Option Reference) → [] ≡ in_cells t.document o w r
  in_cells-none o w here None = refl
  in_cells-none o w here (Some r) = sym (ap (map w) (no_cells-reached t.document holds o here r))

  reading_kept-is :
      (n : ℕ) (s : Slot) (o : Object) (e : Tree) (ids : List (Option SlotId))
      → slot_at t n ≡ Some s → object_named t.document s.object ≡ Some o → tree_at t n ≡ Some e → AreReached t ids (reached_at t n)
      → reading_kept values ids (Err Range) ≡ reading t.document o e (kept_for t values)
  reading_kept-is n s o e ids at named tree reached =
      let here : IsIn o t.document.objects = from_find (λ (q : Object). same_text q.name s.object) t.document.objects o named in
      let same : (k : ℕ) → option_map_or (λ (id : SlotId). kept_at values id.0) (at_number ids k) (Err Range)
      ≡ at_slot (kept_for t values) (option_and_then (slot_reached t.document o) (slice_get (references e) k)) =
      λ k. reading-by_number t (λ (id : SlotId). kept_at values id.0) (kept_for t values) (Err Range) (λ id u h. kept_for-number t numbered values id.0 u h) n s o e ids at named tree reached k
      ∙ at_slot-is (kept_for t values) (option_and_then (slot_reached t.document o) (slice_get (references e) k)) in
      λ i. record { at = λ k. same k i; inside = λ k. in_cells-none o (kept_for t values) here (slice_get (references e) k) i }

  -- the rule of a slot whose number has an expression
  rule-of_tree : (n : ℕ) (s : Slot) (e : Tree) → slot_at t n ≡ Some s → tree_at t n ≡ Some e → rule_of t.document s ≡ Some (bound e)
  rule-of_tree n s e at h =
      bound-rule (rule_of t.document s) e (sym (ap (λ (q : Option Slot). option_and_then tree_by (option_and_then (rule_of t.document) q)) at) ∙ h)

  rule-of_value : (n : ℕ) (s : Slot) (v : Value) → slot_at t n ≡ Some s → own_at t n ≡ Some v → rule_of t.document s ≡ Some (own v)
  rule-of_value n s v at h =
      let found : option_and_then own_by (rule_of t.document s) ≡ Some v = sym (ap (λ (q : Option Slot). option_and_then own_by (option_and_then (rule_of t.document) q)) at) ∙ h in
      elim (rule_of t.document s) as (λ (q : Option Rule). option_and_then own_by q ≡ Some v → q ≡ Some (own v)) [
        | None ↦ λ k. absurd (cc)
        | Some rule ↦ by_rule rule
      ] found
    where
      by_rule : (rule : Rule) → own_by rule ≡ Some v → Some rule ≡ Some (own v)
      by_rule (own u) k = let same : u ≡ v = cc in ap (λ (q : Value). Some (own q)) same
      by_rule (bound e) k = absurd (cc)
      by_rule (inherit u) k = absurd (cc)
      by_rule (global p) k = absurd (cc)
      by_rule (output p) k = absurd (cc)

  rule-none : (n : ℕ) (s : Slot) → slot_at t n ≡ Some s → own_at t n ≡ None → tree_at t n ≡ None → rule_of t.document s ≡ None
  rule-none n s at no_value no_tree =
      let a : option_and_then own_by (rule_of t.document s) ≡ None = sym (ap (λ (q : Option Slot). option_and_then own_by (option_and_then (rule_of t.document) q)) at) ∙ no_value in
      let b : option_and_then tree_by (rule_of t.document s) ≡ None = sym (ap (λ (q : Option Slot). option_and_then tree_by (option_and_then (rule_of t.document) q)) at) ∙ no_tree in
      elim (rule_of t.document s) as (λ (q : Option Rule). rule_of t.document s ≡ q → option_and_then own_by q ≡ None → option_and_then tree_by q ≡ None → q ≡ None) [
        | None ↦ λ h k l. refl
        | Some rule ↦ λ h. absurd_rule rule (rule-written t.document holds s rule h)
      ] refl a b
    where
      absurd_rule : (rule : Rule) → IsWritten rule → own_by rule ≡ None → tree_by rule ≡ None → Some rule ≡ None
      absurd_rule (own u) w k l = absurd (cc)
      absurd_rule (bound e) w k l = absurd (cc)
      absurd_rule (inherit u) w k l = absurd w
      absurd_rule (global p) w k l = absurd w
      absurd_rule (output p) w k l = absurd w

  -- an own value is given as it is
  pub given-own : (m : Meanings) (n : ℕ) (v : Value) → own_at t n ≡ Some v → IsGiven m t values n (Ok v)
  given-own m n v h = λ s at. sym (local-own m t.document s (kept_for t values) v (rule-of_value n s v at h))

  -- without a rule a fault is given
  pub given-none : (m : Meanings) (n : ℕ) → own_at t n ≡ None → tree_at t n ≡ None → IsGiven m t values n (Err Range)
  given-none m n h k = λ s at. sym (local-none m t.document s (kept_for t values) (rule-none n s at h k))

  -- what an expression gives, fitted to the type
  pub given-tree :
      (m : Meanings) (n : ℕ) (e : Tree) (ids : List (Option SlotId)) → tree_at t n ≡ Some e → AreReached t ids (reached_at t n)
      → IsGiven m t values n (fitted (option_and_then (type_of t.document) (slot_at t n)) (outcome_of (reading_kept values ids (Err Range)) 0 e))
  given-tree m n e ids tree reached = λ s at.
      let f = local-bound m t.document s (kept_for t values) e (rule-of_tree n s e at tree) in
      let o : Object = f.0 in
      ap (λ (q : Option Slot). fitted (option_and_then (type_of t.document) q) (outcome_of (reading_kept values ids (Err Range)) 0 e)) at
      ∙ ap (λ (r : Reading). fitted (type_of t.document s) (outcome_of r 0 e)) (reading_kept-is n s o e ids at f.1 tree reached)
      ∙ sym f.2

  pub given-fitted :
      (m : Meanings) (n : ℕ) (e : Tree) (ids : List (Option SlotId)) (types : Option PropType) (given o : Outcome) → tree_at t n ≡ Some e → AreReached t ids (reached_at t n)
      → types ≡ option_and_then (type_of t.document) (slot_at t n) → given ≡ outcome_of (reading_kept values ids (Err Range)) 0 e
      → o ≡ fitted types given → IsGiven m t values n o
  given-fitted m n e ids types given o tree reached typed read fits =
      let same : o ≡ fitted (option_and_then (type_of t.document) (slot_at t n)) (outcome_of (reading_kept values ids (Err Range)) 0 e) =
      fits ∙ (λ i. fitted (typed i) (read i)) in
      subst (IsGiven m t values n) (sym same) (given-tree m n e ids tree reached)

  -- of an expression as many nodes are visited as its slot says
  pub visits-tree :
      (n : ℕ) (s : Slot) (e : Tree) (ids : List (Option SlotId)) → slot_at t n ≡ Some s → tree_at t n ≡ Some e → AreReached t ids (reached_at t n)
      → visited (reading_kept values ids (Err Range)) 0 e ≡ visits_kept t values n
  visits-tree n s e ids at tree reached =
      let ruled = rule-of_tree n s e at tree in
      let found = object-found t.document s (bound e) ruled in
      let o : Object = found.0 in
      ap (λ (r : Reading). visited r 0 e) (reading_kept-is n s o e ids at found.1 tree reached)
      ∙ sym
      (ap (λ (q : Option Slot). option_map_or (visits_with (kept_for t values) t.document) q 0) at
      ∙ ap (λ (q : Option Object). visits_of (kept_for t values) t.document q (expression_of t.document s)) found.1
      ∙ ap (λ (q : Option Rule). visits_of (kept_for t values) t.document (Some o) (option_and_then tree_by q)) ruled)

  -- a type that is found is not that of four parts
  pub type-fits :
      {P : Type 0} (now : P → PropType) (found : Option P) (n : ℕ) → option_map now found ≡ option_and_then (type_of t.document) (slot_at t n)
      → IfSome found (λ p. now p ≢ Placement)
  type-fits now None n h = tt
  type-fits now (Some p) n h = λ e.
      let m = and_then_some (type_of t.document) (slot_at t n) Placement (sym h ∙ ap Some e) in
      type-not_placement t.document holds m.0 m.2

-- without an expression no node is visited
no_visits : (w : Slot → Outcome) (d : Document) (found : Option Object) → visits_of w d found None ≡ 0
no_visits w d None = refl
no_visits w d (Some o) = refl

pub visits-none : (t : Numbered) (values : List (Option Outcome)) (n : ℕ) → tree_at t n ≡ None → visits_kept t values n ≡ 0
visits-none t values n none =
    elim (slot_at t n) as (λ (q : Option Slot). option_and_then tree_by (option_and_then (rule_of t.document) q) ≡ None → option_map_or (visits_with (kept_for t values) t.document) q 0 ≡ 0) [
      | None ↦ λ h. refl
      | Some s ↦ λ h.
          ap (visits_of (kept_for t values) t.document (object_named t.document s.object)) h
          ∙ no_visits (kept_for t values) t.document (object_named t.document s.object)
    ] none

-- a slot with a value of its own has no expression
own-no_tree : (rule : Option Rule) (v : Value) → option_and_then own_by rule ≡ Some v → option_and_then tree_by rule ≡ None
own-no_tree None v h = refl
own-no_tree (Some (own u)) v h = refl
own-no_tree (Some (bound e)) v h = absurd (cc)
own-no_tree (Some (inherit u)) v h = refl
own-no_tree (Some (global k)) v h = refl
own-no_tree (Some (output k)) v h = refl

pub visits-own : (t : Numbered) (values : List (Option Outcome)) (n : ℕ) (v : Value) → own_at t n ≡ Some v → visits_kept t values n ≡ 0
visits-own t values n v h = visits-none t values n (own-no_tree (rule_at t n) v h)

-- what follows of what is there, where there is something
pub on_ok : {A E : Type 0} (P Q : A → Type 0) (r : Result A E) → ((x : A) → P x → Q x) → IfOk r P → IfOk r Q
on_ok P Q (Ok x) step h = step x h
on_ok P Q (Err e) step h = tt

-- what is so anyway is so where something is there
pub anyway : {A E : Type 0} (P : Type 0) (r : Result A E) → P → OnOk r P
anyway P (Ok x) h = h
anyway P (Err e) h = tt
