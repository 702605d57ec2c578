-- How many nodes are visited hangs on the dependencies of a slot alone, and of a bound slot it is one at
-- least.
use Rattle.std.proofs.Common.{◌≡◌, ◌≤◌, List, [], Some, None, refl, sym, ◌∙◌, ap, subst, arith}
use Rattle.std.specs.Prelude.{Option, IsSome}
use Rattle.std.specs.Option.{option_and_then, option_map_or}
use Rattle.fc_base.specs.Graph.{IsIn}
use Rattle.object_paths.specs.Slots.{Slot}
use Rattle.property_types.specs.Values.{Outcome}
use Rattle.expr_eval.proofs.VisitLemmas.{one-visited, visited-le}
use Rattle.expr_eval.specs.Outcomes.{Reading}
use Rattle.expr_eval.specs.Visited.{visited}
use Rattle.expr_tree.specs.Tree.{Tree}
use Rattle.document_model.specs.Document.{Document, Object, object_named}
use Rattle.document_model.specs.Dependencies.{deps, deps_by}
use Rattle.document_model.specs.Slots.{Rule, own, bound, inherit, global, output, rule_of}
use Rattle.document_outcomes.specs.Full.{reading}
use Rattle.document_outcomes.proofs.AgreementLemmas.{AgreeOn, deps-found}
use Rattle.document_outcomes.proofs.OutcomeLemmas.{reading-agreed}
use Rattle.doc_tables.specs.Accessors.{tree_by}
use Rattle.recompute.specs.Evaluated.{expression_of, nodes_of, visits_of, visits_with}
use Rattle.recompute.proofs.RuleLemmas.{bound-rule, object-found}

module _ (d : Document) (s : Slot) (v w : Slot → Outcome) (agree : AgreeOn (deps d s) v w) where
  by_object :
      (rule : Option Rule) (found : Option Object) → rule_of d s ≡ rule → object_named d s.object ≡ found
      → visits_of v d found (option_and_then tree_by rule) ≡ visits_of w d found (option_and_then tree_by rule)
  by_object rule None ruled here = refl
  by_object None (Some o) ruled here = refl
  by_object (Some (own x)) (Some o) ruled here = refl
  by_object (Some (inherit t)) (Some o) ruled here = refl
  by_object (Some (global k)) (Some o) ruled here = refl
  by_object (Some (output k)) (Some o) ruled here = refl
  by_object (Some (bound e)) (Some o) ruled here =
      let same : deps d s ≡ deps_by d o (Some (bound e)) =
      deps-found d s ∙ ap (λ (q : Option Object). option_map_or (λ o. deps_by d o (rule_of d s)) q []) here ∙ ap (deps_by d o) ruled in
      ap (λ (r : Reading). visited r 0 e) (reading-agreed d o e v w (λ x i. agree x (subst (λ (q : List Slot). IsIn x q) (sym same) i)))

  -- where two maps agree on what the slot depends on, as many nodes are visited
  pub visits-read : visits_with v d s ≡ visits_with w d s
  visits-read = by_object (rule_of d s) (object_named d s.object) refl refl

-- of a bound slot at least one node is visited
pub bound-visited : (w : Slot → Outcome) (d : Document) (s : Slot) → IsSome (expression_of d s) → 1 ≤ visits_with w d s
bound-visited w d s h =
    let tree = some_expression (expression_of d s) h in
    let e : Tree = tree.0 in
    let ruled = bound-rule (rule_of d s) e tree.1 in
    let found = object-found d s (bound e) ruled in
    let o : Object = found.0 in
    let same : visits_with w d s ≡ visited (reading d o e w) 0 e = ap (λ (q : Option Object). visits_of w d q (expression_of d s)) found.1 ∙ ap (visits_of w d (Some o)) tree.1 in
    let one = one-visited (reading d o e w) 0 e in
    omega arith
  where
    some_expression : (o : Option Tree) → IsSome o → (e : Tree) × (o ≡ Some e)
    some_expression None k = absurd (cc)
    some_expression (Some e) k = (e, refl)

-- and no more than its expression has
pub visits-within : (w : Slot → Outcome) (d : Document) (s : Slot) → visits_with w d s ≤ nodes_of (expression_of d s)
visits-within w d s = by_parts (object_named d s.object) (expression_of d s)
  where
    by_parts : (found : Option Object) (tree : Option Tree) → visits_of w d found tree ≤ nodes_of tree
    by_parts None tree = omega arith
    by_parts (Some o) None = omega arith
    by_parts (Some o) (Some e) = visited-le (reading d o e w) 0 e
