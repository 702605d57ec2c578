use Rattle.std.proofs.Common.{◌≡◌, List, sym, subst, ap, ◌∙◌, arith}
use Rattle.property_types.specs.Values.{Outcome}
use Rattle.property_types.specs.declared.value.ValueFault.TheVariants.{Range}
use Rattle.recompute.specs.Kept.{IsGiven, reading_kept}
use Rattle.document_outcomes.specs.Full.{fitted}
use Rattle.document_outcomes.specs.Typed.{no_features}
use Rattle.std.specs.Prelude.{Option, Err, option_map}
use Rattle.fc_base.specs.declared.ids.SlotId.{SlotId}
use Rattle.doc_tables.specs.Accessors.{AreReached, reached_at, tree_at}
use Rattle.doc_tables.specs.Numbered.{slot_at}
use Rattle.doc_tables.proofs.ShapeLemmas.{written-of}
use Rattle.recompute.proofs.KeptLemmas.{some_value}
use Rattle.recompute.proofs.ReadingLemmas.{type-fits, given-fitted, on_ok, anyway, visits-tree}
use Rattle.recompute.proofs.ShapeLemmas.{nodes-at_shape, outcome-of_shape, visited-of_shape}
use Rattle.recompute.proofs.given.given_by_shape.Goals as goal

pub fitted-requires : goal.fitted-requires
fitted-requires g c = type-fits c.args.tables.now c.is_numbered.ensures c.holds_var_sets.ensures c.args.outcomes.now (λ p. p.now) c.type_of.result c.args.slot.0 c.type_of.ensures

pub returns-clause-outcome : goal.returns-clause-outcome
returns-clause-outcome g c =
    let w = written-of (tree_at c.args.tables.now c.args.slot.0) c.args.shape.now c.requires.shape in
    on_ok (λ (o : Outcome). o ≡ fitted (option_map (λ p. p.now) c.type_of.result) c.in_ok-given.given) (IsGiven no_features c.args.tables.now c.args.outcomes.now c.args.slot.0) c.fitted.result
    (λ o fits.
    given-fitted c.args.tables.now c.is_numbered.ensures c.holds_var_sets.ensures c.args.outcomes.now no_features c.args.slot.0 w.0 c.deref.result.now
    (option_map (λ p. p.now) c.type_of.result) c.in_ok-given.given o w.1 (subst (λ (ids : List (Option SlotId)). AreReached c.args.tables.now ids (reached_at c.args.tables.now c.args.slot.0)) (sym c.deref.ensures.value) c.in_ok-reached.ensures) c.type_of.ensures
    (c.in_ok-given.ensures.outcome ∙ outcome-of_shape (reading_kept c.args.outcomes.now c.deref.result.now (Err Range)) 0 w.0 c.args.shape.now w.2) fits)
    c.fitted.ensures

pub returns-clause-steps : goal.returns-clause-steps
returns-clause-steps g c =
    let w = written-of (tree_at c.args.tables.now c.args.slot.0) c.args.shape.now c.requires.shape in
    let found = some_value (slot_at c.args.tables.now c.args.slot.0) c.requires.slot in
    let visits =
    visited-of_shape (reading_kept c.args.outcomes.now c.deref.result.now (Err Range)) 0 w.0 c.args.shape.now w.2
    ∙ visits-tree c.args.tables.now c.is_numbered.ensures c.holds_var_sets.ensures c.args.outcomes.now c.args.slot.0 found.0 w.0 c.deref.result.now
    found.1 w.1 (subst (λ (ids : List (Option SlotId)). AreReached c.args.tables.now ids (reached_at c.args.tables.now c.args.slot.0)) (sym c.deref.ensures.value) c.in_ok-reached.ensures) in
    let steps = c.in_ok-given.ensures.steps in
    anyway _ c.fitted.result (omega arith)

pub returns-in_err-given-clause-at_most : goal.returns-in_err-given-clause-at_most
returns-in_err-given-clause-at_most g c =
    let nodes = nodes-at_shape c.args.tables.now c.args.slot.0 c.args.shape.now c.requires.shape in
    let most = c.evaluate.ensures.at_most in
    omega (arith, nodes, most)

pub returns-clause-at_most : goal.returns-clause-at_most
returns-clause-at_most g c =
    let nodes = nodes-at_shape c.args.tables.now c.args.slot.0 c.args.shape.now c.requires.shape in
    let most = c.evaluate.ensures.at_most in
    omega (arith, nodes, most)
