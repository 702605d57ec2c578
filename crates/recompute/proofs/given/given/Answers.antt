use Rattle.std.proofs.Common.{sym, subst, Ok, arith}
use Rattle.property_types.specs.declared.value.Value.{Value}
use Rattle.document_outcomes.specs.Typed.{no_features}
use Rattle.doc_tables.specs.Accessors.{tree_at}
use Rattle.doc_tables.proofs.ShapeLemmas.{written-none}
use Rattle.recompute.specs.Kept.{IsGiven}
use Rattle.recompute.proofs.ReadingLemmas.{given-own, given-none, visits-own, visits-none}
use Rattle.recompute.proofs.given.given.Goals as goal

pub returns-in_ok-copy-in-Some-clause-outcome : goal.returns-in_ok-copy-in-Some-clause-outcome
returns-in_ok-copy-in-Some-clause-outcome g c =
    subst (λ (v : Value). IsGiven no_features c.args.tables.now c.args.outcomes.now c.args.slot.0 (Ok v)) (sym c.in_ok-copy-in-Some.ensures)
    (given-own c.args.tables.now c.is_numbered.ensures c.holds_var_sets.ensures c.args.outcomes.now no_features c.args.slot.0 c.in-Some.value.now (sym c.in-Some.ensures))

pub returns-in_ok-copy-in-Some-clause-steps : goal.returns-in_ok-copy-in-Some-clause-steps
returns-in_ok-copy-in-Some-clause-steps g c =
    let none = visits-own c.args.tables.now c.args.outcomes.now c.args.slot.0 c.in-Some.value.now (sym c.in-Some.ensures) in
    omega arith

pub returns-in-None-shape_of-clause-outcome : goal.returns-in-None-shape_of-clause-outcome
returns-in-None-shape_of-clause-outcome g c =
    given-none c.args.tables.now c.is_numbered.ensures c.holds_var_sets.ensures c.args.outcomes.now no_features c.args.slot.0 (sym c.in-None.ensures) (written-none (tree_at c.args.tables.now c.args.slot.0) c.in-None-shape_of.ensures.shape)

pub returns-in-None-shape_of-clause-steps : goal.returns-in-None-shape_of-clause-steps
returns-in-None-shape_of-clause-steps g c =
    let none = visits-none c.args.tables.now c.args.outcomes.now c.args.slot.0 (written-none (tree_at c.args.tables.now c.args.slot.0) c.in-None-shape_of.ensures.shape) in
    omega arith
